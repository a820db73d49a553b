-- A call of a part is a call of the whole.
use Rattle.std.proofs.Common.{◌≡◌, inr, sym, subst}
use Rattle.std.specs.Prelude.{Option, Some, None, IfSome, Ok, Err}
use Rattle.vk_base.specs.declared.memory.Memory as memory
use Rattle.vk_base.specs.declared.stops.Outage.{Outage}
use Rattle.vk_base.specs.declared.stops.Outage.TheVariants.{Memory}
use Rattle.vk_spec.specs.States.{Told, State}
use Rattle.vk_spec.specs.Standing.{Disk, disk_of, OnFiles}
use Rattle.vk_protocol.specs.Protocols.{Protocol, answer_of, ends, asks, ◌>>=◌}
use Rattle.vk_protocol.specs.Runs.{CanAsk, NextIs, Stepped}
use Rattle.vk_protocol.proofs.RunLemmas.{stepped_within, reply_calm}

can_first : {A B : Type 0} (p : Protocol A) (k : A → Protocol B) (d : Disk) → CanAsk (p >>= k) d → CanAsk p d
can_first (ends x) k d h = tt
can_first (asks call j) k d h = h

told_part : {S A B : Type 0} (p : S → Protocol A) (k : S → A → Protocol B) (o : Option Told) → IfSome o (λ t. (s : S) × CanAsk (p s >>= k s) (disk_of t.files)) → IfSome o (λ t. (s : S) × CanAsk (p s) (disk_of t.files))
told_part p k None h = tt
told_part p k (Some t) h = (h.0, can_first (p h.0) (k h.0) (disk_of t.files) h.1)

-- what may be asked of the whole may be asked of its first part
pub can_part : {S A B : Type 0} (p : S → Protocol A) (k : S → A → Protocol B) (a : State) → OnFiles (λ d. (s : S) × CanAsk (p s >>= k s) d) a → OnFiles (λ d. (s : S) × CanAsk (p s) d) a
can_part p k a h = told_part p k a.told h

-- memory ran out after the call
pub lacked_after : {A : Type 0} (p q r : Protocol A) (u : Unit {0}) (m : memory.Memory) (a b : State) → Stepped p (Ok u) q a b → Stepped p (Err (Memory m)) r a b
lacked_after (ends x) q r u m a b h = absurd h
lacked_after (asks call k) q r u m a b h = inr (answer_of call h.0, h.1, reply_calm call h.0)

-- the call was made, and what follows is known
pub part_stepped : {A B X Y : Type 0} (p : Protocol A) (means : X → Protocol A) (k : A → Protocol B) (follows : Y → Protocol B) (x : X) (y : Y) (a b : State) → NextIs p means (Ok x) a b → follows y ≡ means x >>= k → NextIs (p >>= k) follows (Ok y) a b
part_stepped p means k follows x y a b h is = subst (λ q. Stepped (p >>= k) (Ok tt) q a b) (sym is) (stepped_within p (means x) k (Ok tt) a b h)

-- it stopped
pub part_stopped : {A B X Y : Type 0} (p : Protocol A) (means : X → Protocol A) (k : A → Protocol B) (follows : Y → Protocol B) (e : Outage) (a b : State) → NextIs p means (Err e) a b → NextIs (p >>= k) follows (Err e) a b
part_stopped p means k follows e a b h = stepped_within p p k (Err e) a b h

-- memory ran out behind it
pub part_lacked : {A B X Y : Type 0} (p : Protocol A) (means : X → Protocol A) (k : A → Protocol B) (follows : Y → Protocol B) (x : X) (m : memory.Memory) (a b : State) → NextIs p means (Ok x) a b → NextIs (p >>= k) follows (Err (Memory m)) a b
part_lacked p means k follows x m a b h = lacked_after (p >>= k) (means x >>= k) (p >>= k) tt m a b (stepped_within p (means x) k (Ok tt) a b h)
