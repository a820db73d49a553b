-- A look, step by step and as a whole.
use Rattle.std.proofs.Common.{◌≡◌, sym, subst}
use Rattle.std.specs.Prelude.{IfOk, Result, Ok, Err}
use Rattle.vk_spec.specs.States.{State}
use Rattle.vk_spec.specs.Standing.{OnFiles}
use Rattle.vk_base.specs.Stops.{was_out}
use Rattle.vk_base.specs.declared.memory.Memory.{Memory}
use Rattle.vk_base.specs.declared.stops.Outage.{Outage}
use Rattle.vk_base.specs.declared.stops.Outage.TheVariants as outage
use Rattle.vk_protocol.specs.Protocols.{Protocol, ends, asks}
use Rattle.vk_protocol.specs.Runs.{AsksOnly, Reads, Ran, Tells, CanRunOn, CameTo, NextIs, Stepped}
use Rattle.vk_protocol.proofs.RunLemmas.{ran_tells, reads_can_on, each_on, ran_to, lack_here}
use Rattle.vk_look.specs.LookIs.{Wanted, LookIs}
use Rattle.vk_look.specs.Looks.{IsByBytes, Looked, look_of}
use Rattle.vk_look.proofs.LimitLemmas.{ran_by_bytes}
use Rattle.vk_look.proofs.LookTells.{look_tells}
use Rattle.vk_look.specs.LookCalls.{ReadOnceBelow}
use Rattle.vk_look.proofs.CallLemmas.{look_below, look_reads}
use Rattle.vk_look.proofs.OnceLemmas.{look_anew}
use Rattle.vk_look.proofs.OnceRuns.{ran_once}
use Rattle.vk_looking.specs.LookMachine.{now_means, look_means, wanted_view}
use Rattle.vk_looking.specs.declared.looking.LookNow.{LookNow}
use Rattle.vk_looking.specs.declared.looking.Looking.{Looking}

-- ---- one step

other_rest : {A : Type 0} (p q r : Protocol A) (e : Outage) (a b : State) → Stepped p (Err e) q a b → Stepped p (Err e) r a b
other_rest (ends x) q r e a b h = h
other_rest (asks call k) q r e a b h = h

pub look_stepped : (l : Looking) (at next : LookNow) (u : Unit {0}) (a b : State) → at ≡ l.at → NextIs (now_means (wanted_view l.wanted) at) (now_means (wanted_view l.wanted)) (Ok next) a b
    → Stepped (look_means l) (Ok u) (look_means (record { alloc = l.alloc; wanted = l.wanted; at = next })) a b
unfolding look_means
look_stepped l at next u a b is h = subst (λ x. Stepped (now_means (wanted_view l.wanted) x) (Ok u) (now_means (wanted_view l.wanted) next) a b) is h

pub look_stopped : (l m : Looking) (at : LookNow) (e : Outage) (a b : State) → at ≡ l.at → NextIs (now_means (wanted_view l.wanted) at) (now_means (wanted_view l.wanted)) (Err e) a b → Stepped (look_means l) (Err e) (look_means m) a b
unfolding look_means
look_stopped l m at e a b is h = other_rest (now_means (wanted_view l.wanted) l.at) (now_means (wanted_view l.wanted) l.at) (now_means (wanted_view m.wanted) m.at) e a b (subst (λ x. Stepped (now_means (wanted_view l.wanted) x) (Err e) (now_means (wanted_view l.wanted) x) a b) is h)

-- ---- a whole look

module _ (w : Wanted) where
  pub look_can : (p : Protocol Looked) (s : State) → p ≡ look_of w → CanRunOn p s
  look_can p s is = reads_can_on p s (subst (AsksOnly Reads) (sym is) (look_reads w))

  pub look_ran : (p q : Protocol Looked) (u : Unit {0}) (l : Looked) (a b : State) → p ≡ look_of w → q ≡ ends l → CameTo p (Ok u) q a b → Ran (look_of w) (Ok l) a b
  look_ran p q u l a b is end came = subst (λ x. Ran x (Ok l) a b) is (ran_to p q l u a b end came)

  pub look_out : (p q : Protocol Looked) (e : Outage) (a b : State) → p ≡ look_of w → CameTo p (Err e) q a b → Ran (look_of w) (Err e) a b
  look_out p q e a b is came = subst (λ x. Ran x (Err e) a b) is came

  pub look_lacked : (p q : Protocol Looked) (u : Unit {0}) (m : Memory) (a b : State) → p ≡ look_of w → CameTo p (Ok u) q a b → Ran (look_of w) (Err (outage.Memory m)) a b
  look_lacked p q u m a b is came = subst (λ x. Ran x (Err (outage.Memory m)) a b) is (came.0 (Err (outage.Memory m)) b (lack_here q m b))

  pub look_told : (r : Result Looked Outage) (a b : State) → Ran (look_of w) r a b → OnFiles (λ d. IfOk r (λ l. LookIs w l d)) a
  look_told r a b ran = ran_tells (λ d l. LookIs w l d) (look_of w) r a b (look_reads w) ran (each_on (λ d. Tells (λ l. LookIs w l d) (look_of w) d) a (look_tells w))

  pub look_once : (r : Result Looked Outage) (a b : State) → Ran (look_of w) r a b → ReadOnceBelow w.entry (was_out r) a b
  look_once r a b ran = ran_once w.entry (look_of w) r a b (look_below w) (look_anew w) ran

  pub look_limit : (r : Result Looked Outage) (a b : State) → Ran (look_of w) r a b → IfOk r (IsByBytes w.most)
  look_limit (Ok l) a b ran = ran_by_bytes w l a b ran
  look_limit (Err e) a b ran = tt
