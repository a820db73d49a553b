-- Running, step by step.
use Rattle.std.proofs.Common.{◌≡◌, inl, inr, false, refl, ap, sym, subst}
use Rattle.std.specs.Prelude.{Option, Some, None, IfSome, IfOk, Result, Ok, Err}
use Rattle.vk_spec.specs.States.{Told, State, Ends, OnlyRead}
use Rattle.vk_spec.specs.Standing.{Disk, disk_of, OnFiles}
use Rattle.vk_spec.specs.Files.{Files, IsTree}
use Rattle.vk_spec.specs.Calls.{Call, kind_of, read_of, piece_of, list_of, write_of, rename_of, remove_of, fails, Says, IsSmall, is_failed, CanMake, Content, ToldBecomes, noted_by}
use Rattle.vk_spec.proofs.CallLemmas.{read_once, says_of}
use Rattle.vk_spec.proofs.StateLemmas.{ends_then, read_nothing, read_then}
use Rattle.vk_base.specs.declared.memory.Memory as memory
use Rattle.vk_base.specs.declared.stops.Outage.{Outage}
use Rattle.vk_base.specs.declared.stops.Outage.TheVariants.{Failed, Memory}
use Rattle.vk_base.specs.declared.stops.Stop.{Stop}
use Rattle.vk_base.specs.declared.stops.Stop.TheVariants as stop
use Rattle.vk_base.specs.Stops.{has_failed, was_out, is_outage}
use Rattle.vk_tree.proofs.OnFilesLemmas.{files_then, files_two, files_on, files_back}
use Rattle.vk_tree.specs.Trees.{IsTreeDisk}
use Rattle.vk_protocol.specs.Asking.{split}
use Rattle.vk_protocol.specs.Protocols.{Reply, answer_of, Protocol, ends, asks, ◌>>=◌}
use Rattle.vk_protocol.specs.Runs.{Stops, Asked, LacksOnly, Stepped, IsEnd, StopsAt, Ran, Leads, Replies, AsksOnly, Reads, Tells, CanAsk, CanRun, CanRunOn, IsAtEnd, CameTo, NextIs}

-- ---- steps put together

pub leads_nothing : {A : Type 0} (p : Protocol A) (s : State) → Leads p p s s
leads_nothing p s result end ran = ran

pub leads_then : {A : Type 0} (p q r : Protocol A) (a b c : State) → Leads p q a b → Leads q r b c → Leads p r a c
leads_then p q r a b c one two result end ran = one result end (two result end ran)

pub stepped_leads : {A : Type 0} (p q : Protocol A) (u : Unit {0}) (a b : State) → Stepped p (Ok u) q a b → Leads p q a b
stepped_leads (ends x) q u a b step result end ran = absurd step
stepped_leads (asks call k) q u a b step result end ran = inr (step.0, b, step.1, subst (λ p. Ran p result b end) step.2 ran)

-- a step that stopped
pub stepped_stops : {A : Type 0} (p q : Protocol A) (e : Outage) (a b : State) → Stepped p (Err e) q a b → Ran p (Err e) a b
stepped_stops (ends x) q e a b step = step
stepped_stops (asks call k) q e a b step = inl step

pub ended : {A : Type 0} (x : A) (s : State) → Ran (ends x) (Ok x) s s
ended x s = (refl, refl)

-- ---- a part of a longer protocol

pub stays : {A : Type 0} (p q : Protocol A) (e : Outage) (a b : State) → LacksOnly e → b ≡ a → Stepped p (Err e) q a b
stays (ends x) q e a b lack same = (lack, same)
stays (asks call k) q Failed a b lack same = absurd lack
stays (asks call k) q (Memory m) a b lack same = inl same

pub stepped_within : {A B : Type 0} (p q : Protocol A) (f : A → Protocol B) (result : Result (Unit {0}) Outage) (a b : State) → Stepped p result q a b → Stepped (p >>= f) result (q >>= f) a b
stepped_within (ends x) q f (Ok u) a b h = absurd h
stepped_within (ends x) q f (Err e) a b h = stays (f x) (q >>= f) e a b h.0 h.1
stepped_within (asks call k) q f (Ok u) a b h = (h.0, h.1, ap (λ p. p >>= f) h.2)
stepped_within (asks call k) q f (Err e) a b h = h

-- ---- protocols that only read

none_told : (P : Disk → Type 0) (o : Option Told) → ((d : Disk) → P d) → IfSome o (λ t. P (disk_of t.files))
none_told P None all = tt
none_told P (Some t) all = all (disk_of t.files)

pub reply_calm : (call : Call) (reply : Reply call) → is_failed (answer_of call reply) ≡ false
reply_calm call (Ok x) = refl
reply_calm call (Err r) = refl

stopped_tells : {A : Type 0} (P : Disk → A → Type 0) (call : Call) (result : Result A Outage) (a b : State) → StopsAt call result a b → OnFiles (λ d. IfOk result (P d)) a
stopped_tells P call (Ok x) a b h = absurd h
stopped_tells P call (Err e) a b h = none_told (λ d. Unit {0}) a.told (λ d. tt)

-- what the run says of the files before, where it came to an end
pub ran_tells : {A : Type 0} (P : Disk → A → Type 0) (p : Protocol A) (result : Result A Outage) (a b : State) → AsksOnly Reads p → Ran p result a b → OnFiles (λ d. Tells (P d) p d) a → OnFiles (λ d. IfOk result (P d)) a
ran_tells P (ends x) (Ok y) a b reads ran tells = files_then (λ d. P d x) (λ d. P d y) a (λ d h. subst (P d) (sym ran.0) h) tells
ran_tells P (ends x) (Err e) a b reads ran tells = none_told (λ d. Unit {0}) a.told (λ d. tt)
ran_tells P (asks call k) result a b reads (inl stop) tells = stopped_tells P call result a b stop
ran_tells P (asks call k) result a b reads (inr (reply, mid, made, more)) tells =
    let read = read_once {answer = answer_of call reply} reads.0 made (reply_calm call reply) in
    let may = files_two (Says call (answer_of call reply)) IsTreeDisk (Replies call reply) a (λ d s t. record { says = s; small = made.small; tree = t }) (says_of made) made.tree in
    let here = files_two (λ d. Tells (P d) (asks call k) d) (Replies call reply) (λ d. Tells (P d) (k reply) d) a (λ d t m. t reply m) tells may in
    files_back (λ d. IfOk result (P d)) read (ran_tells P (k reply) result mid b (reads.1 reply) more (files_on (λ d. Tells (P d) (k reply) d) read here))

lack_calm : (e : Outage) → LacksOnly e → is_outage e ≡ false
lack_calm Failed h = absurd h
lack_calm (Memory m) h = refl

pub end_calm : {A : Type 0} (x : A) (result : Result A Outage) → IsEnd x result → was_out result ≡ false
end_calm x (Ok y) h = refl
end_calm x (Err e) h = lack_calm e h

read_stop : (call : Call) (e : Outage) (a b : State) → Reads call → Stops call e a b → OnlyRead (is_outage e) a b
read_stop call Failed a b reads h = read_once {answer = Err fails} reads h refl
read_stop call (Memory m) a b reads (inl same) = subst (λ s. OnlyRead false a s) (sym same) (read_nothing a)
read_stop call (Memory m) a b reads (inr made) = read_once {answer = made.0} reads made.1 made.2

read_stopped : {A : Type 0} (call : Call) (result : Result A Outage) (a b : State) → Reads call → StopsAt call result a b → OnlyRead (was_out result) a b
read_stopped call (Ok x) a b reads h = absurd h
read_stopped call (Err e) a b reads h = read_stop call e a b reads h

-- nothing but reading was done
pub ran_reads : {A : Type 0} (p : Protocol A) (result : Result A Outage) (a b : State) → AsksOnly Reads p → Ran p result a b → OnlyRead (was_out result) a b
ran_reads (ends x) result a b reads ran = subst (λ s. OnlyRead (was_out result) a s) (sym ran.1) (subst (λ f. OnlyRead f a a) (sym (end_calm x result ran.0)) (read_nothing a))
ran_reads (asks call k) result a b reads (inl stop) = read_stopped call result a b reads.0 stop
ran_reads (asks call k) result a b reads (inr (reply, mid, made, more)) = read_then (read_once {answer = answer_of call reply} reads.0 made (reply_calm call reply)) (ran_reads (k reply) result mid b (reads.1 reply) more)

-- ---- what a caller has to see to

can_first_told : {A : Type 0} (p : Protocol A) (o : Option Told) → IfSome o (λ t. CanRun p t.files) → IfSome o (λ t. CanAsk p (disk_of t.files))
can_first_told p None h = tt
can_first_told (ends x) (Some t) h = tt
can_first_told (asks call k) (Some t) h = h.0

pub can_first : {A : Type 0} (p : Protocol A) (s : State) → CanRunOn p s → OnFiles (CanAsk p) s
can_first p s h = can_first_told p s.told h

can_after : {A : Type 0} (call : Call) (k : Reply call → Protocol A) (reply : Reply call) (x y : Option Told) → IsSmall call (answer_of call reply) → ToldBecomes (noted_by call (answer_of call reply)) (Content call (answer_of call reply)) x y
    → IfSome y (λ t. IsTree t.files) → IfSome x (λ t. CanRun (asks call k) t.files) → IfSome y (λ t. CanRun (k reply) t.files)
can_after call k reply None y small m tree h = subst (λ (o : Option Told). IfSome o (λ t. CanRun (k reply) t.files)) (sym m) tt
can_after call k reply (Some t) None small m tree h = tt
can_after call k reply (Some t) (Some u) small m tree h = h.1 reply u.files (record { says = m.1.0; small = small; leaves = m.1.1 }) tree

pub can_then : {A : Type 0} (p q : Protocol A) (u : Unit {0}) (a b : State) → Stepped p (Ok u) q a b → CanRunOn p a → CanRunOn q b
can_then (ends x) q u a b step h = absurd step
can_then (asks call k) q u a b step h = subst (λ r. CanRunOn r b) (sym step.2) (can_after call k step.0 a.told b.told step.1.small step.1.content step.1.tree_after h)

pub lack_here : {A : Type 0} (p : Protocol A) (m : memory.Memory) (s : State) → Ran p (Err (Memory m)) s s
lack_here (ends x) m s = (tt, refl)
lack_here (asks call k) m s = inl (inl refl)

pub came_end : {A : Type 0} (p q : Protocol A) (u : Unit {0}) (a c : State) → IsAtEnd q → Leads p q a c → CameTo p (Ok u) q a c
came_end p q u a c end leads = (leads, end)

pub came_stop : {A : Type 0} (p q r : Protocol A) (e : Outage) (a b c : State) → Leads p q a b → Stepped q (Err e) r b c → CameTo p (Err e) r a c
came_stop p q r e a b c leads step = leads (Err e) c (stepped_stops q r e b c step)

pub came_lack : {A : Type 0} (p q : Protocol A) (m : memory.Memory) (a b : State) → Leads p q a b → CameTo p (Err (Memory m)) q a b
came_lack p q m a b leads = leads (Err (Memory m)) b (lack_here q m b)

-- a run that came to this end
pub ran_to : {A : Type 0} (p q : Protocol A) (x : A) (u : Unit {0}) (a b : State) → q ≡ ends x → CameTo p (Ok u) q a b → Ran p (Ok x) a b
ran_to p q x u a b is came = came.0 (Ok x) b (subst (λ r. Ran r (Ok x) b b) (sym is) (ended x b))

can_read : (call : Call) (d : Disk) → Reads call → CanMake call d
can_read (kind_of p) d h = tt
can_read (read_of p limit) d h = tt
can_read (piece_of p at most) d h = tt
can_read (list_of p) d h = tt
can_read (write_of p bytes) d h = (cc)
can_read (rename_of p q) d h = (cc)
can_read (remove_of p) d h = (cc)

each_told : (P : Told → Type 0) (o : Option Told) → ((t : Told) → P t) → IfSome o P
each_told P None all = tt
each_told P (Some t) all = all t

-- protocols that only read may be run
pub reads_can : {A : Type 0} (p : Protocol A) (f : Files) → AsksOnly Reads p → CanRun p f
reads_can (ends x) f h = tt
reads_can (asks call k) f h = (can_read call (disk_of f) h.0, λ reply g does tree. reads_can (k reply) g (h.1 reply))

pub reads_can_on : {A : Type 0} (p : Protocol A) (s : State) → AsksOnly Reads p → CanRunOn p s
reads_can_on p s h = each_told (λ t. CanRun p t.files) s.told (λ t. reads_can p t.files h)

pub each_on : (P : Disk → Type 0) (s : State) → ((d : Disk) → P d) → OnFiles P s
each_on P s all = none_told P s.told all

-- ---- what a call leads to, as the code has it

pub asked_next : {A X R : Type 0} (call : Call) (k : Reply call → Protocol A) (means : X → Protocol A) (P : Reply call → R → Type 0) (r : R) (x : X) (a b : State) → Asked call P (Ok r) a b → ((reply : Reply call) → P reply r → means x ≡ k reply) → NextIs (asks call k) means (Ok x) a b
asked_next call k means P r x a b asked leads = (asked.0, asked.1, leads asked.0 asked.2)

pub stopped_next : {A X : Type 0} (call : Call) (k : Reply call → Protocol A) (means : X → Protocol A) (e : Outage) (a b : State) → Stops call e a b → NextIs (asks call k) means (Err e) a b
stopped_next call k means e a b stops = stops

pub lacked_next : {A X R : Type 0} (call : Call) (k : Reply call → Protocol A) (means : X → Protocol A) (P : Reply call → R → Type 0) (r : R) (m : memory.Memory) (a b : State) → Asked call P (Ok r) a b → NextIs (asks call k) means (Err (Memory m)) a b
lacked_next call k means P r m a b asked = inr (answer_of call asked.0, asked.1, reply_calm call asked.0)

pub early_next : {A X : Type 0} (p : Protocol A) (means : X → Protocol A) (m : memory.Memory) (a : State) → NextIs p means (Err (Memory m)) a a
early_next p means m a = stays p p (Memory m) a a tt refl

-- ---- how the counts end

stop_ends : (call : Call) (e : Outage) (a b : State) → Stops call e a b → Ends (is_outage e) a b
stop_ends call Failed a b made = made.ends
stop_ends call (Memory m) a b (inl same) = subst (λ s. Ends false a s) (sym same) (record { faults = refl; sure = refl; safe = λ s. refl })
stop_ends call (Memory m) a b (inr made) = subst (λ f. Ends f a b) made.2 made.1.ends

stopped_ends : {A : Type 0} (call : Call) (result : Result A Outage) (a b : State) → StopsAt call result a b → Ends (was_out result) a b
stopped_ends call (Ok x) a b h = absurd h
stopped_ends call (Err e) a b h = stop_ends call e a b h

-- a run fails only where a call did
pub ran_ends : {A : Type 0} (p : Protocol A) (result : Result A Outage) (a b : State) → Ran p result a b → Ends (was_out result) a b
ran_ends (ends x) result a b ran = subst (λ s. Ends (was_out result) a s) (sym ran.1) (subst (λ f. Ends f a a) (sym (end_calm x result ran.0)) (record { faults = refl; sure = refl; safe = λ s. refl }))
ran_ends (asks call k) result a b (inl stop) = stopped_ends call result a b stop
ran_ends (asks call k) result a b (inr (reply, mid, made, more)) = ends_then (subst (λ f. Ends f a mid) (reply_calm call reply) made.ends) (ran_ends (k reply) result mid b more)

-- the same of a call that tells its faults
split_ends : {A F : Type 0} (p : Protocol (Result A F)) (result : Result A (Stop F)) (a b : State) → Ran p (split result) a b → Ends (has_failed result) a b
split_ends p (Ok x) a b ran = ran_ends p (Ok (Ok x)) a b ran
split_ends p (Err (stop.Fault fault)) a b ran = ran_ends p (Ok (Err fault)) a b ran
split_ends p (Err stop.Failed) a b ran = ran_ends p (Err Failed) a b ran
split_ends p (Err (stop.Memory m)) a b ran = ran_ends p (Err (Memory m)) a b ran

pub joined_ends : {A F : Type 0} (p : Protocol (Result A F)) (result : Result A (Stop F)) (came : Result (Result A F) Outage) (a b : State) → split result ≡ came → Ran p came a b → Ends (has_failed result) a b
joined_ends p result came a b same ran = split_ends p result a b (subst (λ r. Ran p r a b) (sym same) ran)
