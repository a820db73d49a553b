-- A walk asks for listings of its folder and of folders below it, and for nothing else.
use Rattle.std.proofs.Common.{◌≡◌, inl, inr, zero, suc, ℕ, List, [], ◌∷◌, ◌++◌, true, false, refl, ap, sym, subst}
use Rattle.std.proofs.lemmas.List.{append-nil}
use Rattle.std.specs.Prelude.{Bool, Result, Ok, Err}
use Rattle.vk_spec.specs.Paths.{Path, Begins}
use Rattle.vk_spec.specs.States.{State, OnlyListed}
use Rattle.vk_spec.specs.Calls.{Call, Output, Answer, fails, is_failed, is_reading, Made}
use Rattle.vk_spec.proofs.CallLemmas.{listed_once}
use Rattle.vk_spec.proofs.StateLemmas.{listed_nothing, listed_then}
use Rattle.vk_base.specs.Stops.{was_out, is_outage}
use Rattle.vk_base.specs.declared.stops.Outage.{Outage}
use Rattle.vk_base.specs.declared.stops.Outage.TheVariants.{Failed, Memory}
use Rattle.vk_protocol.specs.Protocols.{answer_of, Protocol, ends, asks, each}
use Rattle.vk_protocol.specs.Runs.{AsksOnly, Ran, Reads, Stops, StopsAt}
use Rattle.vk_protocol.proofs.ProtocolLemmas.{only_each, only_more, only_ok}
use Rattle.vk_protocol.proofs.RunLemmas.{end_calm, reply_calm}
use Rattle.vk_walk.specs.Walks.{Limits}
use Rattle.vk_walk.proofs.StepLemmas.{begins_longer}
use Rattle.vk_walk.specs.WalkProtocol.{ListsIn, listed, walk_at, walk_of}

-- ---- what is asked

lists_below : (folder : Path) (most left : ℕ) (path : Path) (is : Bool) (found : List Path) → Begins folder path → AsksOnly (ListsIn folder) (walk_at most left path is found)
lists_below folder most left path false found below = tt
lists_below folder most zero path true found below = tt
lists_below folder most (suc left) path true found below = (
  (path, below, refl),
  λ reply. only_ok (ListsIn folder) (λ es. each (λ e found. walk_at most left (path ++ e.name ∷ []) e.folder found) es found) (listed reply)
      (λ es. only_each (ListsIn folder) (λ e found. walk_at most left (path ++ e.name ∷ []) e.folder found) es found (λ e t. lists_below folder most left (path ++ e.name ∷ []) e.folder t (begins_longer folder path e.name below))),
)

pub walk_lists : (most : Limits) (folder : Path) → AsksOnly (ListsIn folder) (walk_of most folder)
unfolding walk_of
walk_lists most folder = lists_below folder most.files (suc most.depth) folder true [] ([], sym (append-nil folder))

pub walk_reads : (most : Limits) (folder : Path) → AsksOnly Reads (walk_of most folder)
walk_reads most folder = only_more (ListsIn folder) Reads (walk_of most folder) (λ call h. ap is_reading h.2) (walk_lists most folder)

-- ---- what a run of it leaves

listed_call : (folder : Path) (call : Call) (answer : Answer (Output call)) (failed : Bool) (a b : State) → ListsIn folder call → Made call answer a b → is_failed answer ≡ failed → OnlyListed failed a b
listed_call folder call answer failed a b lists made same =
    subst (λ c. (answer : Answer (Output c)) → Made c answer a b → is_failed answer ≡ failed → OnlyListed failed a b) (sym lists.2) (λ answer m e. listed_once m e) answer made same

listed_stop : (folder : Path) (call : Call) (e : Outage) (a b : State) → ListsIn folder call → Stops call e a b → OnlyListed (is_outage e) a b
listed_stop folder call Failed a b lists h = listed_call folder call (Err fails) true a b lists h refl
listed_stop folder call (Memory m) a b lists (inl same) = subst (λ s. OnlyListed false a s) (sym same) (listed_nothing a)
listed_stop folder call (Memory m) a b lists (inr made) = listed_call folder call made.0 false a b lists made.1 made.2

listed_stopped : {A : Type 0} (folder : Path) (call : Call) (result : Result A Outage) (a b : State) → ListsIn folder call → StopsAt call result a b → OnlyListed (was_out result) a b
listed_stopped folder call (Ok x) a b lists h = absurd h
listed_stopped folder call (Err e) a b lists h = listed_stop folder call e a b lists h

-- nothing but listing was done
pub ran_lists : {A : Type 0} (folder : Path) (p : Protocol A) (result : Result A Outage) (a b : State) → AsksOnly (ListsIn folder) p → Ran p result a b → OnlyListed (was_out result) a b
ran_lists folder (ends x) result a b lists ran = subst (λ s. OnlyListed (was_out result) a s) (sym ran.1) (subst (λ f. OnlyListed f a a) (sym (end_calm x result ran.0)) (listed_nothing a))
ran_lists folder (asks call k) result a b lists (inl stop) = listed_stopped folder call result a b lists.0 stop
ran_lists folder (asks call k) result a b lists (inr (reply, mid, made, more)) = listed_then (listed_call folder call (answer_of call reply) false a mid lists.0 made (reply_calm call reply)) (ran_lists folder (k reply) result mid b (lists.1 reply) more)
