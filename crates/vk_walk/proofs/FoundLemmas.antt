-- What a walk that was run says, and what is answered of it.
use Rattle.std.proofs.Common.{◌≡◌, inl, inr, List, [], ◌∷◌, ◌++◌, false, refl, sym, subst}
use Rattle.std.specs.Prelude.{IfOk, Result, Ok, Err}
use Rattle.vk_spec.specs.Paths.{Path}
use Rattle.vk_spec.specs.States.{State, OnlyListed}
use Rattle.vk_spec.specs.Standing.{Disk, IsFolder, OnFiles}
use Rattle.vk_spec.proofs.ListLemmas.{contains_nothing}
use Rattle.vk_base.specs.Stops.{was_out, is_outage, stop_of}
use Rattle.vk_base.specs.declared.stops.Outage.{Outage}
use Rattle.vk_base.specs.declared.stops.Outage.TheVariants.{Failed, Memory}
use Rattle.vk_tree.proofs.OnFilesLemmas.{files_then}
use Rattle.vk_protocol.specs.Runs.{Ran, Tells}
use Rattle.vk_protocol.proofs.RunLemmas.{each_on, ran_tells}
use Rattle.vk_walk.specs.Walks.{Limits, Limit, deep, entries, files, AreFiles}
use Rattle.vk_walk.specs.Walked.{IsInOrder, answered, walk_failed, walk_limits, walk_stops}
use Rattle.vk_walk.specs.WalkProtocol.{WalkedIs, walk_of}
use Rattle.vk_walk.specs.WalkMachine.{ended_view, found_view}
use Rattle.vk_walk.specs.declared.walks.WalkLimit.{WalkLimit}
use Rattle.vk_walk.proofs.WalkAsks.{ran_lists, walk_lists, walk_reads}
use Rattle.vk_walk.proofs.WalkTells.{walk_tells}

run_tells : (folder : Path) (r : Result (Result (List Path) Limit) Outage) (a b : State) → Ran (walk_of walk_limits folder) r a b → OnFiles (λ d. IfOk r (λ x. WalkedIs walk_limits folder x d)) a
run_tells folder r a b ran = ran_tells (λ d x. WalkedIs walk_limits folder x d) (walk_of walk_limits folder) r a b (walk_reads walk_limits folder) ran (each_on (λ d. Tells (λ x. WalkedIs walk_limits folder x d) (walk_of walk_limits folder) d) a (λ d. walk_tells walk_limits folder d refl))

run_lists : (folder : Path) (r : Result (Result (List Path) Limit) Outage) (a b : State) → Ran (walk_of walk_limits folder) r a b → OnlyListed (was_out r) a b
run_lists folder r a b ran = ran_lists folder (walk_of walk_limits folder) r a b (walk_lists walk_limits folder) ran

-- a folder has a file below it
not_bare : (folder : Path) (d : Disk) → AreFiles d folder [] → IsFolder d folder → ⊥
not_bare folder d none is = contains_nothing (folder ++ is.0 ∷ is.1) (none.all (folder ++ is.0 ∷ is.1) is.2 (is.0 ∷ is.1, refl))

some_none : (path : Path) (more : List Path) → path ∷ more ≡ [] → ⊥
some_none path more e = (cc)

in_order : (most : Limits) (folder : Path) (r : Result (List Path) Limit) (d : Disk) → WalkedIs most folder r d → IsInOrder most folder (answered r) d
in_order most folder (Ok []) d h = λ is. not_bare folder d (h.0 is).0 is
in_order most folder (Ok (path ∷ more)) d h = elim h.1 [
  | inl is ↦ (let told = h.0 is in (told.0, told.1, is))
  | inr none ↦ absurd (some_none path more none)
]
in_order most folder (Err deep) d h = h
in_order most folder (Err entries) d h = h
in_order most folder (Err files) d h = h

calm_answer : (r : Result (List Path) Limit) → walk_failed (answered r) ≡ false
calm_answer (Ok []) = refl
calm_answer (Ok (path ∷ more)) = refl
calm_answer (Err limit) = refl

-- ---- what is answered

pub answer_tells : (folder : Path) (r : Result (List Path) WalkLimit) (a b : State) → Ran (walk_of walk_limits folder) (ended_view (Ok r)) a b → OnFiles (IsInOrder walk_limits folder (answered (found_view r))) a
answer_tells folder r a b ran = files_then (λ d. WalkedIs walk_limits folder (found_view r) d) (IsInOrder walk_limits folder (answered (found_view r))) a (λ d h. in_order walk_limits folder (found_view r) d h) (run_tells folder (Ok (found_view r)) a b ran)

pub answer_lists : (folder : Path) (r : Result (List Path) WalkLimit) (a b : State) → Ran (walk_of walk_limits folder) (ended_view (Ok r)) a b → OnlyListed (walk_failed (answered (found_view r))) a b
answer_lists folder r a b ran = subst (λ f. OnlyListed f a b) (sym (calm_answer (found_view r))) (run_lists folder (Ok (found_view r)) a b ran)

out_failed : (e : Outage) → is_outage e ≡ walk_stops (stop_of e)
out_failed Failed = refl
out_failed (Memory m) = refl

pub stop_lists : (folder : Path) (e : Outage) (a b : State) → Ran (walk_of walk_limits folder) (Err e) a b → OnlyListed (walk_stops (stop_of e)) a b
stop_lists folder e a b ran = subst (λ f. OnlyListed f a b) (out_failed e) (run_lists folder (Err e) a b ran)
