-- What is left of a walk, step by step.
use Rattle.std.proofs.Common.{inr, true, suc, ◌≡◌, ◌++◌, [], ◌∷◌, ℕ, List, ap, sym, ◌∙◌, subst, length-append, arith}
use Rattle.std.proofs.lemmas.List.{get_or_append_left, reverse-append}
use Rattle.std.specs.List.{All}
use Rattle.std.specs.Prelude.{Result, Ok, Err}
use Rattle.vk_spec.specs.Paths.{Path}
use Rattle.vk_spec.specs.States.{State}
use Rattle.vk_spec.specs.Standing.{Disk, Entry, OnFiles}
use Rattle.vk_spec.specs.Calls.{list_of, Made, refuses}
use Rattle.vk_base.specs.declared.memory.Memory.{Memory}
use Rattle.vk_base.specs.declared.stops.Stop.{Stop}
use Rattle.vk_base.specs.declared.stops.Stop.TheVariants.{Fault}
use Rattle.vk_base.specs.declared.stops.Outage.{Outage}
use Rattle.vk_base.specs.declared.stops.Outage.TheVariants as outage
use Rattle.vk_tree.specs.Answers.{entries_of, entry_of, fault_by, list_refusal}
use Rattle.vk_tree.specs.declared.trees.ListFault.{ListFault}
use Rattle.vk_tree.specs.declared.trees.Listed.{Listed}
use Rattle.vk_protocol.specs.Protocols.{answer_of, on_ok, each, ◌>>=◌}
use Rattle.vk_protocol.specs.Runs.{Asked, CanAsk, CanRunOn, NextIs, Stepped, Stops}
use Rattle.vk_protocol.proofs.ProtocolLemmas.{ok_then_ok, then_nothing}
use Rattle.vk_protocol.proofs.RunLemmas.{can_then, each_on, reads_can_on, reply_calm}
use Rattle.vk_walk.specs.Walked.{walk_limits}
use Rattle.vk_walk.specs.WalkProtocol.{listed, walk_at, walk_of}
use Rattle.vk_walk.specs.WalkMachine.{Entered, IsFresh, after_list, listed_view, now_means, pend, walk_later, walk_means, walk_todo}
use Rattle.vk_walk.specs.declared.walks.Pending.{Pending}
use Rattle.vk_walk.specs.declared.walks.Walk.{Walk}
use Rattle.vk_walk.specs.declared.walks.WalkLimit.{WalkLimit}
use Rattle.vk_walk.specs.declared.walks.WalkNow.{WalkNow}
use Rattle.vk_walk.specs.declared.walks.WalkNow.TheVariants.{Lists, Done, Over}
use Rattle.vk_walk.proofs.WalkAsks.{walk_reads}

-- ---- what is pending

-- what is put last comes next
todo_push : (most : ℕ) (todo : List Pending) (p : Pending) (found : List Path) → walk_todo most (todo ++ p ∷ []) found ≡ walk_later most p found >>= on_ok (walk_todo most todo)
todo_push most todo p found = ap (λ l. each (walk_later most) l found) (reverse-append todo (p ∷ []))

entered_more : (path : Path) (left : ℕ) (e : Entry) (es : List Entry) (old todo : List Pending) → Entered path left es old todo → Entered path left (e ∷ es) old (todo ++ pend path left e ∷ [])
entered_more path left e es old todo h most found =
    todo_push most todo (pend path left e) found
    ∙ ap (λ f. walk_later most (pend path left e) found >>= on_ok f) (λ i t. h most t i)
    ∙ sym (ok_then_ok (walk_later most (pend path left e) found) (each (λ e found. walk_at most left (path ++ e.name ∷ []) e.folder found) es) (walk_todo most old))

-- an entry is put before what came next
pub entered_push : (path q : Path) (left : ℕ) (name : List ℕ) (l : Listed) (done : List Listed) (old todo new : List Pending) → q ≡ path ++ name ∷ [] → name ≡ l.name → new ≡ todo ++ record { path = q; folder = l.folder; left = left } ∷ []
    → Entered path left (entries_of done) old todo → Entered path left (entries_of (l ∷ done)) old new
entered_push path q left name l done old todo new path_is name_is new_is h =
    subst (Entered path left (entries_of (l ∷ done)) old) (sym (new_is ∙ ap (λ r. todo ++ record { path = r; folder = l.folder; left = left } ∷ []) (path_is ∙ ap (λ n. path ++ n ∷ []) name_is)))
    (entered_more path left (entry_of l) (entries_of done) old todo h)

pub parts_left : (P : Listed → Type 0) (all left : List Listed) (l : Listed) → all ≡ left ++ l ∷ [] → All P all → All P left
parts_left P all left l is h k d within =
    subst P (get_or_append_left left (l ∷ []) d k within) (subst (All P) is h k d (omega (arith, within, length-append left (l ∷ []))))

-- ---- a step

-- what the reply of a listing was
pub reply_is : (path : Path) (stop : Stop ListFault) (fault : ListFault) (is : ListFault) (a b : State) → stop ≡ Fault fault → fault ≡ is → Made (list_of path) (Err (fault_by list_refusal stop)) a b → Made (list_of path) (Err (refuses (list_refusal is))) a b
reply_is path stop fault is a b stop_is fault_is made = subst (λ f. Made (list_of path) (Err (refuses (list_refusal f))) a b) fault_is (subst (λ s. Made (list_of path) (Err (fault_by list_refusal s)) a b) stop_is made)

pub walk_stepped : (w v : Walk) (path : Path) (left : ℕ) (r : Result (List Listed) WalkLimit) (u : Unit {0}) (a b : State) → Lists path left ≡ w.at → Asked (list_of path) (λ reply x. listed_view x ≡ listed reply) (Ok r) a b
    → now_means v.files v.at v.found v.todo ≡ after_list w.files path left w.found w.todo (listed_view r) → Stepped (walk_means w) (Ok u) (walk_means v) a b
unfolding walk_means
walk_stepped w v path left r u a b is asked means =
    subst (λ at. Stepped (now_means w.files at w.found w.todo) (Ok u) (now_means v.files v.at v.found v.todo) a b) is
    (asked.0, asked.1, means ∙ ap (after_list w.files path left w.found w.todo) asked.2)

-- a step that stopped at its call
pub walk_stopped : (w v : Walk) (path : Path) (left : ℕ) (e : Outage) (a b : State) → Lists path left ≡ w.at → Stops (list_of path) e a b → Stepped (walk_means w) (Err e) (walk_means v) a b
unfolding walk_means
walk_stopped w v path left e a b is stops = subst (λ at. Stepped (now_means w.files at w.found w.todo) (Err e) (now_means v.files v.at v.found v.todo) a b) is stops

-- memory ran out after its call
stops_lacking : (path : Path) (r : Result (List Listed) WalkLimit) (m : Memory) (a b : State) → Asked (list_of path) (λ reply x. listed_view x ≡ listed reply) (Ok r) a b → Stops (list_of path) (outage.Memory m) a b
stops_lacking path r m a b asked = inr (answer_of (list_of path) asked.0, asked.1, reply_calm (list_of path) asked.0)

pub walk_lacked : (w v : Walk) (path : Path) (left : ℕ) (r : Result (List Listed) WalkLimit) (m : Memory) (a b : State) → Lists path left ≡ w.at → Asked (list_of path) (λ reply x. listed_view x ≡ listed reply) (Ok r) a b → Stepped (walk_means w) (Err (outage.Memory m)) (walk_means v) a b
walk_lacked w v path left r m a b is asked = walk_stopped w v path left (outage.Memory m) a b is (stops_lacking path r m a b asked)

-- ---- the first step

pub walk_begins : (w : Walk) (folder : Path) → IsFresh walk_limits (Lists folder 64) w → walk_means w ≡ walk_of walk_limits folder
unfolding walk_means walk_of
walk_begins w folder new = rw (new.files, new.todo, new.found, new.next) (then_nothing (walk_at 1000000 (suc 64) folder true []))

pub first_stepped : (w v : Walk) (folder : Path) (r : Result (List Listed) WalkLimit) (a b : State) → IsFresh walk_limits Done w → Asked (list_of folder) (λ reply x. listed_view x ≡ listed reply) (Ok r) a b
    → now_means v.files v.at v.found v.todo ≡ after_list w.files folder 64 w.found w.todo (listed_view r) → NextIs (walk_of walk_limits folder) walk_means (Ok v) a b
unfolding walk_means walk_of
first_stepped w v folder r a b new asked means = (
  asked.0,
  asked.1,
  means ∙ rw (new.files, new.todo, new.found) (then_nothing (on_ok (λ es. each (λ e found. walk_at 1000000 64 (folder ++ e.name ∷ []) e.folder found) es []) (listed_view r)))
      ∙ ap (λ x. on_ok (λ es. each (λ e found. walk_at 1000000 64 (folder ++ e.name ∷ []) e.folder found) es []) x) asked.2,
)

pub first_stopped : (folder : Path) (e : Outage) (a b : State) → Stops (list_of folder) e a b → NextIs (walk_of walk_limits folder) walk_means (Err e) a b
unfolding walk_of
first_stopped folder e a b stops = stops

pub first_lacked : (folder : Path) (r : Result (List Listed) WalkLimit) (m : Memory) (a b : State) → Asked (list_of folder) (λ reply x. listed_view x ≡ listed reply) (Ok r) a b → NextIs (walk_of walk_limits folder) walk_means (Err (outage.Memory m)) a b
first_lacked folder r m a b asked = first_stopped folder (outage.Memory m) a b (stops_lacking folder r m a b asked)

-- ---- a whole walk

can_list : (m : ℕ) (at : WalkNow) (found : List Path) (todo : List Pending) (d : Disk) → CanAsk (now_means m at found todo) d
can_list m (Lists path left) found todo d = tt
can_list m Done found todo d = tt
can_list m (Over limit) found todo d = tt

-- what a walk asks next may be asked of any files
pub walk_can : (w : Walk) (s : State) → OnFiles (CanAsk (walk_means w)) s
unfolding walk_means
walk_can w s = each_on (CanAsk (now_means w.files w.at w.found w.todo)) s (λ d. can_list w.files w.at w.found w.todo d)

pub begun_can : (w : Walk) (folder : Path) (a b : State) → NextIs (walk_of walk_limits folder) walk_means (Ok w) a b → CanRunOn (walk_means w) b
begun_can w folder a b next = can_then (walk_of walk_limits folder) (walk_means w) tt a b next (reads_can_on (walk_of walk_limits folder) a (walk_reads walk_limits folder))
