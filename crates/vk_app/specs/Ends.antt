-- How a run ends, before its bytes go out.
use Rattle.std.specs.Prelude.{◌≡◌, ◌≢◌, ◌||◌, ℕ, Bool, true, false, List, [], Result, Ok, Err, IfSome}
use Rattle.vk_spec.specs.Files.{Files}
use Rattle.vk_spec.specs.States.{State}
use Rattle.vk_spec.specs.Sinks.{SinkState, Sent}
use Rattle.vk_base.specs.declared.limits.Limit.{Limit}
use Rattle.vk_base.specs.declared.limits.Limit.TheVariants as limit
use Rattle.vk_base.specs.declared.stops.Outage.{Outage}
use Rattle.vk_base.specs.declared.stops.Outage.TheVariants as outage
use Rattle.vk_base.specs.declared.stops.Stop.{Stop}
use Rattle.vk_base.specs.declared.stops.Unread.{Unread}
use Rattle.vk_base.specs.declared.stops.Unread.TheVariants as unread
use Rattle.vk_base.specs.declared.stops.Stop.TheVariants as stop
use Rattle.vk_model.specs.FaultViews.{outcome_view}
use Rattle.vk_model.specs.declared.plans.Outcome.{Outcome}
use Rattle.vk_model.specs.declared.projects.Project.{Project}
use Rattle.vk_worklist.specs.declared.faults.CloseFault.{CloseFault}
use Rattle.vk_words.specs.declared.faults.WordFault.{WordFault}
use Rattle.vk_gen.specs.Loads.{load_files}
use Rattle.vk_app.specs.declared.requests.Task.{Task}
use Rattle.vk_app.specs.Asked.{MayAsk, LeavesTree}
use Rattle.vk_app.specs.Once.{ReadsFor}
use Rattle.vk_app.specs.Requests.{Request}
use Rattle.vk_app.specs.Resolved.{resolution_of}
use Rattle.vk_app.specs.Shown.{Shown, shown_for, told, printed, words_line, memory_line, tree_line, output_line, limit_line}
use Rattle.vk_app.specs.Answers.{IsAnswerTo, ShowsProject}
use Rattle.vk_app.specs.Loads.{load_shown}
use Rattle.vk_app.specs.Runs.{MayPass}
use Rattle.vk_app.specs.declared.ends.End.{End}
use Rattle.vk_app.specs.declared.ends.End.TheVariants as end

abbrev pub end_view : End → Shown
end_view (end.Printed status report) = printed status report
end_view (end.Written status bytes) = printed status bytes
end_view (end.Told status line) = told status line
end_view end.Memory = told 3 memory_line
end_view end.TreeFailed = told 4 tree_line

-- the ends that a run of this request may have, and whether the tree failed
pub data MayEnd : Request → Shown → Bool → Type 0 where
  malformed : (fault : WordFault) → MayEnd (Err fault) (told 2 (words_line fault)) false
  done : (task : Task) (bytes : List ℕ) → MayEnd (Ok task) (printed 0 bytes) false
  refused : (task : Task) (bytes : List ℕ) → MayEnd (Ok task) (printed 1 bytes) false
  limited : (task : Task) (l : Limit) → MayPass task l → MayEnd (Ok task) (told 6 (limit_line l)) false
  lacking : (request : Request) → MayEnd request (told 3 memory_line) false
  broken : (task : Task) → MayEnd (Ok task) (told 4 tree_line) true

-- how a request ends where so much of it is done, and how the tree is read: where files are told, what is shown answers, unless memory ran out or the tree failed
pub record EndsFor (request : Request) (Answers : Files → Shown → Type 0) (Reads : Bool → State → State → Type 0) (shown : Shown) (before after : State) : Type 0 where
  pub failed : Bool
  pub may : MayEnd request shown failed
  pub reads : Reads failed before after
  pub content : IfSome before.told (λ t. shown.status ≢ 3 → shown.status ≢ 4 → Answers t.files shown)

-- how a request ends that leaves the tree: what is shown is the answer over any files, and no call failed
pub record EndsAlone (request : Request) (shown : Shown) (before after : State) : Type 0 where
  pub same : after ≡ before
  pub calm : shown.status ≢ 4
  pub content : (files : Files) → shown.status ≢ 3 → IsAnswerTo request files shown

-- how a request and a tree end, and how the tree is read
pub record EndsAs (request : Request) (shown : Shown) (before after : State) : Type 0 where
  pub ends : EndsFor request (IsAnswerTo request) (ReadsFor request (MayAsk request) []) shown before after
  pub alone : LeavesTree request → EndsAlone request shown before after

-- how a task ends over the files of a load of a size: what is shown of them, or out of memory
pub record EndsOverLoad (t : Task) (size : ℕ) (shown : Shown) : Type 0 where
  pub may : MayEnd (Ok t) shown false
  pub content : shown.status ≢ 3 → ShowsProject t (load_files size) shown

-- how it is shown that a call of the tree failed, or that memory ran out
abbrev pub shown_out : Outage → Shown
shown_out outage.Failed = told 4 tree_line
shown_out (outage.Memory m) = told 3 memory_line

-- how an answer is shown, by what a project comes to
abbrev pub shown_of : Project → Result Outcome (Stop CloseFault) → Shown
shown_of project (Ok outcome) = shown_for (resolution_of (outcome_view outcome))
shown_of project (Err (stop.Fault fault)) = told 6 (limit_line (limit.Facts project.max_facts))
shown_of project (Err stop.Failed) = told 4 tree_line
shown_of project (Err (stop.Memory m)) = told 3 memory_line

-- the same of a load of a size
abbrev pub shown_load : ℕ → Project → Result Outcome (Stop CloseFault) → Shown
shown_load size project (Ok outcome) = load_shown size (resolution_of (outcome_view outcome))
shown_load size project (Err stop) = shown_of project (Err stop)

-- the end is this, or memory ran out before it was made
pub data EndsWith (shown : Shown) : Shown → Type 0 where
  whole : EndsWith shown shown
  short : shown.status ≢ 4 → EndsWith shown (told 3 memory_line)

-- how the words end that ask for no project
abbrev pub WordsEnd : Unread WordFault → Shown → Type 0
WordsEnd (unread.Fault fault) shown = EndsWith (told 2 (words_line fault)) shown
WordsEnd (unread.Memory m) shown = shown ≡ told 3 memory_line

-- the line that goes to `err` after the output
abbrev pub line_after : Bool → Shown → List ℕ
line_after false shown = shown.err
line_after true shown = output_line

abbrev pub told_status : Bool → Shown → ℕ
told_status false shown = shown.status
told_status true shown = 5

-- an end is told: its bytes, then its line; a sink that stops is told in their place
pub record Tells (shown : Shown) (status : ℕ) (out out_after err err_after : SinkState) : Type 0 where
  pub out_stopped : Bool
  pub err_stopped : Bool
  pub sent : Sent shown.out out_stopped out out_after
  pub line : Sent (line_after out_stopped shown) err_stopped err err_after
  pub ends : status ≡ told_status (out_stopped || err_stopped) shown
