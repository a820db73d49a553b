-- What a run says of the world outside, and how it ends.
use Rattle.std.specs.Prelude.{◌≡◌, ◌≢◌, ◌⊎◌, ◌≤◌, ℕ, Bool, true, List, [], length, IfSome, Ok, Err, IsErr}
use Rattle.vk_spec.specs.Counts.{MayHaveRisen, Rose}
use Rattle.vk_spec.specs.Files.{Files}
use Rattle.vk_spec.specs.States.{State}
use Rattle.vk_spec.specs.Sinks.{SinkState, Taken, TookFront}
use Rattle.vk_base.specs.declared.limits.Limit.{Limit}
use Rattle.vk_base.specs.declared.limits.Limit.TheVariants as limit
use Rattle.vk_words.specs.declared.faults.WordFault.{WordFault}
use Rattle.vk_folder.specs.Folders.{IsFolderLimit}
use Rattle.vk_app.specs.declared.requests.Task.{Task}
use Rattle.vk_app.specs.declared.requests.Task.TheVariants as task
use Rattle.vk_app.specs.Requests.{Request}
use Rattle.vk_app.specs.Shown.{Shown, words_line, memory_line, tree_line, output_line, limit_line}
use Rattle.vk_app.specs.Answers.{IsAnswerTo}
use Rattle.vk_app.specs.Asked.{MayAsk, LeavesTree}
use Rattle.vk_app.specs.Once.{ReadsFor}

-- a tree and two sinks, by what is known of them
pub record Outside : Type 0 where
  pub tree : State
  pub out : SinkState
  pub err : SinkState

-- nothing outside failed
pub record IsCalm (before after : Outside) : Type 0 where
  pub tree : MayHaveRisen before.tree.faults after.tree.faults → ⊥
  pub out : MayHaveRisen before.out.faults after.out.faults → ⊥
  pub err : MayHaveRisen before.err.faults after.err.faults → ⊥

-- this was shown: a status, and bytes on both sinks
pub record Shows (shown : Shown) (status : ℕ) (before after : Outside) : Type 0 where
  pub ends : status ≡ shown.status
  pub out : Taken before.out.taken shown.out after.out.taken
  pub err : Taken before.err.taken shown.err after.err.taken

-- the answer was shown
pub record ShowsAnswer (request : Request) (files : Files) (status : ℕ) (before after : Outside) : Type 0 where
  pub shown : Shown
  pub answer : IsAnswerTo request files shown
  pub shows : Shows shown status before after

-- the tree and the sinks are sure to do all that is asked of them
pub record IsSure (shown : Shown) (before : Outside) : Type 0 where
  pub tree : before.tree.sure ≡ true
  pub out : length shown.out ≤ before.out.room
  pub line : length shown.err ≤ before.err.room
  pub err : length output_line ≤ before.err.room

-- the limits that a task may pass: that of its requirements, and for an ABI text those of a port's folder; whatever the tree tells
abbrev pub MayPass : Task → Limit → Type 0
MayPass (task.Plan project) l = l ≡ limit.Facts project.max_facts
MayPass (task.Abi project instance) l = (l ≡ limit.Facts project.max_facts) ⊎ IsFolderLimit project.max_bytes l
MayPass (task.Check project report) l = l ≡ limit.Facts project.max_facts
MayPass (task.SelfLoad size project) l = l ≡ limit.Facts project.max_facts

-- a line was taken whole, or a first part of it, where the sink's count may have increased
abbrev pub TookPart : List ℕ → SinkState → SinkState → Type 0
TookPart line before after = Taken before.taken line after.taken ⊎ ((rest : List ℕ) × MayHaveRisen before.faults after.faults × TookFront before.taken line rest after.taken)

-- the lines that `err` may be told in place of an answer's bytes: under a failed tree that of a tree; of a limit that of the answer, where the files are told
pub data IsLine (before after : Outside) : Request → List ℕ → Type 0 where
  of_words : (fault : WordFault) → IsLine before after (Err fault) (words_line fault)
  of_limit : (task : Task) (l : Limit) → MayPass task l → IfSome before.tree.told (λ t. (shown : Shown) → IsAnswerTo (Ok task) t.files shown → shown.err ≡ limit_line l) → IsLine before after (Ok task) (limit_line l)
  of_memory : (request : Request) → IsLine before after request memory_line
  of_tree : (task : Task) → MayHaveRisen before.tree.faults after.tree.faults → IsLine before after (Ok task) tree_line

-- how a run ends with 5: `out` stopped, which was told as far as `err` took it; or `err` stopped before its line was whole, and `out` took nothing
pub data Stops (request : Request) (before after : Outside) : Type 0 where
  out_stopped : MayHaveRisen before.out.faults after.out.faults → TookPart output_line before.err after.err → Stops request before after
  err_stopped : (line rest : List ℕ) → IsLine before after request line → MayHaveRisen before.err.faults after.err.faults → TookFront before.err.taken line rest after.err.taken
      → Taken before.out.taken [] after.out.taken → Stops request before after

-- the tree's failure couldn't be told
pub record IsUntold (status : ℕ) (before after : Outside) : Type 0 where
  pub ends : status ≡ 5
  pub err : MayHaveRisen before.err.faults after.err.faults
  pub out : Taken before.out.taken [] after.out.taken

-- the causes of the two failures outside; a count that rose is always told
pub record HasCauses (request : Request) (status : ℕ) (before after : Outside) : Type 0 where
  pub tree : status ≡ 4 → MayHaveRisen before.tree.faults after.tree.faults
  pub sink : status ≡ 5 → Stops request before after
  pub tree_rose : Rose before.tree.faults after.tree.faults → (status ≡ 4) ⊎ IsUntold status before after
  pub out_rose : Rose before.out.faults after.out.faults → status ≡ 5
  pub err_rose : Rose before.err.faults after.err.faults → status ≡ 5

-- what `err` took under 2: the line of the words' fault
abbrev pub TookFault : Request → SinkState → SinkState → Type 0
TookFault (Ok task) before after = ⊥
TookFault (Err fault) before after = Taken before.taken (words_line fault) after.taken

-- what `err` took under 6: the line of a limit that the task may pass
abbrev pub TookLimit : Request → SinkState → SinkState → Type 0
TookLimit (Ok task) before after = (l : Limit) × MayPass task l × Taken before.taken (limit_line l) after.taken
TookLimit (Err fault) before after = ⊥

-- what `err` took: the line of the status whole
pub record TellsLine (request : Request) (status : ℕ) (before after : Outside) : Type 0 where
  pub done : status ≤ 1 → Taken before.err.taken [] after.err.taken
  pub words : status ≡ 2 → TookFault request before.err after.err
  pub memory : status ≡ 3 → Taken before.err.taken memory_line after.err.taken
  pub tree : status ≡ 4 → Taken before.err.taken tree_line after.err.taken
  pub limit : status ≡ 6 → TookLimit request before.err after.err

-- what `out` took: nothing under 2, 3, 4 and 6, and never anything but a first part of the answer's bytes
pub record KeepsOut (request : Request) (status : ℕ) (before after : Outside) : Type 0 where
  pub nothing : 2 ≤ status → status ≢ 5 → Taken before.out.taken [] after.out.taken
  pub front : IfSome before.tree.told (λ t. (shown : Shown) → IsAnswerTo request t.files shown → (rest : List ℕ) × TookFront before.out.taken shown.out rest after.out.taken)

-- 2 comes for a malformed command line alone, and then nothing was read
pub record JudgesWords (request : Request) (status : ℕ) (before after : Outside) : Type 0 where
  pub only : status ≡ 2 → IsErr request × (after.tree ≡ before.tree)
  pub comes : IsErr request → ((status ≡ 2) ⊎ (status ≡ 3) ⊎ (status ≡ 5)) × (after.tree ≡ before.tree)

-- the tree was only read; for a plan no path was asked for twice, and none but those that may be asked for
pub record IsReadFor (request : Request) (before after : State) : Type 0 where
  pub failed : Bool
  pub reads : ReadsFor request (MayAsk request) [] failed before after

-- a run that leaves the tree: it doesn't fail, and where the sinks didn't either, any end but out of memory is the answer, whatever the tree holds
pub record RunsAlone (request : Request) (status : ℕ) (before after : Outside) : Type 0 where
  pub tree : after.tree ≡ before.tree
  pub never : status ≢ 4
  pub answers : (files : Files) → (MayHaveRisen before.out.faults after.out.faults → ⊥) → (MayHaveRisen before.err.faults after.err.faults → ⊥) → status ≢ 3 → ShowsAnswer request files status before after

-- a run of this request
pub record RunsAs (request : Request) (status : ℕ) (before after : Outside) : Type 0 where
  -- where the files are told and nothing outside failed, any end but out of memory is the answer
  pub answers : IfSome before.tree.told (λ t. IsCalm before after → status ≢ 3 → ShowsAnswer request t.files status before after)
  -- where nothing can fail, nothing but out of memory stands in place of the answer
  pub completes : IfSome before.tree.told (λ t. (shown : Shown) → IsAnswerTo request t.files shown → IsSure shown before → status ≢ 3 → Shows shown status before after)
  -- 4 and 5 come only where a count may have increased, and a count that rose is told
  pub causes : HasCauses request status before after
  pub words : JudgesWords request status before after
  -- what the sinks took under every status
  pub out : KeepsOut request status before after
  pub err : TellsLine request status before after
  pub reads : IsReadFor request before.tree after.tree
  -- where nothing is asked of the tree
  pub alone : LeavesTree request → RunsAlone request status before after
  pub small : status ≤ 6
