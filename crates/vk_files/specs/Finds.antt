-- What a call leaves that reads files, and may keep notes of them, and what it answers.
use Rattle.std.specs.Prelude.{Bool, List, IfSome, Result}
use Rattle.vk_spec.specs.Paths.{Path}
use Rattle.vk_spec.specs.Files.{Files}
use Rattle.vk_spec.specs.Reading.{Gives}
use Rattle.vk_base.specs.Stops.{fault_seen, has_failed}
use Rattle.vk_base.specs.declared.stops.Stop.{Stop}
use Rattle.vk_files.specs.Kept.{Kept, Held, ReadOnce}
use Rattle.vk_files.specs.Within.{LooksWithin}

-- the notes are right, this holds, and each path that was looked at since is one of these
pub record IsLearned (Right Holds : Type 0) (paths : List Path) (before after : Kept) : Type 0 where
  pub right : Right
  pub holds : Holds
  pub within : LooksWithin paths before after

-- nothing but reading was done, and what was found is kept; and where the files are told and the notes were right of them, this is learned of them
pub record Reads (failed : Bool) (Holds : Files → Type 0) (paths : Files → List Path) (Before After : Files → Type 0) (before after : Held) : Type 0 where
  pub once : ReadOnce failed before after
  pub learned : IfSome before.tree.told (λ t. Before t.files → IsLearned (After t.files) (Holds t.files) (paths t.files) before.kept after.kept)

-- the same, and what is learned is that the answer is what the files give
pub record Finds {X Y F P : Type 0} (refusal : F → P) (view : X → Y) (answer : Result X (Stop F)) (meaning : Files → Result Y P) (paths : Files → List Path) (Before After : Files → Type 0) (before after : Held) : Type 0 where
  pub reads : Reads (has_failed answer) (λ f. Gives view (fault_seen refusal) answer (meaning f)) paths Before After before after

-- nothing is known of files
abbrev pub NothingKnown : Files → Type 0
NothingKnown files = Unit {0}

-- nothing but reading was done; and where the files are told, no path but these was looked at, and the answer is what they give
abbrev pub ReadsFrom : {X Y F P : Type 0} → (F → P) → (X → Y) → Result X (Stop F) → (Files → Result Y P) → (Files → List Path) → Held → Held → Type 0
ReadsFrom refusal view answer meaning paths before after = Finds refusal view answer meaning paths NothingKnown NothingKnown before after
