-- What a call answers that reads files and keeps notes of them, and what it leaves.
use Rattle.std.specs.Prelude.{◌≡◌, List, Result, Ok, Err, IfOk}
use Rattle.vk_spec.specs.Paths.{Path}
use Rattle.vk_spec.specs.Files.{Files}
use Rattle.vk_files.specs.Kept.{Held}
use Rattle.vk_files.specs.Finds.{Reads}
use Rattle.vk_base.specs.declared.stops.Stop.{Stop}
use Rattle.vk_base.specs.declared.stops.Stop.TheVariants as stop
use Rattle.vk_base.specs.declared.stops.Outage.{Outage}
use Rattle.vk_base.specs.declared.stops.Outage.TheVariants as outage
use Rattle.vk_base.specs.Stops.{was_out}

-- nothing but reading was done, and where the files are told and the notes were right of them, the notes are right after it, what is answered holds, and each path that was looked at is one of these
pub record Learns {X : Type 0} (answer : Result X Outage) (Says : Files → X → Type 0) (paths : Files → List Path) (Before After : Files → Type 0) (before after : Held) : Type 0 where
  pub reads : Reads (was_out answer) (λ f. IfOk answer (Says f)) paths Before After before after

-- nothing is said of an answer
abbrev pub SaysNothing : {X : Type 0} → Files → X → Type 0
SaysNothing files x = Unit {0}

-- what is answered is what the files mean
abbrev pub Means : {X Y : Type 0} → (X → Y) → (Files → Y) → Files → X → Type 0
Means view meaning files x = view x ≡ meaning files

-- a refusal is an answer too; the tree's failure and out of memory are none
abbrev pub unanswered : {X F : Type 0} → Stop F → Result (Result X F) Outage
unanswered (stop.Fault refusal) = Ok (Err refusal)
unanswered stop.Failed = Err outage.Failed
unanswered (stop.Memory m) = Err (outage.Memory m)

abbrev pub settled : {X F : Type 0} → Result X (Stop F) → Result (Result X F) Outage
settled (Ok x) = Ok (Ok x)
settled (Err s) = unanswered s
