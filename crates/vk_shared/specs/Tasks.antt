-- Tasks, as the code has them.
use Rattle.std.specs.Prelude.{◌≡◌, [], ◌∷◌, ◌++◌, ℕ, List, map, Bool, Option, Some, None}
use Rattle.vk_digest.specs.declared.Digest.{Digest}
use Rattle.vk_make.specs.Makes as plain
use Rattle.vk_make.specs.Makes.{Planned, has_digest}
use Rattle.vk_shared.specs.declared.tasks.Task.{Task}
use Rattle.vk_shared.specs.declared.tasks.PlannedTask.{PlannedTask}

abbrev pub task_view : Task → plain.Task
task_view t = record { digest = t.digest.bytes; text = t.text; folder = t.folder }

abbrev pub planned_view : PlannedTask → Planned
planned_view p = (task_view p.task, p.repeated)

-- the next one is taken from the front, where there is one
abbrev pub PopsTask : List Planned → Option PlannedTask → List Planned → Type 0
PopsTask before None after = (before ≡ []) × (after ≡ [])
PopsTask before (Some p) after = before ≡ planned_view p ∷ after

-- whether a digest was there, and that it is there now
pub record IsNoted (before : List Digest) (digest : Digest) (after : List Digest) (was : Bool) : Type 0 where
  pub told : was ≡ has_digest (map (λ d. d.bytes) before) digest.bytes
  pub now : (d : List ℕ) → has_digest (map (λ d. d.bytes) after) d ≡ has_digest (digest.bytes ∷ map (λ d. d.bytes) before) d

-- a task was put behind the others, and its digest noted
pub record IsPut (before : List Digest) (todo : List PlannedTask) (task : Task) (after : List Digest) (more : List PlannedTask) : Type 0 where
  pub was : Bool
  pub noted : IsNoted before task.digest after was
  pub put : more ≡ todo ++ record { task = task; repeated = was } ∷ []
