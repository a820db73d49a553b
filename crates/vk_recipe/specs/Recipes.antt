-- A recorded build as plain data.
use Rattle.std.specs.Prelude.{ℕ, Bool, List, Option}
use Rattle.vk_spec.specs.Paths.{Path}
use Rattle.vk_spec.specs.Conditions.{Condition}

-- what a step makes its file of
pub data Action : Type 0 where
  -- a file in the port's folder
  copy : Path → Action
  -- a text
  write : List ℕ → Action
  -- a file in the package of a dependency: of this port, and for the host or not
  take : Path → List ℕ → Bool → Action
  -- the line of the item
  info : Action

-- a step, the path of its file, and when it applies
pub record Step : Type 0 where
  pub action : Action
  pub to : Path
  pub platform : Condition
  pub feature : Option (List ℕ)
