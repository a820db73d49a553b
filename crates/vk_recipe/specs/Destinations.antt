-- The paths at which files stand already while a package is made.
use Rattle.std.specs.Prelude.{◌≡◌, ◌↔◌, List, map}
use denote.Ref.{Bor}
use Rattle.std.specs.List.{Contains}
use Rattle.vk_spec.specs.Paths.{Path, Begins}

-- what references refer to
abbrev pub paths_in : List (Bor Path) → List Path
paths_in keys = map (λ (r : Bor Path). r.now) keys

-- these keys are these paths, in any order, and none of the paths begins another
pub record AreTaken (paths : List Path) (keys : List (Bor Path)) : Type 0 where
  pub members : (p : Path) → Contains (paths_in keys) p ↔ Contains paths p
  pub apart : (p q : Path) → Contains paths p → Contains paths q → Begins p q → p ≡ q
