-- Which paths the answer of a look says were noted.
use Rattle.std.specs.Prelude.{List, [], ◌∷◌, Result, Ok, Err}
use Rattle.vk_spec.specs.Paths.{Path}
use Rattle.vk_base.specs.declared.stops.Stop.{Stop}

-- the paths that a look noted in the tree's log: what stands there was found
abbrev pub noted_by : {X F : Type 0} → Path → Result X (Stop F) → List Path
noted_by path (Ok found) = path ∷ []
noted_by path (Err s) = []
