-- How many steps facts take: a visit and a need of the root are expanded, once each.
use Rattle.std.specs.Prelude.{◌+◌, ℕ, List, [], ◌∷◌}
use Rattle.vk_resolution.specs.Settings.{root, inst}
use Rattle.vk_resolution.specs.Asking.{Fact, need, floor, visit}

abbrev pub tick_of : Fact → ℕ
tick_of (need (root t) f) = 1
tick_of (need (inst i) f) = 0
tick_of (floor p a) = 0
tick_of (visit i f a) = 1

abbrev pub ticks : List Fact → ℕ
ticks [] = 0
ticks (x ∷ xs) = tick_of x + ticks xs
