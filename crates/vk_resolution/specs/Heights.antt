-- Heights, from those of the targets: for whoever takes away what has no targets left.
use Rattle.std.specs.Prelude.{◌≡◌, ◌≤◌, ◌↔◌, ℕ, zero, suc, []}
use Rattle.std.specs.List.{Contains}
use Rattle.vk_spec.specs.Settings.{Instance}
use Rattle.vk_resolution.specs.Planning.{HasHeight}
use Rattle.vk_resolution.specs.Walks.{Targets}

-- 0 where the instance has no targets, else one more than the greatest height of a target
pub data IsOneMore (targets : Targets) (i : Instance) : ℕ → Type 0 where
  at_bottom : targets i ≡ [] → IsOneMore targets i zero
  above : (j : Instance) (m : ℕ) → Contains (targets i) j → HasHeight targets m j → ((k : Instance) (n : ℕ) → Contains (targets i) k → HasHeight targets n k → n ≤ m) → IsOneMore targets i (suc m)

-- each target of the instance has a height
abbrev pub TargetsHaveHeights : Targets → Instance → Type 0
TargetsHaveHeights targets i = (j : Instance) → Contains (targets i) j → (n : ℕ) × HasHeight targets n j

-- where each target has a height, that of the instance is given by theirs
abbrev pub HeightIsOneMore : Type 0
HeightIsOneMore = (targets : Targets) (i : Instance) → TargetsHaveHeights targets i → (n : ℕ) → HasHeight targets n i ↔ IsOneMore targets i n

-- and there is one
abbrev pub HeightExists : Type 0
HeightExists = (targets : Targets) (i : Instance) → TargetsHaveHeights targets i → (n : ℕ) × HasHeight targets n i

-- the targets of what has a height have heights
abbrev pub HeightsGoDown : Type 0
HeightsGoDown = (targets : Targets) (n : ℕ) (i : Instance) → HasHeight targets n i → TargetsHaveHeights targets i
