-- The planned needs as a graph: which of them asks for which.
use Rattle.std.specs.Prelude.{◌≡◌, ◌↔◌, ℕ, true, List, [], flat_map, Some, slice_get}
use Rattle.std.specs.List.{Contains}
use Rattle.vk_spec.specs.Lists.{NoRepeats}
use Rattle.vk_resolution.specs.Settings.{root, inst}
use Rattle.vk_resolution.specs.Asking.{Fact, need, floor, visit}
use Rattle.vk_resolution.specs.Consequences.{Inputs}
use Rattle.vk_resolution.specs.Planning.{IsPlanned, is_need, planned_from}

-- what a need asks for in turn: one of the root by its manifest, one of an instance by its visit at the chosen version
abbrev pub asked_by_need : Inputs → List Fact → Fact → List Fact
asked_by_need inputs facts (need (root triplet) f) = planned_from inputs facts (need (root triplet) f)
asked_by_need inputs facts (need (inst i) f) = flat_map (planned_from inputs facts) (planned_from inputs facts (need (inst i) f))
asked_by_need inputs facts (floor p a) = []
asked_by_need inputs facts (visit i f a) = []

-- the needs are those that are planned, each once, and the edges lead from the place of each to the places of all that it asks for
pub record IsGraph (inputs : Inputs) (facts planned needs : List Fact) (edges : List (ℕ × ℕ)) : Type 0 where
  pub is_planned : IsPlanned inputs facts planned
  pub distinct : NoRepeats needs
  pub all : (x : Fact) → Contains needs x ↔ (Contains planned x × (is_need x ≡ true))
  pub lead : (m n : ℕ) → Contains edges (m, n) → (x y : Fact) × (slice_get needs m ≡ Some x) × (slice_get needs n ≡ Some y) × Contains (asked_by_need inputs facts x) y
  pub complete : (m : ℕ) (x y : Fact) → slice_get needs m ≡ Some x → Contains (asked_by_need inputs facts x) y → (n : ℕ) × (slice_get needs n ≡ Some y) × Contains edges (m, n)
