-- The causes of facts, a sentence each.
use Rattle.std.specs.Prelude.{◌≡◌, ◌↔◌, ℕ, false, List, Some, Ok}
use Rattle.std.specs.List.{Contains}
use Rattle.vk_spec.specs.Versions.{Version, Ask, ask_of}
use Rattle.vk_spec.specs.Conditions.{Condition}
use Rattle.vk_spec.specs.Manifests.{Manifest}
use Rattle.vk_spec.specs.Pages.{overlay, override, baseline}
use Rattle.vk_spec.specs.Settings.{Instance}
use Rattle.vk_resolution.specs.Settings.{Who, root, inst}
use Rattle.vk_resolution.specs.Givens.{manifest_at, is_pinned}
use Rattle.vk_resolution.specs.Asking.{Fact, need, floor, visit, root_facts_of}
use Rattle.vk_resolution.specs.Consequences.{Inputs, Cause, by_root, by_baseline, by_override, by_overlay, by_minimum, by_one, by_two, FollowsBy}
use Rattle.vk_resolution.specs.Sentences.{Asks, MayVisit}

-- the manifest behind a fact asks for another: the root's behind a need of the root, that of the version behind a visit
pub data AsksFrom (inputs : Inputs) : Fact → Fact → Type 0 where
  the_root : (triplet f : List ℕ) (x : Fact) → Asks inputs.setting (root triplet) f inputs.setting.root x → AsksFrom inputs (need (root triplet) f) x
  a_manifest : (i : Instance) (f : List ℕ) (a : Ask) (m : Manifest Condition) (x : Fact) → manifest_at inputs.pages i.port a ≡ Some (Ok m) → Asks inputs.setting (inst i) f m x → AsksFrom inputs (visit i f a) x

-- a root fact; the floor of the given version of a needed port, by where it is given; a minimum of a port that isn't pinned; a need that is asked for; a visit of a need at a floor that may be visited
pub data IsCausedBy (inputs : Inputs) : Cause Fact → Fact → Type 0 where
  a_root_fact : (x : Fact) → Contains (root_facts_of inputs.setting) x → IsCausedBy inputs by_root x
  its_baseline : (i : Instance) (f : List ℕ) (a : Ask) → (inputs.pages i.port).given ≡ Ok (baseline a) → IsCausedBy inputs (by_baseline (need (inst i) f)) (floor i.port a)
  its_override : (i : Instance) (f : List ℕ) (a : Ask) → (inputs.pages i.port).given ≡ Ok (override a) → IsCausedBy inputs (by_override (need (inst i) f)) (floor i.port a)
  its_overlay : (i : Instance) (f : List ℕ) (v : Version) → (inputs.pages i.port).given ≡ Ok (overlay v) → IsCausedBy inputs (by_overlay (need (inst i) f)) (floor i.port (ask_of v))
  a_minimum : (y : Fact) (p : List ℕ) (a : Ask) → AsksFrom inputs y (floor p a) → is_pinned inputs.setting inputs.pages p ≡ false → IsCausedBy inputs (by_minimum y) (floor p a)
  a_need : (y : Fact) (who : Who) (f : List ℕ) → AsksFrom inputs y (need who f) → IsCausedBy inputs (by_one y) (need who f)
  a_visit : (i : Instance) (f : List ℕ) (a : Ask) → MayVisit inputs i.port a → IsCausedBy inputs (by_two (need (inst i) f) (floor i.port a)) (visit i f a)

-- a fact follows by a cause exactly where the cause's sentence says so
abbrev pub CausesMean : Type 0
CausesMean = (inputs : Inputs) (cause : Cause Fact) (x : Fact) → FollowsBy inputs cause x ↔ IsCausedBy inputs cause x
