-- Facts, and what one manifest asks for.
use Rattle.std.specs.Prelude.{ℕ, Bool, List, [], ◌∷◌, ◌++◌, map, flat_map, Option, Some, None, if◌then◌else◌}
use Rattle.std.specs.List.{list_any}
use Rattle.vk_spec.specs.Versions.{Ask}
use Rattle.vk_spec.specs.Manifests.{Manifest, Dependency, core, default}
use Rattle.vk_spec.specs.Settings.{Setting, Instance}
use Rattle.vk_spec.specs.Conditions.{Condition}
use Rattle.vk_resolution.specs.Keys.{Key, same_key}
use Rattle.vk_resolution.specs.Settings.{Marks, Who, root, inst, marks_of, triplet_of, instance_of, is_own, is_off, applicable_of, names_of, defaults_of, first_features_of}

-- what a plan may require: a feature of the root or of an instance, at least a version of a port, or that the manifest of a version is looked at for a feature
pub data Fact : Type 0 where
  need : Who → List ℕ → Fact
  floor : List ℕ → Ask → Fact
  visit : Instance → List ℕ → Ask → Fact

-- the order of facts of one rank: needs, the root's first, by port, triplet and feature; floors by port, text and port-version; visits likewise
abbrev pub fact_key : Fact → Key
fact_key (need (root triplet) f) = (0 ∷ []) ∷ (0 ∷ []) ∷ triplet ∷ f ∷ []
fact_key (need (inst i) f) = (0 ∷ []) ∷ (1 ∷ []) ∷ i.port ∷ i.triplet ∷ f ∷ []
fact_key (floor p a) = (1 ∷ []) ∷ p ∷ a.text ∷ (a.port ∷ []) ∷ []
fact_key (visit i f a) = (2 ∷ []) ∷ i.port ∷ i.triplet ∷ f ∷ a.text ∷ (a.port ∷ []) ∷ []

-- facts are the same where their keys are
abbrev pub same_fact : Fact → Fact → Bool
same_fact x y = same_key (fact_key x) (fact_key y)

-- whether a fact is among the facts
abbrev pub is_among : List Fact → Fact → Bool
is_among facts x = list_any (same_fact x) facts

-- the floor of a minimum, if there is one
abbrev pub floor_of : List ℕ → Option Ask → List Fact
floor_of p None = []
floor_of p (Some a) = floor p a ∷ []

-- of another instance: `core`, `default` unless it is off, the features of the list that apply, and the minimum
abbrev pub asked_of_other : Setting → Marks → Instance → Dependency Condition → List Fact
asked_of_other s marks j d =
    need (inst j) core ∷ (if is_off s j then [] else need (inst j) default ∷ []) ++ map (need (inst j)) (names_of marks d.features) ++ floor_of j.port d.minimum

-- of one's own instance: the features alone, and the minimum, but for the root
abbrev pub asked_of_own : Who → Marks → Dependency Condition → List Fact
asked_of_own (root triplet) marks d = map (need (root triplet)) (names_of marks d.features)
asked_of_own (inst i) marks d = map (need (inst i)) (names_of marks d.features) ++ floor_of i.port d.minimum

-- what a dependency asks for
abbrev pub asked_by : Setting → Who → Dependency Condition → List Fact
asked_by s who d =
    if is_own s who (instance_of s who d) then asked_of_own who (marks_of s (triplet_of who)) d else asked_of_other s (marks_of s (triplet_of who)) (instance_of s who d) d

-- what a feature of a manifest asks for, where the manifest is that of the root or of an instance
abbrev pub asked_of : Setting → Who → List ℕ → Manifest Condition → List Fact
asked_of s who f m = flat_map (asked_by s who) (applicable_of s who f m) ++ map (need who) (defaults_of s who f m)

-- the needs of the root from which all else follows
abbrev pub root_facts_of : Setting → List Fact
root_facts_of s = map (need (root s.target.name)) (first_features_of s)
