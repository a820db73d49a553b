-- The order of facts of one rank, case by case.
use Rattle.std.specs.Prelude.{◌≡◌, ◌<◌, ◌⊎◌, ◌↔◌, ℕ, List}
use Rattle.std.specs.Ordering.{nat_cmp}
use Rattle.std.specs.declared.cmp.Ordering.TheVariants.{Less}
use Rattle.std.specs.Cmp.Lexicographic.{slice_cmp}
use Rattle.vk_spec.specs.Versions.{Ask}
use Rattle.vk_spec.specs.Settings.{Instance}
use Rattle.vk_resolution.specs.Keys.{key_cmp}
use Rattle.vk_resolution.specs.Settings.{Who, root, inst}
use Rattle.vk_resolution.specs.Asking.{Fact, need, floor, visit, fact_key}

-- one text comes before another, byte by byte
abbrev pub IsTextBefore : List ℕ → List ℕ → Type 0
IsTextBefore f g = slice_cmp nat_cmp f g ≡ Less

-- the one text comes before the other, or they are the same and then this holds
abbrev pub BeforeOrThen : List ℕ → List ℕ → Type 0 → Type 0
BeforeOrThen f g Then = IsTextBefore f g ⊎ (f ≡ g) × Then

-- one ask comes before another by its text, and then by its port-version, as a number
abbrev pub IsAskBefore : Ask → Ask → Type 0
IsAskBefore a b = BeforeOrThen a.text b.text (a.port < b.port)

-- one instance comes before another by its port and then by its triplet, or they are the same and then this holds
abbrev pub InstanceBeforeOrThen : Instance → Instance → Type 0 → Type 0
InstanceBeforeOrThen i j Then = BeforeOrThen i.port j.port (BeforeOrThen i.triplet j.triplet Then)

-- which fact comes first: needs before floors, and both before visits; of needs the root's, by triplet and feature; then those of instances, by port, triplet and feature;
-- floors by port and ask; visits by port, triplet, feature and ask
pub data FactComesBefore : Fact → Fact → Type 0 where
  need_before_floor : (who : Who) (f p : List ℕ) (a : Ask) → FactComesBefore (need who f) (floor p a)
  need_before_visit : (who : Who) (f : List ℕ) (i : Instance) (g : List ℕ) (a : Ask) → FactComesBefore (need who f) (visit i g a)
  floor_before_visit : (p : List ℕ) (a : Ask) (i : Instance) (f : List ℕ) (b : Ask) → FactComesBefore (floor p a) (visit i f b)
  root_before_instance : (triplet f : List ℕ) (i : Instance) (g : List ℕ) → FactComesBefore (need (root triplet) f) (need (inst i) g)
  of_root : (t f u g : List ℕ) → BeforeOrThen t u (IsTextBefore f g) → FactComesBefore (need (root t) f) (need (root u) g)
  of_instances : (i : Instance) (f : List ℕ) (j : Instance) (g : List ℕ) → InstanceBeforeOrThen i j (IsTextBefore f g) → FactComesBefore (need (inst i) f) (need (inst j) g)
  of_floors : (p : List ℕ) (a : Ask) (q : List ℕ) (b : Ask) → BeforeOrThen p q (IsAskBefore a b) → FactComesBefore (floor p a) (floor q b)
  of_visits : (i : Instance) (f : List ℕ) (a : Ask) (j : Instance) (g : List ℕ) (b : Ask)
      → InstanceBeforeOrThen i j (BeforeOrThen f g (IsAskBefore a b)) → FactComesBefore (visit i f a) (visit j g b)

-- `fact_key` orders facts so
abbrev pub FactsComeInOrder : Type 0
FactsComeInOrder = (x y : Fact) → key_cmp (fact_key x) (fact_key y) ≡ Less ↔ FactComesBefore x y
