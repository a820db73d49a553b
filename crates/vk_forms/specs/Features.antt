-- Which lists of features stand in a report.
use Rattle.std.specs.Prelude.{◌≡◌, ◌==◌, ◌++◌, ℕ, Bool, true, false, List, [], ◌∷◌, Option, Some, None}
use Rattle.std.specs.List.{slice_split}
use Rattle.std.specs.Cmp.Lexicographic.{slice_cmp}
use Rattle.std.specs.Ordering.{nat_cmp}
use Rattle.std.specs.declared.cmp.Ordering.TheVariants.{Less}
use Rattle.vk_spec.specs.Manifests.{core}
use Rattle.vk_base.specs.Names.{IsFeatureName}

-- named features, each above the one before it
abbrev pub AreAbove : List ℕ → List (List ℕ) → Type 0
AreAbove last [] = Unit {0}
AreAbove last (f ∷ fs) = IsFeatureName f × (slice_cmp nat_cmp last f ≡ Less) × AreAbove f fs

-- `core`, and then named features in the order of their bytes, without repeats
abbrev pub AreFeatures : List (List ℕ) → Type 0
AreFeatures [] = ⊥
AreFeatures (f ∷ fs) = (f ≡ core) × AreAbove [] fs

-- what stands between the commas
abbrev pub between_commas : List ℕ → List (List ℕ)
between_commas text = slice_split (λ b. b == 44) text

-- a named feature above the last is put at the end, or it is none
abbrev pub PutsAbove : List ℕ → List ℕ → List (List ℕ) → List (List ℕ) → Bool → Type 0
PutsAbove last f before after true = IsFeatureName f × (slice_cmp nat_cmp last f ≡ Less) × (after ≡ before ++ f ∷ [])
PutsAbove last f before after false = IsFeatureName f → slice_cmp nat_cmp last f ≡ Less → ⊥

-- `core` and the named features of a text, or that they are none
abbrev pub ReadsNamed : List ℕ → Option (List (List ℕ)) → Type 0
ReadsNamed text (Some features) = (features ≡ core ∷ between_commas text) × AreAbove [] (between_commas text)
ReadsNamed text None = AreAbove [] (between_commas text) → ⊥
