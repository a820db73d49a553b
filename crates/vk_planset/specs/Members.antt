-- Lists by their members.
use Rattle.std.specs.Prelude.{◌⊎◌, ℕ, List, ◌∷◌, []}
use Rattle.std.specs.declared.cmp.Ordering.{Ordering}
use Rattle.std.specs.Ordering.{nat_cmp, on}
use Rattle.std.specs.Cmp.Lexicographic.{slice_cmp}
use Rattle.std.specs.List.{Contains}
use Rattle.vk_spec.specs.Lists.{IsWithin}
use Rattle.vk_resolution.specs.Keys.{Key}
use Rattle.vk_base.specs.declared.features.FeatureName.{FeatureName}
use Rattle.vk_base.specs.FeatureViews.{feature_view}

-- two lists have the same members
pub record HaveSame {X : Type 0} (xs ys : List X) : Type 0 where
  pub to : IsWithin xs ys
  pub from : IsWithin ys xs

-- a list has the members of the old one, and more
pub record HasMore {X : Type 0} (old more new : List X) : Type 0 where
  pub keeps : IsWithin old new
  pub adds : IsWithin more new
  pub only : (x : X) → Contains new x → Contains old x ⊎ Contains more x

-- what a number is ordered by
abbrev pub number_key : ℕ → Key
number_key n = (n ∷ []) ∷ []

-- the order of features by their bytes
abbrev pub feature_cmp : FeatureName → FeatureName → Ordering
feature_cmp = on feature_view (slice_cmp nat_cmp)
