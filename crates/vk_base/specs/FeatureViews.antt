-- What contracts see of a feature's name.
use Rattle.std.specs.Prelude.{ℕ, List}
use Rattle.vk_spec.specs.Manifests as the
use Rattle.vk_base.specs.declared.features.FeatureName.{FeatureName}
use Rattle.vk_base.specs.declared.features.FeatureName.TheVariants.{Core, Default, Named}

-- its text; the two words stand for themselves
abbrev pub feature_view : FeatureName → List ℕ
feature_view Core = the.core
feature_view Default = the.default
feature_view (Named name) = name

-- neither of the two words
abbrev pub IsNamed : FeatureName → Type 0
IsNamed Core = ⊥
IsNamed Default = ⊥
IsNamed (Named name) = Unit {0}
