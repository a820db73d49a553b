use Rattle.std.proofs.Common.{map, take}
use Rattle.std.specs.List.{Contains}
use Rattle.vk_spec.specs.Manifests.{core}
use Rattle.vk_base.specs.FeatureViews.{feature_view}
use Rattle.vk_abi_text.proofs.readers.has_core.Given as goal

abbrev pub invariant-loop-feature : goal.invariant-loop-feature
invariant-loop-feature l = Contains (map feature_view (take l.feature-index l.features)) core → ⊥
