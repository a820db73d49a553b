use Rattle.std.proofs.Common.{◌≡◌, ◌++◌, map, filter, take}
use Rattle.std.specs.Prelude.{bytes_eq}
use Rattle.vk_spec.specs.Manifests.{core}
use Rattle.vk_base.specs.FeatureViews.{feature_view}
use Rattle.vk_planset.proofs.items.push_core.Given as goal

abbrev pub invariant-loop-feature : goal.invariant-loop-feature
invariant-loop-feature l = map feature_view l.list ≡ map feature_view l.initial.list ++ filter (λ f. bytes_eq f core) (map feature_view (take l.feature-index l.features))
