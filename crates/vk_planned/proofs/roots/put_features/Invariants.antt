use Rattle.std.proofs.Common.{[], map, take}
use Rattle.vk_base.specs.FeatureViews.{feature_view}
use Rattle.vk_resolution.specs.Worklist.{Notes}
use Rattle.vk_planned.specs.Needs.{facts_view, root_needs}
use Rattle.vk_planned.proofs.roots.put_features.Given as goal

abbrev pub invariant-loop-feature : goal.invariant-loop-feature
invariant-loop-feature l = Notes [] (root_needs l.triplet (map feature_view (take l.feature-index l.features))) (facts_view l.initial.needs.keys) (facts_view l.needs.keys)
