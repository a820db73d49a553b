use Rattle.vk_planned.proofs.RootLemmas.{roots_next}
use Rattle.vk_planned.proofs.roots.put_features.Goals as goal

pub loop-feature-preserved : goal.loop-feature-preserved
loop-feature-preserved c =
    roots_next c.args.triplet.now c.args.features.now c.loop-feature.feature-index c.feature-item.result c.loop-feature-test.true c.feature-item.is c.loop-feature.invariant c.in_ok-put_feature.ensures
