use Rattle.vk_root.proofs.GrowthLemmas.{grows_next}
use Rattle.vk_root.proofs.asked_features.put_all.Goals as goal

pub loop-name-preserved : goal.loop-name-preserved
loop-name-preserved c = grows_next c.args.more.now c.loop-name.name-index c.name-item.result c.loop-name-test.true c.name-item.is c.loop-name.invariant c.in_ok-put.ensures
