use Rattle.std.proofs.Common.{subst}
use Rattle.std.proofs.lemmas.List.{take_all}
use Rattle.vk_root.specs.Offs.{AreOff}
use Rattle.vk_root.proofs.OffSetLemmas.{off_more}
use Rattle.vk_root.proofs.instance_sets.set_of.Goals as goal

pub loop-instance-preserved : goal.loop-instance-preserved
loop-instance-preserved c =
    off_more c.args.instances.now c.loop-instance.set.keys c.put.new.set.keys c.loop-instance.instance-index c.instance-item.result c.instance-item.result c.loop-instance-test.true c.loop-instance.invariant c.instance-item.is c.in_ok-put.ensures

pub returns : goal.returns
returns c = subst (λ l. AreOff l c.loop-instance.set.keys) (take_all c.loop-instance.instance-index c.args.instances.now c.loop-instance-test.false) c.loop-instance.invariant
