use Rattle.std.proofs.Common.{take}
use Rattle.vk_root.specs.Offs.{AreOff}
use Rattle.vk_root.proofs.instance_sets.set_of.Given as goal

abbrev pub invariant-loop-instance : goal.invariant-loop-instance
invariant-loop-instance l = AreOff (take l.instance-index l.instances) l.set.keys
