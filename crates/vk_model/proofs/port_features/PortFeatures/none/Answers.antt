use Rattle.std.specs.List.Sorted.{IsStrictlySortedBy}
use Rattle.vk_model.proofs.port_features.PortFeatures.none.Goals as goal

pub invariant_of-result : goal.invariant_of-result
unfolding IsStrictlySortedBy
invariant_of-result c = rw c.new.ensures tt
