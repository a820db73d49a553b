use Rattle.vk_entry.proofs.PackageLemmas.{nothing_in_order}
use Rattle.vk_entry.proofs.packages.Package.new.Goals as goal

pub invariant_of-result : goal.invariant_of-result
invariant_of-result c = rw c.new.ensures.items nothing_in_order
