use Rattle.vk_spec.proofs.FileLemmas.{empty_is_tree}
use Rattle.vk_tree.proofs.file_maps.FileMap.new.Goals as goal

pub invariant_of-result : goal.invariant_of-result
invariant_of-result c = rw c.new.ensures.empty empty_is_tree
