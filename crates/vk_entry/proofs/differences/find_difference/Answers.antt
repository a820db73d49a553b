use Rattle.vk_entry.proofs.DifferenceLemmas.{same_difference}
use Rattle.vk_entry.proofs.differences.find_difference.Goals as goal

pub returns : goal.returns
returns c =
    same_difference c.args.found.now c.args.listed.now c.in_ok-found.found.items c.in_ok-listed.listed.items c.as_slice.result.now c.as_slice-2.result.now c.compare.result
    c.in_ok-found.ensures.moved c.in_ok-listed.ensures.moved c.as_slice.ensures.value c.as_slice-2.ensures.value c.compare.ensures
