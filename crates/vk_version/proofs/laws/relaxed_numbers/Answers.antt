use Rattle.vk_version.proofs.WrittenLemmas.{relaxed_numbers}
use Rattle.vk_version.proofs.laws.relaxed_numbers.Goals as goal

pub returns : goal.returns
returns c = relaxed_numbers
