use Rattle.vk_version.proofs.WrittenLemmas.{relaxed_form, relaxed_parts, written_parts}
use Rattle.vk_version.proofs.laws.relaxed_form.Goals as goal

pub returns : goal.returns
returns c = record { form = relaxed_form; parts = relaxed_parts; one_way = written_parts }
