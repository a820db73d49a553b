use Rattle.vk_entry.proofs.SameTexts.{same_path}
use Rattle.vk_entry.proofs.laws.a_text_is_that_of_one_path.Goals as goal

pub returns : goal.returns
returns c = same_path
