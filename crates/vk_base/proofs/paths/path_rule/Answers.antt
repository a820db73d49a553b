use Rattle.vk_base.proofs.PathLemmas.{joined-here}
use Rattle.vk_base.proofs.PathLaws.{read_path, text_back, joined_read}
use Rattle.vk_base.proofs.paths.path_rule.Goals as goal

pub returns-clause-path : goal.returns-clause-path
returns-clause-path c = read_path

pub returns-clause-again : goal.returns-clause-again
returns-clause-again c = text_back

pub returns-clause-between : goal.returns-clause-between
returns-clause-between c = joined_read

pub returns-clause-below : goal.returns-clause-below
returns-clause-below c = joined-here
