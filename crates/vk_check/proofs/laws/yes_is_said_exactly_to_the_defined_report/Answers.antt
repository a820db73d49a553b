use Rattle.vk_check.proofs.CheckLemmas.{yes_is_exact}
use Rattle.vk_check.proofs.laws.yes_is_said_exactly_to_the_defined_report.Goals as goal

pub returns : goal.returns
returns c = yes_is_exact
