use Rattle.vk_report_reader.proofs.OneOutcome.{never_both, one_outcome}
use Rattle.vk_report_reader.proofs.laws.a_report_has_one_outcome.Goals as goal

pub returns-clause-one : goal.returns-clause-one
returns-clause-one c = one_outcome

pub returns-clause-never_both : goal.returns-clause-never_both
returns-clause-never_both c = never_both
