use Rattle.vk_resolution.proofs.PlannerLemmas.{outcome_or_too_many, outcome_is_not_too_many, one_outcome_one_report}
use Rattle.vk_resolution.proofs.planner.a_project_has_one_report.Goals as goal

pub returns-clause-either : goal.returns-clause-either
returns-clause-either c = outcome_or_too_many

pub returns-clause-never_both : goal.returns-clause-never_both
returns-clause-never_both c = outcome_is_not_too_many

pub returns-clause-one : goal.returns-clause-one
returns-clause-one c = one_outcome_one_report
