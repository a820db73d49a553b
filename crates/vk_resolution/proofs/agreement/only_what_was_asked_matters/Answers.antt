use Rattle.vk_resolution.proofs.AgreementLemmas.{same_least_list}
use Rattle.vk_resolution.proofs.OutcomeLemmas.{same_outcome, published_agrees, unasked_changes_nothing}
use Rattle.vk_resolution.proofs.agreement.only_what_was_asked_matters.Goals as goal

pub returns-clause-facts : goal.returns-clause-facts
returns-clause-facts c = same_least_list

pub returns-clause-outcome : goal.returns-clause-outcome
returns-clause-outcome c = same_outcome

pub returns-clause-unasked : goal.returns-clause-unasked
returns-clause-unasked c = unasked_changes_nothing

pub returns-clause-agrees : goal.returns-clause-agrees
returns-clause-agrees c = published_agrees
