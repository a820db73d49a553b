use Rattle.vk_resolution.proofs.ClosureLemmas.{closure_is_one, closure_or_too_many, too_many_is_no_closure, closure_refuses}
use Rattle.vk_resolution.proofs.closures.a_closure_is_one_or_has_too_many_facts.Goals as goal

pub returns-clause-one : goal.returns-clause-one
returns-clause-one c = closure_is_one

pub returns-clause-either : goal.returns-clause-either
returns-clause-either c = closure_or_too_many

pub returns-clause-never_both : goal.returns-clause-never_both
returns-clause-never_both c = too_many_is_no_closure

pub returns-clause-refusal : goal.returns-clause-refusal
returns-clause-refusal c = closure_refuses
