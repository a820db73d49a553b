use Rattle.vk_entry.proofs.Outcomes.{one_list, one_refusal, never_both}
use Rattle.vk_entry.proofs.laws.bytes_have_one_reading.Goals as goal

pub returns-clause-one : goal.returns-clause-one
returns-clause-one c = one_list

pub returns-clause-one_fault : goal.returns-clause-one_fault
returns-clause-one_fault c = one_refusal

pub returns-clause-never_both : goal.returns-clause-never_both
returns-clause-never_both c = never_both
