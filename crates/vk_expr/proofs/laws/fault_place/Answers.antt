use Rattle.vk_expr.proofs.FaultLaws.{first_fault, fault_read, one_fault}
use Rattle.vk_expr.proofs.laws.fault_place.Goals as goal

pub returns-clause-place : goal.returns-clause-place
returns-clause-place c = λ text f. (first_fault text f, fault_read text f)

pub returns-clause-one : goal.returns-clause-one
returns-clause-one c = one_fault
