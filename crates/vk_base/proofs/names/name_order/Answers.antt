use Rattle.std.specs.FinMap.{slice_cmp-IsAntisymmetric, nat_cmp-IsAntisymmetric}
use Rattle.std.specs.Cmp.{nat_cmp_total}
use Rattle.std.specs.Cmp.Lexicographic.{lists_total}
use Rattle.vk_base.proofs.names.name_order.Goals as goal

pub returns-clause-ties : goal.returns-clause-ties
returns-clause-ties c = slice_cmp-IsAntisymmetric nat_cmp-IsAntisymmetric

pub returns-clause-total : goal.returns-clause-total
returns-clause-total c = lists_total nat_cmp_total
