use Rattle.vk_expr.specs.Printing.{printed}
use Rattle.vk_expr.proofs.ReadingLaws.{reads_is, is_reads}
use Rattle.vk_expr.proofs.PrintLaws.{print_reads}
use Rattle.vk_expr.proofs.laws.print_again.Goals as goal

pub returns : goal.returns
returns c = λ text t e. reads_is (printed t) t (print_reads text t (is_reads text t e))
