use Rattle.vk_expr.proofs.ReadingLaws.{reads_is, is_reads, never_both}
use Rattle.vk_expr.proofs.laws.reading_or_fault.Goals as goal

pub returns-clause-reading : goal.returns-clause-reading
returns-clause-reading c = λ text t. (is_reads text t, reads_is text t)

pub returns-clause-fault : goal.returns-clause-fault
returns-clause-fault c = λ text f t fails reads. never_both text t f reads fails
