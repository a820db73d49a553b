use Rattle.vk_check.proofs.CompareLemmas.{verdict_is_one, no_means_different}
use Rattle.vk_check.proofs.VerdictLemmas.{some_verdict}
use Rattle.vk_check.proofs.laws.a_verdict_is_one.Goals as goal

pub returns : goal.returns
returns c = record { exists = some_verdict; one = verdict_is_one; no = no_means_different }
