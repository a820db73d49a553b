use Rattle.vk_check.proofs.CertifyLemmas.{certificates_are_least}
use Rattle.vk_check.proofs.laws.a_certificate_is_the_least_list.Goals as goal

pub returns : goal.returns
returns c = certificates_are_least
