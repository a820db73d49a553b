use Rattle.vk_resolution.proofs.CertificateLemmas.{certificate_is_least}
use Rattle.vk_resolution.proofs.CitationLemmas.{cited_lines_are_those}
use Rattle.vk_resolution.proofs.Derivations.{reasons_derived, derivation_leads}
use Rattle.vk_resolution.proofs.LineLemmas.{lines_are_numbers}
use Rattle.vk_resolution.proofs.reasons.reasons_show_what_they_claim.Goals as goal

pub returns-clause-derivation : goal.returns-clause-derivation
returns-clause-derivation c = reasons_derived

pub returns-clause-roots : goal.returns-clause-roots
returns-clause-roots c = derivation_leads

pub returns-clause-least : goal.returns-clause-least
returns-clause-least c = certificate_is_least

pub returns-clause-lines : goal.returns-clause-lines
returns-clause-lines c = lines_are_numbers

pub returns-clause-cited : goal.returns-clause-cited
returns-clause-cited c = cited_lines_are_those
