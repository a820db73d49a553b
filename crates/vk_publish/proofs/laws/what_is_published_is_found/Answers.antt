use Rattle.vk_publish.proofs.FoundLemmas.{whole_hit, whole_valid}
use Rattle.vk_publish.proofs.laws.what_is_published_is_found.Goals as goal

pub returns-clause-valid : goal.returns-clause-valid
returns-clause-valid c = whole_valid

pub returns-clause-hit : goal.returns-clause-hit
returns-clause-hit c = whole_hit
