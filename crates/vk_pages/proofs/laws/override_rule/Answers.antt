use Rattle.vk_pages.proofs.PageLaws.{from_registry}
use Rattle.vk_pages.proofs.laws.override_rule.Goals as goal

pub returns : goal.returns
returns c = from_registry
