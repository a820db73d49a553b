use Rattle.vk_pages.proofs.PageLaws.{from_overlay}
use Rattle.vk_pages.proofs.laws.overlay_rule.Goals as goal

pub returns : goal.returns
returns c = from_overlay
