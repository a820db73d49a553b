use Rattle.vk_pages.proofs.PageLaws.{is_pinned_where}
use Rattle.vk_pages.proofs.laws.pinned_rule.Goals as goal

pub returns : goal.returns
returns c = is_pinned_where
