use Rattle.vk_pages.proofs.PageLaws.{is_page}
use Rattle.vk_pages.proofs.laws.page_rule.Goals as goal

pub returns : goal.returns
returns c = is_page
