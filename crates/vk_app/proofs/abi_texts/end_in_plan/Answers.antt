use Rattle.vk_app.proofs.TextLemmas.{shown_at_once}
use Rattle.vk_app.proofs.abi_texts.end_in_plan.Goals as goal

pub returns-in-Err : goal.returns-in-Err
returns-in-Err g c = rw c.in-Err.is (shown_at_once _ _ _ c.end_of_outage.ensures)
