use Rattle.std.proofs.Common.{map}
use Rattle.vk_model.specs.FaultViews.{item_view}
use Rattle.vk_app.proofs.TextLemmas.{placed_text, placed_limit}
use Rattle.vk_app.proofs.abi_texts.end_at.Goals as goal

pub returns-in-Ok : goal.returns-in-Ok
returns-in-Ok g c = rw (c.text_of.ensures) (placed_text c.args.wanted (map item_view c.args.plan.now.items) c.args.spot.now c.in-Ok.pairs _ _ (rw c.in-Ok.is at c.texts.ensures.is) (rw c.in-Ok.is at c.texts.ensures.reads))

pub returns-in-Err : goal.returns-in-Err
returns-in-Err g c = placed_limit c.args.wanted (map item_view c.args.plan.now.items) c.args.spot.now c.in-Err.stop _ _ _ (rw c.in-Err.is at c.texts.ensures.is) (rw c.in-Err.is at c.texts.ensures.limits) (rw c.in-Err.is at c.texts.ensures.reads) c.end_of_texts.ensures
