use Rattle.vk_make.specs.Makes.{next_item}
use Rattle.vk_shared.specs.ItemMachine.{item_left, next_left}
use Rattle.vk_shared.specs.MakeMachine.{now_left, shop_work}
use Rattle.vk_shared.specs.Tasks.{task_view}
use Rattle.vk_shared.proofs.MakeLemmas.{makes_next}
use Rattle.vk_shared.proofs.makings.make_call.Goals as goal

pub returns-in_ok-follow-in-Ok-clause-steps : goal.returns-in_ok-follow-in-Ok-clause-steps
returns-in_ok-follow-in-Ok-clause-steps g c s =
    let w = shop_work s c.args.shop.now in
    let i = next_item (task_view c.args.task) c.args.have.now in
    makes_next w c.args.later.now c.args.have.now (item_left w i c.args.at) (next_left w i c.in-Ok.next) (now_left w c.follow.new.later c.follow.new.have) c.in_ok-follow-in-Ok.field-0
    (g.T.Tree.state c.args.tree.now) (g.T.Tree.state c.item_call.new.tree) (c.in-Ok.ensures.steps s) (c.in_ok-follow-in-Ok.ensures.left w)
