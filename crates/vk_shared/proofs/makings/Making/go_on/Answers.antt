use Rattle.std.proofs.Common.{sym}
use Rattle.vk_make.specs.Makes.{next_item}
use Rattle.vk_shared.specs.ItemMachine.{item_left}
use Rattle.vk_shared.specs.MakeMachine.{make_left, now_left, shop_work, then_later}
use Rattle.vk_shared.specs.Tasks.{task_view}
use Rattle.vk_shared.proofs.MakeLemmas.{goes_lack, goes_made, left_makes, may_make}
use Rattle.vk_shared.proofs.makings.Making.go_on.Goals as goal

pub make_call-requires : goal.make_call-requires
make_call-requires g c = may_make c.args.self.now c.in-Makes.task c.in-Makes.at (g.T.Tree.state c.args.tree.now) (sym c.in-Makes.ensures.value) c.requires.may

pub returns-in_default-checked_sub-clause-steps : goal.returns-in_default-checked_sub-clause-steps
returns-in_default-checked_sub-clause-steps g c s =
    let m = c.args.self.now in
    let w = shop_work s m.shop in
    goes_lack (make_left s m) (then_later w m.later m.have (item_left w (next_item (task_view c.in-Makes.task) m.have) c.in-Makes.at)) (now_left w m.later m.have) c.without_allocation.result (g.T.Tree.state c.args.tree.now)
    (left_makes s m c.in-Makes.task c.in-Makes.at (sym c.in-Makes.ensures.value))

pub returns-in-Some-clause-steps : goal.returns-in-Some-clause-steps
returns-in-Some-clause-steps g c s =
    let m = c.args.self.now in
    let w = shop_work s m.shop in
    goes_made (make_left s m) (then_later w m.later m.have (item_left w (next_item (task_view c.in-Makes.task) m.have) c.in-Makes.at)) (now_left w c.make_call.new.later c.make_call.new.have) c.make_call.result (g.T.Tree.state c.args.tree.now) (g.T.Tree.state c.make_call.new.tree)
    (left_makes s m c.in-Makes.task c.in-Makes.at (sym c.in-Makes.ensures.value)) (c.make_call.ensures.steps s)
