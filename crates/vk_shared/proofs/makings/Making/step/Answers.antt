use Rattle.vk_shared.specs.MakeMachine.{make_left, now_left, shop_work}
use Rattle.vk_shared.proofs.MakeLemmas.{goes_next, goes_stop, stop_left}
use Rattle.vk_shared.proofs.makings.Making.step.Goals as goal

pub returns-in-Ok-clause-steps : goal.returns-in-Ok-clause-steps
unfolding make_left
returns-in-Ok-clause-steps g c s =
    rw c.replace.ensures.after
    (goes_next (make_left s c.args.self.now) (now_left (shop_work s c.go_on.new.self.shop) c.go_on.new.self.later c.go_on.new.self.have) c.in-Ok.at tt (g.T.Tree.state c.args.tree.now) (g.T.Tree.state c.go_on.new.tree) (c.in-Ok.ensures.steps s))

pub returns-in-Err-clause-steps : goal.returns-in-Err-clause-steps
unfolding make_left
returns-in-Err-clause-steps g c s =
    goes_stop (make_left s c.args.self.now) (now_left (shop_work s c.go_on.new.self.shop) c.go_on.new.self.later c.go_on.new.self.have c.replace-in-Err.new.dest) (now_left (shop_work s c.go_on.new.self.shop) c.go_on.new.self.later c.go_on.new.self.have) c.in-Err.outage (g.T.Tree.state c.args.tree.now) (g.T.Tree.state c.go_on.new.tree) (c.in-Err.ensures.steps s)
    (rw (c.replace-in-Err.ensures.after, c.from.ensures) (stop_left c.in-Err.outage))
