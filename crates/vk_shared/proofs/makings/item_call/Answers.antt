use Rattle.vk_make.specs.Makes.{next_item}
use Rattle.vk_shared.specs.MakeMachine.{shop_work}
use Rattle.vk_shared.specs.Tasks.{task_view}
use Rattle.vk_shared.proofs.JobLemmas.{item_may, item_does}
use Rattle.vk_shared.proofs.makings.item_call.Goals as goal

pub item_step-requires : goal.item_step-requires
item_step-requires g c = item_may c.job.result (λ s. shop_work s c.args.shop.now) (next_item (task_view c.args.task.now) c.args.have.now) c.args.at (g.T.Tree.state c.args.tree.now) c.job.ensures.work c.job.ensures.item c.requires

pub returns-clause-steps : goal.returns-clause-steps
returns-clause-steps g c s = item_does (shop_work s c.args.shop.now) (next_item (task_view c.args.task.now) c.args.have.now) c.job.result s c.args.at c.item_step.result (g.T.Tree.state c.args.tree.now) (g.T.Tree.state c.item_step.new.tree) (c.job.ensures.work s) c.job.ensures.item (c.item_step.ensures.steps s)
