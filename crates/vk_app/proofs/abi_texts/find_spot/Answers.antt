use Rattle.vk_model.specs.SettingViews.{instance_view}
use Rattle.vk_world.specs.Worlds.{state_of}
use Rattle.vk_app.proofs.TextLemmas.{have_plan, finds_plan, finds_none}
use Rattle.vk_app.proofs.abi_texts.find_spot.Goals as goal

pub spot_in-requires : goal.spot_in-requires
spot_in-requires g c = have_plan c.in-Some.plan.now c.args.outcome.now (state_of g.T.Tree.state c.args.world.now) (rw c.in-Some.is at c.plan_in.ensures.some) c.requires

pub returns-in-Some-clause-finds : goal.returns-in-Some-clause-finds
returns-in-Some-clause-finds g c = finds_plan (instance_view c.args.wanted.instance.now) c.in-Some.plan.now c.args.outcome.now c.spot_in.result (state_of g.T.Tree.state c.args.world.now) (rw c.in-Some.is at c.plan_in.ensures.some) c.spot_in.ensures.finds

pub returns-in-None-clause-finds : goal.returns-in-None-clause-finds
returns-in-None-clause-finds g c = finds_none (instance_view c.args.wanted.instance.now) c.args.outcome.now (state_of g.T.Tree.state c.args.world.now) (rw c.in-None.is at c.plan_in.ensures.none)
