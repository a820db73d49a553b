use Rattle.std.proofs.Common.{subst, sym, map, take}
use Rattle.std.specs.Prelude.{flat_map}
use Rattle.vk_model.specs.FactViews.{fact_view}
use Rattle.vk_model.specs.SettingViews.{instance_view}
use Rattle.vk_planset.specs.Places.{chosen_in}
use Rattle.vk_planset.specs.Members.{HaveSame}
use Rattle.vk_planset.proofs.MemberLemmas.{same_more}
use Rattle.vk_planset.proofs.OrderLemmas.{taken_more}
use Rattle.vk_planset.proofs.orders.instances_of.Goals as goal

pub loop-fact-preserved : goal.loop-fact-preserved
loop-fact-preserved c =
    subst (HaveSame (map instance_view c.put_chosen.new.set.keys)) (sym (taken_more fact_view (chosen_in c.args.choices.now.ports.entries) c.args.needs.now c.loop-fact.fact-index c.fact-item.result c.loop-fact-test.true c.fact-item.is))
    (same_more (map instance_view c.loop-fact.set.keys) (flat_map (chosen_in c.args.choices.now.ports.entries) (map fact_view (take c.loop-fact.fact-index c.args.needs.now))) (chosen_in c.args.choices.now.ports.entries (fact_view c.fact-item.result)) (map instance_view c.put_chosen.new.set.keys) c.loop-fact.invariant c.in_ok-put_chosen.ensures)
