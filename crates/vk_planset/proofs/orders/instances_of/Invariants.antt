use Rattle.std.proofs.Common.{take, map}
use Rattle.std.specs.Prelude.{flat_map}
use Rattle.vk_model.specs.FactViews.{fact_view}
use Rattle.vk_model.specs.SettingViews.{instance_view}
use Rattle.vk_planset.specs.Places.{chosen_in}
use Rattle.vk_planset.specs.Members.{HaveSame}
use Rattle.vk_planset.proofs.orders.instances_of.Given as goal

abbrev pub invariant-loop-fact : goal.invariant-loop-fact
invariant-loop-fact l = HaveSame (map instance_view l.set.keys) (flat_map (chosen_in l.choices.ports.entries) (map fact_view (take l.fact-index l.needs)))
