use Rattle.std.proofs.Common.{◌≡◌, ◌++◌, take}
use Rattle.std.specs.Prelude.{flat_map}
use Rattle.vk_base.specs.FeatureViews.{feature_view}
use Rattle.vk_resolution.specs.Reasons.{fact_at}
use Rattle.vk_model.specs.SettingViews.{instance_view}
use Rattle.vk_worklist.specs.Entries.{reasons_in, facts_in}
use Rattle.vk_worklist.specs.Joining.{to_visit}
use Rattle.vk_worklist.proofs.visits.visit_floors.Given as goal

abbrev pub invariant-loop-floor : goal.invariant-loop-floor
invariant-loop-floor l = reasons_in l.brought.items ≡ reasons_in l.initial.brought.items ++ flat_map (λ m. to_visit (instance_view l.inst) (feature_view l.feature) l.need m (fact_at (facts_in l.lines.entries) m)) (take l.floor-index l.floors)
