-- What clear reasons come to, and what a set of items comes to.
use Rattle.std.specs.Prelude.{◌≡◌, List, [], ◌∷◌, map, Result, Ok, Err}
use Rattle.vk_base.specs.declared.stops.Stop.{Stop}
use Rattle.vk_base.specs.declared.stops.Stop.TheVariants as stop
use Rattle.vk_base.specs.declared.stops.Outage.{Outage}
use Rattle.vk_base.specs.declared.stops.Outage.TheVariants as outage
use Rattle.vk_spec.specs.Settings.{Instance}
use Rattle.vk_resolution.specs.Reasons.{Reason}
use Rattle.vk_resolution.specs.Planning.{Item, IsCycle, order_of}
use Rattle.vk_resolution.specs.PlannedSets.{IsOrdered, edges_of}
use Rattle.vk_resolution.specs.Faults.{Fault, has_cycle}
use Rattle.vk_resolution.specs.Outcomes as plain
use Rattle.vk_model.specs.FaultViews.{faults_view, item_view}
use Rattle.vk_model.specs.declared.faults.Fault as told
use Rattle.vk_planset.specs.Sets.{lines_in}
use Rattle.vk_planset.specs.declared.sets.PlanSetFault.{PlanSetFault}
use Rattle.vk_resolve.specs.declared.decisions.Decision.{Decision}
use Rattle.vk_resolve.specs.declared.decisions.Decision.TheVariants.{Planned, Refused}

-- a decision with its reasons
abbrev pub decided : List Reason → Decision → plain.Outcome
decided reasons (Planned plan) = plain.planned (map item_view plan.items) reasons
decided reasons (Refused faults) = plain.refused (faults_view faults) reasons

-- the line of the cycle that the items have
pub record TellsCycle (items : List Item) (lines : List Fault) : Type 0 where
  pub walk : List Instance
  pub is_cycle : IsCycle (edges_of items) (order_of items) walk
  pub line : lines ≡ has_cycle walk ∷ []

-- the items in order, or the line of their cycle
abbrev pub Orders : List Item → Decision → Type 0
Orders items (Planned plan) = IsOrdered items (map item_view plan.items)
Orders items (Refused faults) = TellsCycle items (faults_view faults)

-- the lines of a fault are the refusal, and what stopped the call stops this one
abbrev pub RefusesWith : Stop PlanSetFault → Result Decision Outage → Type 0
RefusesWith (stop.Fault fault) answer = (faults : List told.Fault) × (answer ≡ Ok (Refused faults)) × (faults_view faults ≡ lines_in fault)
RefusesWith stop.Failed answer = answer ≡ Err outage.Failed
RefusesWith (stop.Memory memory) answer = answer ≡ Err (outage.Memory memory)
