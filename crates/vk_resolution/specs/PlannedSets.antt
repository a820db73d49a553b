-- The planned set: the items before they are in order, and the edges between them by the places of their needs.
use Rattle.std.specs.Prelude.{◌≡◌, ℕ, List, [], flat_map, filter_map, slice_get, if◌then◌else◌}
use Rattle.std.specs.List.{Contains, list_any}
use Rattle.vk_spec.specs.Lists.{IsWithin}
use Rattle.vk_spec.specs.Versions.{IsOrder}
use Rattle.vk_spec.specs.Settings.{Instance}
use Rattle.vk_resolution.specs.Least.{IsLeastInOrder}
use Rattle.vk_resolution.specs.Settings.{same_instance}
use Rattle.vk_resolution.specs.Asking.{Fact, fact_key}
use Rattle.vk_resolution.specs.Consequences.{Inputs, rules_of}
use Rattle.vk_resolution.specs.Planning.{instances_of, IsPlanned, IsOnCycle, targets_of, HasHeight, IsByHeight, places_from, Item, IsItem, order_of, IsPlan, IsCycle}
use Rattle.vk_resolution.specs.Faults.{first_faults_of, second_faults_of}
use Rattle.vk_resolution.specs.Service.{OverlaysHaveRows}
use Rattle.vk_resolution.specs.Walks.{Targets}

-- an item for each planned instance, by port and triplet
pub record IsPlanSet (inputs : Inputs) (facts planned : List Fact) (items : List Item) : Type 0 where
  pub order : order_of items ≡ instances_of planned
  pub each : (item : Item) → Contains items item → IsItem inputs facts planned (order_of items) item

-- the instances at the places of an item's needs
abbrev pub needed_by : List Item → Item → List Instance
needed_by items item = filter_map (slice_get (order_of items)) item.needs

-- the edges of a set of items: where the needs of an instance's item lead
abbrev pub edges_of : List Item → Targets
edges_of items i = flat_map (λ item. if same_instance item.instance i then needed_by items item else []) items

-- an item of a set, in another order: only the places of its needs differ
pub record IsMoved (set plan : List Item) (old new : Item) : Type 0 where
  pub instance : new.instance ≡ old.instance
  pub version : new.version ≡ old.version
  pub line : new.line ≡ old.line
  pub features : new.features ≡ old.features
  pub needs : new.needs ≡ places_from 0 (λ j. list_any (same_instance j) (edges_of set new.instance)) (order_of plan)

-- the items of a set in the order of their heights
pub record IsOrdered (set plan : List Item) : Type 0 where
  pub to : IsWithin (order_of set) (order_of plan)
  pub from : IsWithin (order_of plan) (order_of set)
  pub heights : (i : Instance) → Contains (order_of plan) i → (n : ℕ) × HasHeight (edges_of set) n i
  pub order : IsByHeight (edges_of set) (order_of plan)
  pub each : (new : Item) → Contains plan new → (old : Item) × Contains set old × IsMoved set plan old new

-- where the first two phases have no line, there is a planned set
abbrev pub PlanSetExists : Type 0
PlanSetExists = (inputs : Inputs) → IsOrder inputs.at_most → OverlaysHaveRows inputs.pages → (facts : List Fact) → IsLeastInOrder (rules_of inputs) fact_key facts → first_faults_of inputs facts ≡ [] → second_faults_of inputs facts ≡ []
    → (planned : List Fact) → IsPlanned inputs facts planned → (set : List Item) × IsPlanSet inputs facts planned set

-- items can be put in order where none of their instances is on a cycle of their edges
abbrev pub OrderedExists : Type 0
OrderedExists = (set : List Item) → ((i : Instance) → Contains (order_of set) i → IsOnCycle (edges_of set) i → ⊥) → (plan : List Item) × IsOrdered set plan

-- there is one planned set
abbrev pub PlanSetIsOne : Type 0
PlanSetIsOne = (inputs : Inputs) (facts one other : List Fact) → IsPlanned inputs facts one → IsPlanned inputs facts other → (items more : List Item)
    → IsPlanSet inputs facts one items → IsPlanSet inputs facts other more → items ≡ more

-- the edges of the planned set are those of the planned facts
pub record HaveSameEdges (one other : Targets) : Type 0 where
  pub to : (i : Instance) → IsWithin (one i) (other i)
  pub from : (i : Instance) → IsWithin (other i) (one i)

abbrev pub PlanSetEdges : Type 0
PlanSetEdges = (inputs : Inputs) (facts planned : List Fact) → IsPlanned inputs facts planned → (set : List Item) → IsPlanSet inputs facts planned set → HaveSameEdges (edges_of set) (targets_of inputs planned)

-- the planned set in order is the plan
abbrev pub OrderedSetIsPlan : Type 0
OrderedSetIsPlan = (inputs : Inputs) (facts planned : List Fact) → IsPlanned inputs facts planned → (set plan : List Item) → IsPlanSet inputs facts planned set → IsOrdered set plan → IsPlan inputs facts planned plan

-- a cycle of the planned set is one of the planned facts, and the other way round
abbrev pub PlanSetCycles : Type 0
PlanSetCycles = (inputs : Inputs) (facts planned : List Fact) → IsPlanned inputs facts planned → (set : List Item) → IsPlanSet inputs facts planned set → (walk : List Instance)
    → (IsCycle (edges_of set) (order_of set) walk → IsCycle (targets_of inputs planned) (instances_of planned) walk) × (IsCycle (targets_of inputs planned) (instances_of planned) walk → IsCycle (edges_of set) (order_of set) walk)
