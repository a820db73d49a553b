-- What is found of an instance in a plan, over a world.
use Rattle.std.specs.Prelude.{◌≡◌, ◌≢◌, ℕ, Bool, List, map, length, Option, Some, None, IfSome, IsOk, Result, Ok, Err}
use Rattle.std.specs.List.{Contains, zip}
use Rattle.vk_spec.specs.Lists.{NoRepeats}
use Rattle.vk_spec.specs.Paths.{Path}
use Rattle.vk_spec.specs.States.{State}
use Rattle.vk_spec.specs.Standing.{disk_of}
use Rattle.vk_spec.specs.Settings.{Instance}
use Rattle.vk_spec.specs.Versions.{Version, ask_of}
use Rattle.vk_spec.specs.Pages.{version_in}
use Rattle.vk_spec.specs.Catalogues.{CatalogueState, OnPages, Places}
use Rattle.vk_spec.specs.Conditions.{Condition}
use Rattle.vk_base.specs.declared.limits.Limit.{Limit}
use Rattle.vk_base.specs.declared.stops.Outage.{Outage}
use Rattle.vk_base.specs.declared.stops.Stop.{Stop}
use Rattle.vk_base.specs.declared.stops.Stop.TheVariants as stop
use Rattle.vk_resolution.specs.Givens.{Pages}
use Rattle.vk_resolution.specs.Planning.{Item, order_of}
use Rattle.vk_model.specs.FaultViews.{item_view}
use Rattle.vk_model.specs.declared.plans.Plan.{Plan}
use Rattle.vk_model.specs.declared.reasons.Reason.{Reason}
use Rattle.vk_model.specs.declared.plans.Outcome.{Outcome}
use Rattle.vk_model.specs.declared.plans.Outcome.TheVariants as outcome
use Rattle.vk_worklist.specs.declared.faults.CloseFault.{CloseFault}
use Rattle.vk_folder.specs.Folders.{ReadsOnly}
use Rattle.vk_abi.specs.Plans.{Pair, TextsAre, IsBelowSome}
use Rattle.vk_model.specs.SettingViews.{instance_view, setting_view}
use Rattle.vk_app.specs.Shown.{Shown, told, printed, memory_line, tree_line, limit_line}
use Rattle.vk_app.specs.Texts.{place_of, shared_of, shown_at, not_planned}
use Rattle.vk_app.specs.Ends.{MayEnd, EndsWith, shown_of, shown_out}
use Rattle.vk_app.specs.declared.requests.Task.TheVariants as task
use Rattle.vk_app.specs.declared.abi_texts.Wanted.{Wanted}
use Rattle.vk_app.specs.declared.abi_texts.Spot.{Spot}

-- a port has a given version, and this one in its table
pub record HasVersion (pages : Pages) (port : List ℕ) (v : Version) : Type 0 where
  pub given : IsOk (pages port).given
  pub listed : version_in (pages port) (ask_of v) ≡ Some v

abbrev pub HasItem : Pages → Item → Type 0
HasItem pages item = HasVersion pages item.instance.port item.version

abbrev pub HaveItems : Pages → List Item → Type 0
HaveItems pages items = (item : Item) → Contains items item → HasItem pages item

-- the version of each item stands in its folder
abbrev pub StandIn : Places → List Item → List Path → Type 0
StandIn places items folders = map (λ item. places item.instance.port item.version) items ≡ map Some folders

-- so it is where the pages are told
abbrev pub AreItemFolders : List Item → List Path → CatalogueState Condition → Type 0
AreItemFolders items folders s = OnPages (λ pages. StandIn s.origin.places items folders) s

-- a project comes to this plan, or to none
pub record IsPlanOf (plan : Plan) (answer : Result Outcome (Stop CloseFault)) : Type 0 where
  pub reasons : List Reason
  pub is : answer ≡ Ok (outcome.Planned plan reasons)

abbrev pub HasNoPlan : Result Outcome (Stop CloseFault) → Type 0
HasNoPlan (Ok (outcome.Planned plan reasons)) = ⊥
HasNoPlan (Ok (outcome.Refused faults reasons)) = Unit {0}
HasNoPlan (Ok (outcome.Early early)) = Unit {0}
HasNoPlan (Err stop) = Unit {0}

-- the pages have the items of what a project comes to
abbrev pub HaveOutcome : Result Outcome (Stop CloseFault) → CatalogueState Condition → Type 0
HaveOutcome (Ok (outcome.Planned plan reasons)) s = OnPages (λ pages. HaveItems pages (map item_view plan.items)) s
HaveOutcome (Ok (outcome.Refused faults reasons)) s = Unit {0}
HaveOutcome (Ok (outcome.Early early)) s = Unit {0}
HaveOutcome (Err stop) s = Unit {0}

-- where an instance stands in a plan, and the folders of all its items; nothing where there is no plan or it isn't planned
abbrev pub IsSpot : Instance → List Item → Option Spot → CatalogueState Condition → Type 0
IsSpot i items None s = place_of i items ≡ None
IsSpot i items (Some spot) s = (place_of i items ≡ Some spot.place) × (length spot.folders ≡ length items) × AreItemFolders items spot.folders s

abbrev pub FindsIn : Instance → List Item → Result (Option Spot) Outage → CatalogueState Condition → Type 0
FindsIn i items (Ok spot) s = IsSpot i items spot s
FindsIn i items (Err outage) s = Unit {0}

-- the same of what a project comes to
abbrev pub Finds : Instance → Result Outcome (Stop CloseFault) → Result (Option Spot) Outage → CatalogueState Condition → Type 0
Finds i (Ok (outcome.Planned plan reasons)) found s = FindsIn i (map item_view plan.items) found s
Finds i (Ok (outcome.Refused faults reasons)) found s = found ≡ Ok None
Finds i (Ok (outcome.Early early)) found s = found ≡ Ok None
Finds i (Err stop) found s = found ≡ Ok None

-- ---- how it is told

-- how it is shown that there are no texts
abbrev pub shown_limit : Stop Limit → Shown
shown_limit (stop.Fault limit) = told 6 (limit_line limit)
shown_limit stop.Failed = told 4 tree_line
shown_limit (stop.Memory m) = told 3 memory_line

-- the text at a spot, or the limit that a folder passes
pub record EndsPlaced (wanted : Wanted) (items : List Item) (spot : Spot) (shown : Shown) (before after : State) : Type 0 where
  pub failed : Bool
  pub may : MayEnd (Ok (task.Abi wanted.project.now wanted.instance.now)) shown failed
  pub reads : ReadsOnly (IsBelowSome spot.folders) failed before after
  pub content : IfSome before.told (λ t. shown.status ≢ 3 → shown.status ≢ 4 → NoRepeats (order_of items)
      → (texts : Result (List Pair) Limit) × TextsAre (shared_of wanted.project.now (setting_view wanted.setting.now)) (zip items spot.folders) texts (disk_of t.files) × (shown ≡ shown_at spot.place texts))

-- the tree is left as it was
pub record Untouched (first shown : Shown) (before after : State) : Type 0 where
  pub ends : EndsWith first shown
  pub same : after ≡ before

-- what is told of a plan, by what was found there
abbrev pub EndsInPlan : Wanted → List Item → Result (Option Spot) Outage → Shown → State → State → Type 0
EndsInPlan wanted items (Ok (Some spot)) shown before after = EndsPlaced wanted items spot shown before after
EndsInPlan wanted items (Ok None) shown before after = Untouched (printed 1 (not_planned (instance_view wanted.instance.now))) shown before after
EndsInPlan wanted items (Err outage) shown before after = Untouched (shown_out outage) shown before after

-- and of what a project comes to
abbrev pub EndsFound : Wanted → Result Outcome (Stop CloseFault) → Result (Option Spot) Outage → Shown → State → State → Type 0
EndsFound wanted (Ok (outcome.Planned plan reasons)) found shown before after = EndsInPlan wanted (map item_view plan.items) found shown before after
EndsFound wanted (Ok (outcome.Refused faults reasons)) found shown before after = Untouched (shown_of wanted.project.now (Ok (outcome.Refused faults reasons))) shown before after
EndsFound wanted (Ok (outcome.Early early)) found shown before after = Untouched (shown_of wanted.project.now (Ok (outcome.Early early))) shown before after
EndsFound wanted (Err stop) found shown before after = Untouched (shown_of wanted.project.now (Err stop)) shown before after

-- a spot has a folder for each item
abbrev pub HasFolders : List Item → Result (Option Spot) Outage → Type 0
HasFolders items (Ok (Some spot)) = length spot.folders ≡ length items
HasFolders items (Ok None) = Unit {0}
HasFolders items (Err outage) = Unit {0}

abbrev pub FitsOutcome : Result Outcome (Stop CloseFault) → Result (Option Spot) Outage → Type 0
FitsOutcome (Ok (outcome.Planned plan reasons)) found = HasFolders (map item_view plan.items) found
FitsOutcome (Ok (outcome.Refused faults reasons)) found = Unit {0}
FitsOutcome (Ok (outcome.Early early)) found = Unit {0}
FitsOutcome (Err stop) found = Unit {0}
