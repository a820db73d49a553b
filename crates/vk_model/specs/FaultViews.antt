-- What contracts see of fault lines, closures, plans and outcomes: the plain ones of resolution.
use Rattle.std.specs.Prelude.{List, map, Result, Ok, Err}
use Rattle.vk_base.specs.FeatureViews.{feature_view}
use Rattle.vk_version.specs.AskViews.{ask_view}
use Rattle.vk_json.specs.Words.{word_of}
use Rattle.vk_spec.specs.Earlies as plain_early
use Rattle.vk_resolution.specs.Faults as plain
use Rattle.vk_resolution.specs.Closures as plain_closure
use Rattle.vk_resolution.specs.Planning as plain_plan
use Rattle.vk_resolution.specs.Outcomes as plain_outcome
use Rattle.vk_model.specs.SettingViews.{instance_view}
use Rattle.vk_model.specs.WrongViews.{field_view}
use Rattle.vk_model.specs.EarlyViews.{early_view}
use Rattle.vk_model.specs.FactViews.{who_view, reasons_view}
use Rattle.vk_model.specs.declared.faults.Fault.{Fault}
use Rattle.vk_model.specs.declared.faults.Fault.TheVariants as fault
use Rattle.vk_model.specs.declared.reasons.Closure.{Closure}
use Rattle.vk_model.specs.declared.plans.Item.{Item}
use Rattle.vk_model.specs.declared.plans.Outcome.{Outcome}
use Rattle.vk_model.specs.declared.plans.Outcome.TheVariants as outcome

abbrev pub fault_view : Fault → plain.Fault
fault_view (fault.NoRegistry port n) = plain.troubled (plain.lacks_registry port) n
fault_view (fault.NoBaseline port n) = plain.troubled (plain.lacks_baseline port) n
fault_view (fault.BadFile path place why n) = plain.troubled (plain.unreadable path place (word_of why)) n
fault_view (fault.NoVersion port ask n) = plain.troubled (plain.lacks_version port (ask_view ask)) n
fault_view (fault.Disagrees path field table manifest n) = plain.troubled (plain.differs path (field_view field) table manifest) n
fault_view (fault.Conflict port first n second m) = plain.conflicts port first n second m
fault_view (fault.NoFeature who feature version n) = plain.lacks_feature (who_view who) (feature_view feature) version n
fault_view (fault.Unsupported who feature version n) = plain.isnt_supported (who_view who) (feature_view feature) version n
fault_view (fault.Cycle walk) = plain.has_cycle (map instance_view walk)

abbrev pub faults_view : List Fault → List plain.Fault
faults_view = map fault_view

abbrev pub closure_view : Closure → plain_closure.Closure
closure_view c = record { reasons = reasons_view c.reasons; faults = faults_view c.faults }

abbrev pub item_view : Item → plain_plan.Item
item_view i = record { instance = instance_view i.inst; version = i.version; line = i.line; features = map feature_view i.features; needs = i.needs }

-- the plan or the refusal, or the early line in place of both
abbrev pub outcome_view : Outcome → Result plain_outcome.Outcome plain_early.Early
outcome_view (outcome.Planned plan reasons) = Ok (plain_outcome.planned (map item_view plan.items) (reasons_view reasons))
outcome_view (outcome.Refused faults reasons) = Ok (plain_outcome.refused (faults_view faults) (reasons_view reasons))
outcome_view (outcome.Early early) = Err (early_view early)
