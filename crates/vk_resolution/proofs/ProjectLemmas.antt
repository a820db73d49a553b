-- Each worked project, computed.
use Rattle.std.proofs.Common.{◌≡◌, ◌∙◌, ℕ, List, refl, ap}
use Rattle.std.specs.Prelude.{Some, option_map}
use Rattle.vk_resolution.specs.Settings.{ListsOff}
use Rattle.vk_resolution.specs.Asking.{Fact, fact_key}
use Rattle.vk_resolution.specs.Consequences.{Inputs, rules_of}
use Rattle.vk_resolution.specs.Reasons.{Reason, IsReasons, facts_of}
use Rattle.vk_resolution.specs.Outcomes.{Printing}
use Rattle.vk_resolution.specs.Computed.{outcome_by, off_list_by, reasons_by, if_closed, round}
use Rattle.vk_resolution.specs.Examples.{Report, report_of, Reports, needs_in, HasNeeds, ReportsAlone}
use Rattle.vk_resolution.specs.Projects
use Rattle.vk_resolution.proofs.FactLemmas.{fact_key-IsKey}
use Rattle.vk_resolution.proofs.Soundness.{map_some, closed_round, reasons_are}
use Rattle.vk_resolution.proofs.ComputedOutcome.{outcome_is}
use Rattle.vk_resolution.proofs.OffLists.{off_listed}
use Rattle.vk_resolution.proofs.Uniqueness.{outcome_is_one}

-- what is computed is reported, with an off list that is right
pub reports_with : (inputs : Inputs) (report : Report) → ListsOff inputs.setting → ((bytes : Printing) → option_map report_of (outcome_by inputs bytes 12) ≡ Some report) → Reports inputs report
reports_with inputs report off computed = record {
  off = off;
  outcome = λ bytes. (let r = map_some report_of (outcome_by inputs bytes 12) report (computed bytes) in (r.0, outcome_is inputs bytes 12 r.0 r.1, r.2));
}

-- and with the off list that is computed
pub reports : (inputs : Inputs) (report : Report) → off_list_by inputs.setting 5 ≡ Some inputs.setting.off → ((bytes : Printing) → option_map report_of (outcome_by inputs bytes 12) ≡ Some report) → Reports inputs report
reports inputs report off = reports_with inputs report (off_listed inputs.setting 5 off)

-- the reasons that are computed are the reasons
pub reasons : (inputs : Inputs) (facts : List Fact) (lines : List Reason) → if_closed (rules_of inputs) fact_key (round (rules_of inputs) fact_key 12) ≡ Some facts → reasons_by inputs facts ≡ Some lines → IsReasons inputs lines
reasons inputs facts lines closed computed = (reasons_are inputs facts lines (closed_round (rules_of inputs) fact_key fact_key-IsKey 12 facts closed) computed).1

pub raised_minimum_line_by_line : IsReasons Projects.raised_minimum Projects.raised_minimum_reasons
raised_minimum_line_by_line = reasons Projects.raised_minimum (facts_of Projects.raised_minimum_reasons) Projects.raised_minimum_reasons refl refl

pub raised_minimum : Reports Projects.raised_minimum Projects.raised_minimum_report
raised_minimum = reports Projects.raised_minimum Projects.raised_minimum_report refl (λ bytes. refl)

pub superseded_minimum : Reports Projects.superseded_minimum Projects.superseded_minimum_report
superseded_minimum = reports Projects.superseded_minimum Projects.superseded_minimum_report refl (λ bytes. refl)

pub superseded_reach : Reports Projects.superseded_reach Projects.superseded_reach_report
superseded_reach = reports Projects.superseded_reach Projects.superseded_reach_report refl (λ bytes. refl)

pub conflict : Reports Projects.conflict Projects.conflict_report
conflict = reports Projects.conflict Projects.conflict_report refl (λ bytes. refl)

pub overridden : Reports Projects.overridden Projects.overridden_report
overridden = reports Projects.overridden Projects.overridden_report refl (λ bytes. refl)

pub new_feature : Reports Projects.new_feature Projects.new_feature_report
new_feature = reports Projects.new_feature Projects.new_feature_report refl (λ bytes. refl)

pub dropped_feature : Reports Projects.dropped_feature Projects.dropped_feature_report
dropped_feature = reports Projects.dropped_feature Projects.dropped_feature_report refl (λ bytes. refl)

pub off_by_root : Reports Projects.off_by_root Projects.off_by_root_report
off_by_root = reports Projects.off_by_root Projects.off_by_root_report refl (λ bytes. refl)

pub cross_build : Reports Projects.cross_build Projects.cross_build_report
cross_build = reports Projects.cross_build Projects.cross_build_report refl (λ bytes. refl)

pub cycle : Reports Projects.cycle Projects.cycle_report
cycle = reports Projects.cycle Projects.cycle_report refl (λ bytes. refl)

pub leads_in : Reports Projects.leads_in Projects.leads_in_report
leads_in = reports Projects.leads_in Projects.leads_in_report refl (λ bytes. refl)

pub unsupported_port : Reports Projects.unsupported_port Projects.unsupported_port_report
unsupported_port = reports Projects.unsupported_port Projects.unsupported_port_report refl (λ bytes. refl)

pub realistic : Reports Projects.realistic Projects.realistic_report
realistic = reports Projects.realistic Projects.realistic_report refl (λ bytes. refl)

pub damaged_manifest : Reports Projects.damaged_manifest Projects.damaged_manifest_report
damaged_manifest = reports Projects.damaged_manifest Projects.damaged_manifest_report refl (λ bytes. refl)

pub host_platform : Reports Projects.host_platform Projects.host_platform_report
host_platform = reports Projects.host_platform Projects.host_platform_report refl (λ bytes. refl)

pub own_minimum : Reports Projects.own_minimum Projects.own_minimum_report
own_minimum = reports Projects.own_minimum Projects.own_minimum_report refl (λ bytes. refl)

pub named_root : Reports Projects.named_root Projects.named_root_report
named_root = reports Projects.named_root Projects.named_root_report refl (λ bytes. refl)

needs : (inputs : Inputs) (listed : List (List ℕ)) → ((bytes : Printing) → option_map needs_in (outcome_by inputs bytes 12) ≡ Some listed) → HasNeeds inputs listed
needs inputs listed computed bytes = let r = map_some needs_in (outcome_by inputs bytes 12) listed (computed bytes) in (r.0, outcome_is inputs bytes 12 r.0 r.1, r.2)

pub realistic_needs : HasNeeds Projects.realistic Projects.realistic_needs
realistic_needs = needs Projects.realistic Projects.realistic_needs (λ bytes. refl)

pub reports_alone : ReportsAlone
reports_alone inputs report reports bytes o is =
    let r = reports.outcome bytes in
    ap report_of (outcome_is_one inputs bytes o r.0 is r.1) ∙ r.2

pub early_feature : Reports Projects.early_feature Projects.early_feature_report
early_feature = reports Projects.early_feature Projects.early_feature_report refl (λ bytes. refl)

pub conflict_by_text : Reports Projects.conflict_by_text Projects.conflict_by_text_report
conflict_by_text = reports Projects.conflict_by_text Projects.conflict_by_text_report refl (λ bytes. refl)

pub off_by_own_feature : Reports Projects.off_by_own_feature Projects.off_by_own_feature_report
off_by_own_feature = reports Projects.off_by_own_feature Projects.off_by_own_feature_report refl (λ bytes. refl)

pub every_cause : Reports Projects.every_cause Projects.every_cause_report
every_cause = reports Projects.every_cause Projects.every_cause_report refl (λ bytes. refl)

pub every_cause_needs : HasNeeds Projects.every_cause Projects.every_cause_needs
every_cause_needs = needs Projects.every_cause Projects.every_cause_needs (λ bytes. refl)

pub every_cause_line_by_line : IsReasons Projects.every_cause Projects.every_cause_reasons
every_cause_line_by_line = reasons Projects.every_cause (facts_of Projects.every_cause_reasons) Projects.every_cause_reasons refl refl

pub own_host_tool : Reports Projects.own_host_tool Projects.own_host_tool_report
own_host_tool = reports Projects.own_host_tool Projects.own_host_tool_report refl (λ bytes. refl)

pub own_host_tool_needs : HasNeeds Projects.own_host_tool Projects.own_host_tool_needs
own_host_tool_needs = needs Projects.own_host_tool Projects.own_host_tool_needs (λ bytes. refl)

pub tied_cycles : Reports Projects.tied_cycles Projects.tied_cycles_report
tied_cycles = reports Projects.tied_cycles Projects.tied_cycles_report refl (λ bytes. refl)

pub shorter_cycle : Reports Projects.shorter_cycle Projects.shorter_cycle_report
shorter_cycle = reports Projects.shorter_cycle Projects.shorter_cycle_report refl (λ bytes. refl)

pub superseded_cycle : Reports Projects.superseded_cycle Projects.superseded_cycle_report
superseded_cycle = reports Projects.superseded_cycle Projects.superseded_cycle_report refl (λ bytes. refl)

pub superseded_conflict : Reports Projects.superseded_conflict Projects.superseded_conflict_report
superseded_conflict = reports Projects.superseded_conflict Projects.superseded_conflict_report refl (λ bytes. refl)
