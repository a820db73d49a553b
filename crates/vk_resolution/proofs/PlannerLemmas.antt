-- The planner's own inputs meet the premises of the laws.
use Rattle.std.proofs.Common.{◌≤◌, ◌⊎◌, List, length, inl, inr, ap, subst, arith}
use Rattle.vk_spec.specs.Settings.{Setting}
use Rattle.vk_version.proofs.TestLemmas.{at_most-IsOrder}
use Rattle.vk_resolution.specs.Givens.{Pages}
use Rattle.vk_resolution.specs.Reasons.{Reason, IsReasons}
use Rattle.vk_resolution.specs.Outcomes.{Outcome, planned, refused, IsOutcome}
use Rattle.vk_resolution.specs.Lines.{fault_line, report_text}
use Rattle.vk_resolution.specs.Closures.{HasTooManyFacts, HasClosure}
use Rattle.vk_resolution.specs.Agreement.{reasons_in}
use Rattle.vk_resolution.specs.Planner.{inputs_of, PremisesAreMet, HasOutcome, OutcomeOrTooMany, OutcomeIsNotTooMany, OneOutcomeOneReport, PlansKeepPromises}
use Rattle.vk_resolution.proofs.ServiceLemmas.{plan_serves, pages_have_rows}
use Rattle.vk_resolution.proofs.Existence.{outcome_exists}
use Rattle.vk_resolution.proofs.Uniqueness.{reasons_same, outcome_is_one}
use Rattle.vk_resolution.proofs.ClosureLemmas.{closure_or_too_many, too_many_is_no_closure}
use Rattle.vk_resolution.proofs.PlannedVersionLemmas.{planned_versions}

pub premises_are_met : PremisesAreMet
premises_are_met setting pages are = record { order = at_most-IsOrder; overlays = pages_have_rows pages are }

-- the reasons of an outcome
reasons_of : (setting : Setting) (pages : Pages) (o : Outcome) → IsOutcome (inputs_of setting pages) fault_line o → IsReasons (inputs_of setting pages) (reasons_in o)
reasons_of setting pages (planned items reasons) is = is.0
reasons_of setting pages (refused lines reasons) is = is.0

module _ (setting : Setting) (pages : Pages) (o : Outcome) (is : IsOutcome (inputs_of setting pages) fault_line o) where
  or_too_many : HasClosure (inputs_of setting pages) fault_line ⊎ HasTooManyFacts (inputs_of setting pages) → HasOutcome setting pages ⊎ HasTooManyFacts (inputs_of setting pages)
  or_too_many (inr many) = inr many
  or_too_many (inl has) =
      let same = reasons_same (inputs_of setting pages) has.closure.reasons (reasons_in o) has.is_closure.reasons (reasons_of setting pages o is) in
      inl (record { outcome = o; is_outcome = is; few = subst (λ (r : List Reason). length r ≤ setting.max_facts) same has.few })

pub outcome_or_too_many : OutcomeOrTooMany
outcome_or_too_many setting pages are closed is_closed =
    let met = premises_are_met setting pages are in
    let o = outcome_exists (inputs_of setting pages) met.order met.overlays fault_line closed is_closed in
    or_too_many setting pages o.0 o.1 (closure_or_too_many (inputs_of setting pages) fault_line closed is_closed)

pub outcome_is_not_too_many : OutcomeIsNotTooMany
outcome_is_not_too_many setting pages has many =
    let more = too_many_is_no_closure (inputs_of setting pages) many (reasons_in has.outcome) (reasons_of setting pages has.outcome has.is_outcome) in
    let few : length (reasons_in has.outcome) ≤ setting.max_facts = has.few in
    omega arith

pub one_outcome_one_report : OneOutcomeOneReport
one_outcome_one_report setting pages one other is is_other =
    let same = outcome_is_one (inputs_of setting pages) fault_line one other is is_other in
    record { outcome = same; report = ap report_text same }

pub plans_keep_promises : PlansKeepPromises
plans_keep_promises setting pages are items reasons is =
    let met = premises_are_met setting pages are in
    let agreed = is.1 in
    record {
      versions = planned_versions (inputs_of setting pages) met.order fault_line items reasons is;
      chosen = agreed.planned;
      is_planned = agreed.is_planned;
      serves = plan_serves (inputs_of setting pages) met.order met.overlays _ agreed.planned is.0.facts.least agreed.first agreed.second agreed.is_planned;
    }
