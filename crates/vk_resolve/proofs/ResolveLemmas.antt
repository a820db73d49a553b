-- From the parts of a resolution to its outcome.
use Rattle.std.proofs.Common.{◌≡◌, ◌≤◌, List, [], ◌∷◌, map, length, refl, ap, sym, ◌∙◌, subst}
use Rattle.std.specs.Prelude.{Option, Some, None, IfSome, Result, Ok, IfOk}
use Rattle.vk_base.specs.Stops.{stop_fault_in, is_failure, was_out}
use Rattle.vk_base.specs.declared.stops.Stop.{Stop}
use Rattle.vk_base.specs.declared.stops.Stop.TheVariants as stop
use Rattle.vk_base.specs.declared.stops.Outage.{Outage}
use Rattle.std.specs.declared.cmp.Ordering.{Ordering}
use Rattle.std.specs.declared.cmp.Ordering.TheVariants.{Less, Equal, Greater}
use Rattle.std.proofs.lemmas.List.{length-map}
use Rattle.vk_spec.specs.Settings.{Setting}
use Rattle.vk_resolution.specs.Keys.{Key, key_cmp, put_by, put_in, in_order}
use Rattle.vk_resolution.specs.Givens.{Pages}
use Rattle.vk_resolution.specs.Reasons as plain_reason
use Rattle.vk_resolution.specs.Reasons.{facts_of}
use Rattle.vk_resolution.specs.Planning.{Item}
use Rattle.vk_resolution.specs.Faults.{first_faults_of}
use Rattle.vk_resolution.specs.Lines.{fault_line}
use Rattle.vk_resolution.specs.Outcomes as plain
use Rattle.vk_resolution.specs.Outcomes.{by_third, by_fourth, IsOutcome}
use Rattle.vk_resolution.specs.Agreement.{reasons_in}
use Rattle.vk_resolution.specs.Selections.{Choice, IsChoices}
use Rattle.vk_resolution.specs.Closures.{IsClosure}
use Rattle.vk_resolution.specs.Planner.{inputs_of}
use Rattle.vk_resolution.proofs.ClosureLemmas.{closure_refuses}
use Rattle.vk_resolution.proofs.SelectionLemmas.{choices_have_no_conflict}
use Rattle.vk_resolution.proofs.PlanSetLemmas.{ordered_set_is_plan, plan_set_cycles}
use Rattle.vk_model.specs.FactViews.{reasons_view, reason_view}
use Rattle.vk_model.specs.FaultViews.{closure_view, faults_view, item_view, outcome_view}
use Rattle.vk_model.specs.declared.faults.Fault.{Fault}
use Rattle.vk_model.specs.declared.reasons.Closure.{Closure}
use Rattle.vk_model.specs.declared.reasons.Reason.{Reason}
use Rattle.vk_model.specs.declared.plans.Outcome.{Outcome}
use Rattle.vk_model.specs.declared.plans.Outcome.TheVariants as outcome
use Rattle.vk_choices.specs.Clear.{IsClear}
use Rattle.vk_planset.specs.Sets.{IsSet, AreThird, lines_in}
use Rattle.vk_planset.specs.declared.sets.PlanSetFault.{PlanSetFault}
use Rattle.vk_resolve.specs.declared.decisions.Decision.{Decision}
use Rattle.vk_resolve.specs.declared.decisions.Decision.TheVariants as decision
use Rattle.vk_resolve.specs.Decided.{decided, Orders, RefusesWith}
use Rattle.vk_resolve.specs.Resolved.{IsResolved}

-- ---- lists in order that have nothing

put_by_some : {X : Type 0} (o : Ordering) (x y : X) (ys later : List X) → put_by o x y ys later ≡ [] → ⊥
put_by_some Less x y ys later e = (cc)
put_by_some Equal x y ys later e = (cc)
put_by_some Greater x y ys later e = (cc)

put_some : {X : Type 0} (key : X → Key) (x : X) (ys : List X) → put_in key x ys ≡ [] → ⊥
put_some key x [] e = (cc)
put_some key x (y ∷ ys) e = put_by_some (key_cmp (key x) (key y)) x y ys (put_in key x ys) e

nothing_in_order : {X : Type 0} (key : X → Key) (xs : List X) → in_order key xs ≡ [] → xs ≡ []
nothing_in_order key [] e = refl
nothing_in_order key (x ∷ xs) e = absurd (put_some key x (in_order key xs) e)

no_faults_seen : (faults : List Fault) → faults_view faults ≡ [] → faults ≡ []
no_faults_seen [] e = refl
no_faults_seen (f ∷ faults) e = (cc)

-- ---- a closure

pub clear_of : (o : Option Pages) (s : Setting) (c : Closure) → c.faults ≡ [] → IfSome o (λ pages. IsClosure (inputs_of s pages) fault_line (closure_view c)) → IfSome o (λ pages. IsClear (inputs_of s pages) (reasons_view c.reasons))
clear_of None s c none is = tt
clear_of (Some pages) s c none is = record {
  are_reasons = is.reasons;
  clear = nothing_in_order (λ f. fault_line f ∷ []) (first_faults_of (inputs_of s pages) (facts_of (reasons_view c.reasons))) (sym is.faults ∙ ap faults_view none);
}

pub refused_first : (o : Option Pages) (s : Setting) (c : Closure) → (c.faults ≡ [] → ⊥) → length c.reasons ≤ s.max_facts → IfSome o (λ pages. IsClosure (inputs_of s pages) fault_line (closure_view c))
    → IfSome o (λ pages. IsResolved s pages (outcome.Refused c.faults c.reasons))
refused_first None s c some few is = tt
refused_first (Some pages) s c some few is = record {
  outcome = plain.refused (faults_view c.faults) (reasons_view c.reasons);
  told = refl;
  is_outcome = closure_refuses (inputs_of s pages) fault_line (closure_view c) is (λ e. some (no_faults_seen c.faults e));
  few = subst (λ n. n ≤ s.max_facts) (sym (length-map c.reasons reason_view)) few;
}

-- ---- what clear reasons come to

same_reasons : (reasons : List plain_reason.Reason) (d : Decision) → reasons_in (decided reasons d) ≡ reasons
same_reasons reasons (decision.Planned plan) = refl
same_reasons reasons (decision.Refused faults) = refl

pub decided_is : (o : Option Pages) (s : Setting) (reasons : List Reason) (d : Decision) (answer : Outcome) → length reasons ≤ s.max_facts → outcome_view answer ≡ Ok (decided (reasons_view reasons) d)
    → IfSome o (λ pages. IsOutcome (inputs_of s pages) fault_line (decided (reasons_view reasons) d)) → IfSome o (λ pages. IsResolved s pages answer)
decided_is None s reasons d answer few told is = tt
decided_is (Some pages) s reasons d answer few told is = record {
  outcome = decided (reasons_view reasons) d;
  told = told;
  is_outcome = is;
  few = subst (λ n. n ≤ s.max_facts) (sym (ap length (same_reasons (reasons_view reasons) d) ∙ length-map reasons reason_view)) few;
}

module _ (s : Setting) (reasons : List plain_reason.Reason) (choices : List Choice) where
  set_on : (pages : Pages) (items : List Item) (d : Decision) → IsClear (inputs_of s pages) reasons → IsChoices (inputs_of s pages) (facts_of reasons) choices → IsSet (inputs_of s pages) (facts_of reasons) items → Orders items d
      → IsOutcome (inputs_of s pages) fault_line (decided reasons d)
  set_on pages items (decision.Planned plan) clear are set orders = (
    clear.are_reasons,
    record {
      first = clear.clear;
      second = choices_have_no_conflict (inputs_of s pages) (facts_of reasons) choices are;
      planned = set.planned;
      is_planned = set.is_planned;
      third = set.clear;
      plan = ordered_set_is_plan (inputs_of s pages) (facts_of reasons) set.planned set.is_planned items (map item_view plan.items) set.set orders;
    },
  )
  set_on pages items (decision.Refused faults) clear are set tells = (
    clear.are_reasons,
    by_fourth set.planned clear.clear (choices_have_no_conflict (inputs_of s pages) (facts_of reasons) choices are) set.is_planned set.clear tells.walk
        ((plan_set_cycles (inputs_of s pages) (facts_of reasons) set.planned set.is_planned items set.set tells.walk).0 tells.is_cycle) tells.line,
  )

  pub set_decides : (o : Option Pages) (items : List Item) (d : Decision) → IfSome o (λ pages. IsClear (inputs_of s pages) reasons) → IfSome o (λ pages. IsChoices (inputs_of s pages) (facts_of reasons) choices)
      → IfSome o (λ pages. IsSet (inputs_of s pages) (facts_of reasons) items) → Orders items d → IfSome o (λ pages. IsOutcome (inputs_of s pages) fault_line (decided reasons d))
  set_decides None items d clear are set orders = tt
  set_decides (Some pages) items d clear are set orders = set_on pages items d clear are set orders

  third_on : (o : Option Pages) (fault : PlanSetFault) (faults : List Fault) → faults_view faults ≡ lines_in fault → IfSome o (λ pages. IsClear (inputs_of s pages) reasons) → IfSome o (λ pages. IsChoices (inputs_of s pages) (facts_of reasons) choices)
      → IfSome o (λ pages. AreThird (inputs_of s pages) (facts_of reasons) (lines_in fault)) → IfSome o (λ pages. IsOutcome (inputs_of s pages) fault_line (decided reasons (decision.Refused faults)))
  third_on None fault faults same clear are third = tt
  third_on (Some pages) fault faults same clear are third = (
    clear.are_reasons,
    by_third third.planned clear.clear (choices_have_no_conflict (inputs_of s pages) (facts_of reasons) choices are) third.is_planned third.some (same ∙ third.told),
  )

  pub refused_decides : (o : Option Pages) (e : Stop PlanSetFault) (answer : Result Decision Outage) → RefusesWith e answer → IfSome o (λ pages. IsClear (inputs_of s pages) reasons) → IfSome o (λ pages. IsChoices (inputs_of s pages) (facts_of reasons) choices)
      → IfSome (stop_fault_in e) (λ fault. IfSome o (λ pages. AreThird (inputs_of s pages) (facts_of reasons) (lines_in fault))) → IfOk answer (λ d. IfSome o (λ pages. IsOutcome (inputs_of s pages) fault_line (decided reasons d)))
  refused_decides o (stop.Fault fault) answer with_lines clear are third =
      subst (λ r. IfOk r (λ d. IfSome o (λ pages. IsOutcome (inputs_of s pages) fault_line (decided reasons d)))) (sym with_lines.1) (third_on o fault with_lines.0 with_lines.2 clear are third)
  refused_decides o stop.Failed answer with_lines clear are third = subst (λ r. IfOk r (λ d. IfSome o (λ pages. IsOutcome (inputs_of s pages) fault_line (decided reasons d)))) (sym with_lines) tt
  refused_decides o (stop.Memory memory) answer with_lines clear are third = subst (λ r. IfOk r (λ d. IfSome o (λ pages. IsOutcome (inputs_of s pages) fault_line (decided reasons d)))) (sym with_lines) tt

-- a stop is told as it came
pub refused_fails : (e : Stop PlanSetFault) (answer : Result Decision Outage) → RefusesWith e answer → was_out answer ≡ is_failure e
refused_fails (stop.Fault fault) answer with_lines = ap was_out with_lines.1
refused_fails stop.Failed answer with_lines = ap was_out with_lines
refused_fails (stop.Memory memory) answer with_lines = ap was_out with_lines
