-- The outcome that is computed is an outcome.
use Rattle.std.proofs.Common.{◌≡◌, ℕ, Bool, true, false, cond, List, [], ◌∷◌, length, refl, sym, subst}
use Rattle.std.specs.Prelude.{Option, Some, None, option_and_then, flat_map}
use Rattle.vk_spec.specs.Settings.{Instance}
use Rattle.vk_resolution.specs.Asking.{Fact, fact_key}
use Rattle.vk_resolution.specs.Consequences.{Inputs, rules_of}
use Rattle.vk_resolution.specs.Reasons.{Reason, facts_of, IsReasons}
use Rattle.vk_resolution.specs.Planning.{planned_rules_of, IsPlanned, instance_key, needed_in, instances_of, targets_of}
use Rattle.vk_resolution.specs.Faults.{Fault, has_cycle, first_faults_of, second_faults_of, third_faults_of}
use Rattle.vk_resolution.specs.Outcomes.{Printing, lines_of, IsRefusal, by_first, by_second, by_third, by_fourth, IsAgreed, Outcome, planned, refused, IsOutcome}
use Rattle.vk_resolution.specs.Computed.{is_nothing, round, if_closed, all_some, reasons_by, order_by, item_by, cycle_by, order_or_cycle, plan_by, third_by, second_by, first_by, outcome_by}
use Rattle.vk_resolution.proofs.Orders.{in_order-ascends}
use Rattle.vk_resolution.proofs.Rounds.{is_nothing-nil}
use Rattle.vk_resolution.proofs.FactLemmas.{fact_key-IsKey}
use Rattle.vk_resolution.proofs.Soundness.{then_some, map_some, nothing_is, closed_round, reasons_are, plan_is}
use Rattle.vk_resolution.proofs.WalkLemmas.{cycle_is}
use Rattle.vk_resolution.proofs.Existence.{planned_edges}

module _ (inputs : Inputs) (bytes : Printing) (n : ℕ) (facts : List Fact) (reasons : List Reason) (same : facts_of reasons ≡ facts) (is_reasons : IsReasons inputs reasons) where
  refusal : (lines : List Fault) (o : Outcome) → IsRefusal inputs bytes facts lines → refused lines reasons ≡ o → IsOutcome inputs bytes o
  refusal lines o is e = subst (IsOutcome inputs bytes) e (is_reasons, subst (λ l. IsRefusal inputs bytes l lines) (sym same) is)

  module _ (first : first_faults_of inputs facts ≡ []) (second : second_faults_of inputs facts ≡ []) (chosen : List Fact) (is_planned : IsPlanned inputs facts chosen) where
    fourth_is : (third : third_faults_of inputs facts chosen ≡ []) (ordered : Option (List Instance)) (o : Outcome) → order_by (targets_of inputs chosen) (length (instances_of chosen)) (instances_of chosen) ≡ ordered → order_or_cycle inputs facts chosen reasons ordered ≡ Some o
        → IsOutcome inputs bytes o
    fourth_is third None o e made =
        let r = map_some (λ walk. refused (has_cycle walk ∷ []) reasons) (cycle_by (targets_of inputs chosen) (instances_of chosen)) o made in
        refusal (has_cycle r.0 ∷ []) o (by_fourth chosen first second is_planned third r.0 (cycle_is (targets_of inputs chosen) (instances_of chosen) (planned_edges inputs facts chosen is_planned).stay r.0 (in_order-ascends instance_key (flat_map needed_in chosen)) r.1) refl) r.2
    fourth_is third (Some order) o e made =
        let r = map_some (λ items. planned items reasons) (all_some (item_by inputs facts chosen order) order) o made in
        let plan = plan_is inputs (length (instances_of chosen)) facts chosen order r.0 e r.1 in
        let agreed : IsAgreed inputs facts r.0 = record { first = first; second = second; planned = chosen; is_planned = is_planned; third = third; plan = plan } in
        subst (IsOutcome inputs bytes) r.2 (is_reasons, subst (λ l. IsAgreed inputs l r.0) (sym same) agreed)

    third_is : (b : Bool) (o : Outcome) → is_nothing (third_faults_of inputs facts chosen) ≡ b → cond b (plan_by inputs facts chosen reasons) (Some (refused (lines_of bytes (third_faults_of inputs facts chosen)) reasons)) ≡ Some o → IsOutcome inputs bytes o
    third_is true o e made = fourth_is (is_nothing-nil _ e) (order_by (targets_of inputs chosen) (length (instances_of chosen)) (instances_of chosen)) o refl made
    third_is false o e made =
        let is : refused (lines_of bytes (third_faults_of inputs facts chosen)) reasons ≡ o = (cc) in
        refusal (lines_of bytes (third_faults_of inputs facts chosen)) o (by_third chosen first second is_planned (nothing_is _ e) refl) is

  second_is : (first : first_faults_of inputs facts ≡ []) (b : Bool) (o : Outcome) → is_nothing (second_faults_of inputs facts) ≡ b
      → cond b (option_and_then (third_by inputs bytes facts reasons) (if_closed (planned_rules_of inputs facts) fact_key (round (planned_rules_of inputs facts) fact_key n))) (Some (refused (lines_of bytes (second_faults_of inputs facts)) reasons)) ≡ Some o
      → IsOutcome inputs bytes o
  second_is first true o e made =
      let r = then_some (third_by inputs bytes facts reasons) (if_closed (planned_rules_of inputs facts) fact_key (round (planned_rules_of inputs facts) fact_key n)) o made in
      let least = closed_round (planned_rules_of inputs facts) fact_key fact_key-IsKey n r.0 r.1 in
      third_is first (is_nothing-nil _ e) r.0 least.least (is_nothing (third_faults_of inputs facts r.0)) o refl r.2
  second_is first false o e made =
      let is : refused (lines_of bytes (second_faults_of inputs facts)) reasons ≡ o = (cc) in
      refusal (lines_of bytes (second_faults_of inputs facts)) o (by_second first (nothing_is _ e) refl) is

  first_phase_is : (b : Bool) (o : Outcome) → is_nothing (first_faults_of inputs facts) ≡ b → cond b (second_by inputs bytes n facts reasons) (Some (refused (lines_of bytes (first_faults_of inputs facts)) reasons)) ≡ Some o → IsOutcome inputs bytes o
  first_phase_is true o e made = second_is (is_nothing-nil _ e) (is_nothing (second_faults_of inputs facts)) o refl made
  first_phase_is false o e made =
      let is : refused (lines_of bytes (first_faults_of inputs facts)) reasons ≡ o = (cc) in
      refusal (lines_of bytes (first_faults_of inputs facts)) o (by_first (nothing_is _ e) refl) is

-- what is computed is the outcome
pub outcome_is : (inputs : Inputs) (bytes : Printing) (n : ℕ) (o : Outcome) → outcome_by inputs bytes n ≡ Some o → IsOutcome inputs bytes o
outcome_is inputs bytes n o e =
    let r = then_some (λ facts. option_and_then (first_by inputs bytes n facts) (reasons_by inputs facts)) (if_closed (rules_of inputs) fact_key (round (rules_of inputs) fact_key n)) o e in
    let q = then_some (first_by inputs bytes n r.0) (reasons_by inputs r.0) o r.2 in
    let ordered = closed_round (rules_of inputs) fact_key fact_key-IsKey n r.0 r.1 in
    let is = reasons_are inputs r.0 q.0 ordered q.1 in
    first_phase_is inputs bytes n r.0 q.0 is.0 is.1 (is_nothing (first_faults_of inputs r.0)) o refl q.2
