-- There is an outcome.
use Rattle.std.proofs.Common.{◌≡◌, ◌≤◌, ℕ, suc, Bool, true, false, cond, List, [], ◌∷◌, ◌++◌, map, filter, length, inl, inr, refl, ap, sym, ◌∙◌, subst, arith}
use Rattle.std.specs.Prelude.{Option, Some, None, option_map, option_and_then, flat_map}
use Rattle.std.specs.List.{Contains, list_any, list_all}
use Rattle.std.proofs.lemmas.List.{append-nil}
use Rattle.std.proofs.lemmas.List.Elements.{Contains-append_left}
use Rattle.vk_spec.specs.Lists.{IsWithin}
use Rattle.vk_spec.specs.Versions.{Version, ask_of, IsOrder}
use Rattle.vk_spec.specs.Manifests.{core, default}
use Rattle.vk_spec.proofs.ListLemmas.{contains_nothing, contains_first, contains_later, contains-flat_map, flat_map-contains}
use Rattle.vk_spec.specs.Settings.{Instance}
use Rattle.vk_resolution.specs.Keys.{in_order}
use Rattle.vk_resolution.specs.Least.{FollowsFrom, from_one, from_two, IsLeast, IsLeastInOrder}
use Rattle.vk_resolution.specs.Settings.{root, inst, same_instance, marks_of, instance_of, is_off, applicable_of, names_of, defaults_of}
use Rattle.vk_resolution.specs.Asking.{Fact, need, floor, visit, fact_key, same_fact, floor_of, asked_of_own, asked_of_other, asked_by, asked_of, root_facts_of}
use Rattle.vk_resolution.specs.Consequences.{Inputs, Step, Cause, by_root, by_two, asked_in, asked_at, steps_from, rules_of}
use Rattle.vk_resolution.specs.Reasons.{Reason, facts_of, line_of, first_cause, citing, in_lines, cause_of, IsReasons}
use Rattle.vk_resolution.specs.Planning.{is_need, IsPlanned, instance_key, needed_in, instances_of, targets_of, is_within, features_of, places_from, IsPlan, IsCycle, Item}
use Rattle.vk_resolution.specs.Faults.{Fault, first_faults_of, second_faults_of, third_faults_of, has_cycle}
use Rattle.vk_resolution.specs.Outcomes.{Printing, lines_of, IsRefusal, by_first, by_second, by_third, by_fourth, IsAgreed, Outcome, planned, refused, IsOutcome}
use Rattle.vk_resolution.specs.Laws.{HasPlanned}
use Rattle.vk_resolution.specs.Service.{OverlaysHaveRows, IsServed}
use Rattle.vk_resolution.specs.Walks.{AreEdgesOf}
use Rattle.vk_resolution.specs.Computed.{all_some, with_height, order_by, item_by, Numbered, numbered_key, least_from}
use Rattle.vk_resolution.specs.OutcomeLaws.{PlannedEdges, OutcomeExists}
use Rattle.vk_resolution.proofs.Members.{true_or_false, true_false, no_is_false, contains_any, all_contains, not_all, filter_contains, contains_map, contains_single}
use Rattle.vk_resolution.proofs.Orders.{contains-in_order, in_order-contains, in_order-ascends}
use Rattle.vk_resolution.proofs.Rounds.{least_exists}
use Rattle.vk_resolution.proofs.FactLemmas.{fact_key-IsKey, instance_key-IsKey, same_fact-Decides, same_instance-Decides}
use Rattle.vk_resolution.proofs.Derivations.{line_found, cause_found, HasCause, step_cites, CitesOnly, cites_baseline, cites_override, cites_overlay, cites_minimum, cites_one, is_visit_fact, two_no_other}
use Rattle.vk_resolution.proofs.Soundness.{reasons_are, plan_is, nothing_or, order_is, least_none}
use Rattle.vk_resolution.proofs.SentenceLemmas.{is_depends}
use Rattle.vk_resolution.proofs.EdgeLemmas.{edge_is}
use Rattle.vk_resolution.proofs.PlanLemmas.{plan_exists, plan_stays_within}
use Rattle.vk_resolution.proofs.ServiceLemmas.{plan_serves}
use Rattle.vk_resolution.proofs.AgreementLemmas.{least_follows, visit_parts}
use Rattle.vk_resolution.proofs.WalkLemmas.{cycle_exists, long_chain, repeats_or, repeat_cycle, chain_in}
use Rattle.vk_resolution.proofs.LeastLemmas.{no_longer}

pub all_some_there : {X Y : Type 0} (f : X → Option Y) (xs : List X) → ((x : X) → Contains xs x → (y : Y) × (f x ≡ Some y)) → (ys : List Y) × (all_some f xs ≡ Some ys)
all_some_there f [] each = ([], refl)
all_some_there f (x ∷ xs) each =
    let y = each x (contains_first x xs) in
    let ys = all_some_there f xs (λ z h. each z (contains_later x z xs h)) in
    (y.0 ∷ ys.0, ap (option_and_then (λ k. option_map (λ l. k ∷ l) (all_some f xs))) y.1 ∙ ap (option_map (λ l. y.0 ∷ l)) ys.1)

-- the line of a fact of the list
pub line_there : (facts : List Fact) (x : Fact) → Contains facts x → (n : ℕ) × (line_of facts x ≡ Some n)
line_there facts x h = let r = line_found facts [] x h in (r.0, subst (λ l. line_of l x ≡ Some r.0) (append-nil facts) r.1)

cited_there : (facts : List Fact) (y : Fact) (n : ℕ) (cause : Cause Fact) → CitesOnly y cause → line_of facts y ≡ Some n → (c : Cause ℕ) × (in_lines facts cause ≡ Some c)
cited_there facts y n cause cites_baseline e = (_, ap (option_map Rattle.vk_resolution.specs.Consequences.by_baseline) e)
cited_there facts y n cause cites_override e = (_, ap (option_map Rattle.vk_resolution.specs.Consequences.by_override) e)
cited_there facts y n cause cites_overlay e = (_, ap (option_map Rattle.vk_resolution.specs.Consequences.by_overlay) e)
cited_there facts y n cause cites_minimum e = (_, ap (option_map Rattle.vk_resolution.specs.Consequences.by_minimum) e)
cited_there facts y n cause cites_one e = (_, ap (option_map Rattle.vk_resolution.specs.Consequences.by_one) e)

module _ (inputs : Inputs) (facts : List Fact) (least : IsLeast (rules_of inputs) facts) where
  has_there : (x : Fact) (cause : Option (Cause Fact)) → HasCause inputs facts x cause → (c : Cause ℕ) × (option_and_then (in_lines facts) cause ≡ Some c)
  has_there x cause has =
      let line = line_there facts has.from has.has_from in
      let told = cited_there facts has.from line.0 has.step.cause (step_cites inputs has.from has.step has.in_steps) line.1 in
      (told.0, ap (option_and_then (in_lines facts)) has.is ∙ told.1)

  first_there : (x : Fact) → is_visit_fact x ≡ false → FollowsFrom (rules_of inputs) (Contains facts) x → (c : Cause ℕ) × (option_and_then (in_lines facts) (first_cause inputs facts x) ≡ Some c)
  first_there x other (from_one a holds asked) =
      let r = contains_map (λ (s : Step). s.fact) (steps_from inputs a) x asked in
      has_there x (first_cause inputs facts x) (subst (λ l. HasCause inputs facts x (first_cause inputs l x)) (append-nil facts) (cause_found inputs facts [] x a r.0 holds r.1 r.2))
  first_there x other (from_two a b one two asked) = absurd (two_no_other inputs a b x other asked)

  citing_there : (x : Fact) → Contains facts x → FollowsFrom (rules_of inputs) (Contains facts) x → (c : Cause ℕ) × (option_and_then (in_lines facts) (citing inputs facts x) ≡ Some c)
  citing_there (need who f) h follows = first_there (need who f) refl follows
  citing_there (floor p a) h follows = first_there (floor p a) refl follows
  citing_there (visit i f a) h follows =
      let parts = visit_parts inputs facts least i f a h in
      let n = line_there facts (need (inst i) f) parts.0 in
      let m = line_there facts (floor i.port a) parts.1 in
      (by_two n.0 m.0, ap (option_and_then (λ k. option_map (by_two k) (line_of facts (floor i.port a)))) n.1 ∙ ap (option_map (by_two n.0)) m.1)

  cause_step_there : (x : Fact) (b : Bool) → list_any (same_fact x) (root_facts_of inputs.setting) ≡ b → Contains facts x → (c : Cause ℕ) × (cond b (Some by_root) (option_and_then (in_lines facts) (citing inputs facts x)) ≡ Some c)
  cause_step_there x true e h = (by_root, refl)
  cause_step_there x false e h =
      elim (least_follows (rules_of inputs) fact_key fact_key-IsKey facts least x h) [
        | inl is_root ↦ absurd (true_false (list_any (same_fact x) (root_facts_of inputs.setting)) (contains_any (same_fact x) (root_facts_of inputs.setting) x is_root ((same_fact-Decides x x).1 refl)) e)
        | inr follows ↦ citing_there x h follows
      ]

  -- each fact of the least list has a cause
  cause_there : (x : Fact) → Contains facts x → (c : Cause ℕ) × (cause_of inputs facts x ≡ Some c)
  cause_there x h = cause_step_there x (list_any (same_fact x) (root_facts_of inputs.setting)) refl h

  pub reasons_there : IsLeastInOrder (rules_of inputs) fact_key facts → (reasons : List Reason) × (facts_of reasons ≡ facts) × IsReasons inputs reasons
  reasons_there ordered =
      let r = all_some_there (λ x. option_map (λ c. record { fact = x; cause = c }) (cause_of inputs facts x)) facts (λ x h. (let c = cause_there x h in (record { fact = x; cause = c.0 }, ap (option_map (λ k. record { fact = x; cause = k })) c.1))) in
      let is = reasons_are inputs facts r.0 ordered r.1 in
      (r.0, is.0, is.1)

-- where a planned visit leads is planned
module _ (inputs : Inputs) (facts chosen : List Fact) (is_planned : IsPlanned inputs facts chosen) where
  abbrev pub NeedOf : Instance → Type 0
  NeedOf i = (f : List ℕ) × Contains chosen (need (inst i) f)

  need_of : (i : Instance) (x : Fact) → Contains chosen x → Contains (needed_in x) i → NeedOf i
  need_of i (need (root t) f) h at = absurd (contains_nothing i at)
  need_of i (need (inst j) f) h at = (f, subst (λ k. Contains chosen (need (inst k) f)) (contains_single j i at) h)
  need_of i (floor p a) h at = absurd (contains_nothing i at)
  need_of i (visit j f a) h at = absurd (contains_nothing i at)

  pub instance_need : (i : Instance) → Contains (instances_of chosen) i → NeedOf i
  instance_need i h =
      let r = contains-flat_map needed_in chosen i (contains-in_order instance_key (flat_map needed_in chosen) i h) in
      need_of i r.0 r.1 r.2

  pub need_instance : (i : Instance) (f : List ℕ) → Contains chosen (need (inst i) f) → Contains (instances_of chosen) i
  need_instance i f h = in_order-contains instance_key instance_key-IsKey (flat_map needed_in chosen) i (flat_map-contains needed_in chosen (need (inst i) f) i h (contains_first i []))

  edge_leaves : (i : Instance) → Contains (targets_of inputs chosen i) i → ⊥
  edge_leaves i h = (edge_is inputs chosen i i h).other refl

  edge_stays : (i : Instance) → Contains (instances_of chosen) i → IsWithin (targets_of inputs chosen i) (instances_of chosen)
  edge_stays i listed j h =
      let p = edge_is inputs chosen i j h in
      let k : Instance = instance_of inputs.setting (inst i) p.d in
      let other : same_instance i k ≡ false = no_is_false (same_instance i k) (λ same. p.other (sym p.leads ∙ sym ((same_instance-Decides i k).0 same))) in
      let applies : Contains (applicable_of inputs.setting (inst i) p.f p.m) p.d = is_depends inputs.setting (inst i) p.f p.m p.d p.depends in
      let marks : List (List ℕ) = marks_of inputs.setting i.triplet in
      let here : Contains (asked_by inputs.setting (inst i) p.d) (need (inst k) core) =
      subst (λ b. Contains (cond b (asked_of_own (inst i) marks p.d) (asked_of_other inputs.setting marks k p.d)) (need (inst k) core)) (sym other)
      (contains_first (need (inst k) core) (cond (is_off inputs.setting k) [] (need (inst k) default ∷ []) ++ map (need (inst k)) (names_of marks p.d.features) ++ floor_of k.port p.d.minimum)) in
      let asked : Contains (asked_of inputs.setting (inst i) p.f p.m) (need (inst k) core) =
      Contains-append_left (flat_map (asked_by inputs.setting (inst i)) (applicable_of inputs.setting (inst i) p.f p.m)) (map (need (inst i)) (defaults_of inputs.setting (inst i) p.f p.m)) (need (inst k) core)
      (flat_map-contains (asked_by inputs.setting (inst i)) (applicable_of inputs.setting (inst i) p.f p.m) p.d (need (inst k) core) applies here) in
      let in_at : Contains (filter is_need (asked_at inputs i p.f p.a)) (need (inst k) core) =
      subst (λ o. Contains (filter is_need (asked_in inputs.setting i p.f o)) (need (inst k) core)) (sym p.manifest) (filter_contains is_need (asked_of inputs.setting (inst i) p.f p.m) (need (inst k) core) asked refl) in
      let planned_need : Contains chosen (need (inst k) core) = is_planned.closed.steps (need (inst k) core) (from_one (visit i p.f p.a) p.visited in_at) in
      subst (Contains (instances_of chosen)) p.leads (need_instance k core planned_need)

  pub planned_edges : AreEdgesOf (targets_of inputs chosen) (instances_of chosen)
  planned_edges = record { stay = edge_stays; leave = edge_leaves }

pub planned_edges_are : PlannedEdges
planned_edges_are inputs facts chosen is_planned = planned_edges inputs facts chosen is_planned

module _ (inputs : Inputs) (order : IsOrder inputs.at_most) (rows : OverlaysHaveRows inputs.pages) (bytes : Printing) (facts : List Fact) (ordered : IsLeastInOrder (rules_of inputs) fact_key facts)
    (first : first_faults_of inputs facts ≡ []) (second : second_faults_of inputs facts ≡ []) (chosen : List Fact) (is_planned : IsPlanned inputs facts chosen) where
  within : IsWithin chosen facts
  within = (plan_stays_within inputs order facts chosen ordered.least first is_planned).within

  pub item_there : (ranked : List Instance) (i : Instance) → Contains (instances_of chosen) i → (item : Item) × (item_by inputs facts chosen ranked i ≡ Some item)
  item_there ranked i h =
      let n = instance_need inputs facts chosen is_planned i h in
      let served : IsServed inputs facts chosen i n.0 = (plan_serves inputs order rows facts chosen ordered.least first second is_planned).of_instances i n.0 n.1 in
      let visited : Contains facts (visit i n.0 (ask_of served.choice)) = within (visit i n.0 (ask_of served.choice)) ((plan_stays_within inputs order facts chosen ordered.least first is_planned).visits i n.0 served.choice n.1 served.chosen) in
      let line = line_there facts (floor i.port (ask_of served.choice)) (visit_parts inputs facts ordered.least i n.0 (ask_of served.choice) visited).1 in
      let made : Version → ℕ → Item = λ v k. record { instance = i; version = v; line = k; features = features_of chosen i; needs = places_from 0 (λ j. list_any (same_instance j) (targets_of inputs chosen i)) ranked } in (
        made served.choice line.0,
        ap (option_and_then (λ v. option_map (made v) (line_of facts (floor i.port (ask_of v))))) served.chosen ∙ ap (option_map (made served.choice)) line.1,
      )

  height_there : (n : ℕ) (i : Instance) → is_within (targets_of inputs chosen) n i ≡ true → (p : Numbered) × (with_height (targets_of inputs chosen) (suc n) i ≡ Some p)
  height_there n i within_n = by (least_from 0 (suc n) (λ h. is_within (targets_of inputs chosen) h i)) refl
    where
      by : (o : Option ℕ) → least_from 0 (suc n) (λ h. is_within (targets_of inputs chosen) h i) ≡ o → (p : Numbered) × (option_map (λ h. (h, i)) (least_from 0 (suc n) (λ h. is_within (targets_of inputs chosen) h i)) ≡ Some p)
      by None e = absurd (true_false (is_within (targets_of inputs chosen) n i) within_n (least_none (λ h. is_within (targets_of inputs chosen) h i) 0 (suc n) e n (omega arith) (omega arith)))
      by (Some h) e = ((h, i), ap (option_map (λ k. (k, i))) e)

  -- a plan, where each instance has a height
  plan_there : (n : ℕ) → ((i : Instance) → Contains (instances_of chosen) i → is_within (targets_of inputs chosen) n i ≡ true) → (items : List Item) × IsPlan inputs facts chosen items
  plan_there n heights =
      let ps = all_some_there (with_height (targets_of inputs chosen) (suc n)) (instances_of chosen) (λ i h. height_there n i (heights i h)) in
      let ranked : List Instance = map (λ (p : Numbered). p.1) (in_order numbered_key ps.0) in
      let is_ranked : order_by (targets_of inputs chosen) (suc n) (instances_of chosen) ≡ Some ranked = ap (option_map (λ qs. map (λ (p : Numbered). p.1) (in_order numbered_key qs))) ps.1 in
      let listed = order_is (targets_of inputs chosen) (suc n) (instances_of chosen) ranked is_ranked in
      let items = all_some_there (item_by inputs facts chosen ranked) ranked (λ i h. item_there ranked i (listed.to i h)) in
      (items.0, plan_is inputs (suc n) facts chosen ranked items.0 is_ranked items.1)

  -- a cycle, where one has none
  cycle_there_is : (i : Instance) → Contains (instances_of chosen) i → is_within (targets_of inputs chosen) (length (instances_of chosen)) i ≡ false → (walk : List Instance) × IsCycle (targets_of inputs chosen) (instances_of chosen) walk
  cycle_there_is i h long =
      let edges = (planned_edges inputs facts chosen is_planned).stay in
      let n : ℕ = length (instances_of chosen) in
      let c = long_chain (targets_of inputs chosen) n i long in
      let too_long : length (i ∷ c.0) ≡ suc (suc n) = ap suc c.1 in
      let in_list : IsWithin (i ∷ c.0) (instances_of chosen) = chain_in (targets_of inputs chosen) (instances_of chosen) edges i c.0 c.2 h in
      elim (repeats_or (i ∷ c.0)) [
        | inl distinct ↦ (let short : length (i ∷ c.0) ≤ n = no_longer (i ∷ c.0) (instances_of chosen) distinct in_list in absurd (omega arith))
        | inr repeat ↦ (
            let r = repeat_cycle (targets_of inputs chosen) i c.0 c.2 repeat in
            cycle_exists (targets_of inputs chosen) (instances_of chosen) (in_order-ascends instance_key (flat_map needed_in chosen)) edges r.0 (in_list r.0 r.1) r.2
            )
      ]

module _ (inputs : Inputs) (order : IsOrder inputs.at_most) (rows : OverlaysHaveRows inputs.pages) (bytes : Printing) (facts : List Fact) (ordered : IsLeastInOrder (rules_of inputs) fact_key facts)
    (reasons : List Reason) (same : facts_of reasons ≡ facts) (is_reasons : IsReasons inputs reasons) where
  refusal_there : (lines : List Fault) → IsRefusal inputs bytes facts lines → (o : Outcome) × IsOutcome inputs bytes o
  refusal_there lines is = (refused lines reasons, (is_reasons, subst (λ l. IsRefusal inputs bytes l lines) (sym same) is))

  outcome_there : (o : Outcome) × IsOutcome inputs bytes o
  outcome_there =
      elim (nothing_or (first_faults_of inputs facts)) [
        | inr some ↦ refusal_there (lines_of bytes (first_faults_of inputs facts)) (by_first some refl)
        | inl first ↦ elim (nothing_or (second_faults_of inputs facts)) [
          | inr some ↦ refusal_there (lines_of bytes (second_faults_of inputs facts)) (by_second first some refl)
          | inl second ↦ with_plan first second (plan_exists inputs order facts ordered.least first)
        ]
      ]
    where
      with_plan : first_faults_of inputs facts ≡ [] → second_faults_of inputs facts ≡ [] → HasPlanned inputs facts → (o : Outcome) × IsOutcome inputs bytes o
      with_plan first second has =
          elim (nothing_or (third_faults_of inputs facts has.planned)) [
            | inr some ↦ refusal_there (lines_of bytes (third_faults_of inputs facts has.planned)) (by_third has.planned first second has.is_planned some refl)
            | inl third ↦ elim (true_or_false (list_all (is_within (targets_of inputs has.planned) (length (instances_of has.planned))) (instances_of has.planned))) [
              | inl heights ↦ (
                  let p = plan_there inputs order rows bytes facts ordered first second has.planned has.is_planned (length (instances_of has.planned)) (all_contains (is_within (targets_of inputs has.planned) (length (instances_of has.planned))) (instances_of has.planned) heights) in
                  let agreed : IsAgreed inputs facts p.0 = record { first = first; second = second; planned = has.planned; is_planned = has.is_planned; third = third; plan = p.1 } in
                  (planned p.0 reasons, (is_reasons, subst (λ l. IsAgreed inputs l p.0) (sym same) agreed))
                  )
              | inr long ↦ (
                  let i = not_all (is_within (targets_of inputs has.planned) (length (instances_of has.planned))) (instances_of has.planned) long in
                  let c = cycle_there_is inputs order rows bytes facts ordered first second has.planned has.is_planned i.0 i.1 i.2 in
                  refusal_there (has_cycle c.0 ∷ []) (by_fourth has.planned first second has.is_planned third c.0 c.1 refl)
                  )
            ]
          ]

pub outcome_exists : OutcomeExists
outcome_exists inputs order rows bytes closed is_closed =
    let facts = least_exists (rules_of inputs) fact_key fact_key-IsKey closed is_closed in
    let reasons = reasons_there inputs facts.0 facts.1.least facts.1 in
    outcome_there inputs order rows bytes facts.0 facts.1 reasons.0 reasons.1 reasons.2
