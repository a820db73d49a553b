-- The planned set.
use Rattle.std.proofs.Common.{◌≡◌, ◌≢◌, ◌⊎◌, ◌<◌, ℕ, Bool, true, false, cond, ◌++◌, List, [], ◌∷◌, length, map, filter, inl, inr, refl, ap, sym, ◌∙◌, subst, arith}
use Rattle.std.specs.Prelude.{Option, Some, None, IfSome, Result, Ok, Err, IfOk, OnOk, is_some, flat_map, option_to_list, ◌↔◌}
use Rattle.std.specs.List.{Contains}
use Rattle.vk_base.specs.Stops.{stop_fault_in}
use Rattle.vk_base.specs.declared.stops.Stop.{Stop}
use Rattle.vk_spec.specs.Settings.{Setting, Instance}
use Rattle.vk_resolution.specs.Givens.{Pages}
use Rattle.vk_resolution.specs.Settings.{root, inst}
use Rattle.vk_resolution.specs.Asking.{Fact, need, floor, visit, is_among}
use Rattle.vk_resolution.specs.Consequences.{Inputs}
use Rattle.vk_resolution.specs.Faults as plain
use Rattle.vk_resolution.specs.Faults.{judged_need, judged_on_line, third_faults_of}
use Rattle.vk_resolution.specs.Lines.{fault_line}
use Rattle.vk_resolution.specs.Outcomes.{lines_of}
use Rattle.vk_resolution.specs.Planner.{inputs_of}
use Rattle.vk_resolution.specs.Keys.{in_order}
use Rattle.vk_resolution.specs.Planning as plain_plan
use Rattle.vk_resolution.specs.Planning.{is_need, Item, IsItem, instance_key, needed_in, instances_of}
use Rattle.vk_resolution.specs.Reasons.{Reason, facts_of, line_of}
use Rattle.vk_resolution.specs.Selections.{IsChoices}
use Rattle.vk_resolution.proofs.AgreementLemmas.{flat_map_on}
use Rattle.vk_resolution.proofs.Orders.{in_order-ascends, ascends-NoRepeats}
use Rattle.vk_resolution.proofs.PlanLemmas.{plan_stays_within}
use Rattle.vk_version.proofs.TestLemmas.{at_most-IsOrder}
use Rattle.vk_spec.specs.Lists.{NoRepeats}
use Rattle.vk_spec.proofs.ListLemmas.{contains_nothing, contains-flat_map, flat_map-contains}
use Rattle.std.proofs.lemmas.Option.{slice_get_within}
use Rattle.vk_choices.specs.declared.chosen.Choice.{Choice}
use Rattle.vk_choices.specs.ChoiceViews.{choice_view}
use Rattle.vk_choices.specs.Clear.{IsClear}
use Rattle.vk_resolution.proofs.Members.{true_or_false, true_false, no_is_false}
use Rattle.vk_resolution.proofs.FactLemmas.{among_contains, contains_among, instance_key-IsKey}
use Rattle.vk_rules.specs.declared.flaws.Flaw.{Flaw}
use Rattle.vk_planned.specs.Flaws.{AreFlaws}
use Rattle.vk_planset.specs.Judging.{IsJudged}
use Rattle.vk_planset.specs.declared.sets.PlanSetFault.{PlanSetFault}
use Rattle.vk_planset.specs.Members.{HaveSame}
use Rattle.vk_planset.specs.Places.{has_choice, chosen_in, seat_order, place_of}
use Rattle.vk_planset.specs.Seats.{features_in, features_of_seat, needs_of_seat, seated_features, seated_needs}
use Rattle.vk_planset.specs.Items.{made}
use Rattle.vk_planset.specs.Assembled.{AreAssembled, IsPlannedGraph, IsTold}
use Rattle.vk_planset.specs.Sets.{AreThird, IsSet, OnFaults, lines_in}
use Rattle.vk_planset.proofs.MemberLemmas.{order_one}
use Rattle.vk_planset.proofs.JudgingLemmas.{needed_found, found_is}
use Rattle.vk_planset.proofs.PlaceLemmas.{features_are, needs_are}
use Rattle.vk_planset.proofs.ItemLemmas.{IsMade, item_made, items_order, order_few}

-- ---- the third phase, by the needs alone

abbrev AreNeeds : List Fact → List Fact → Type 0
AreNeeds planned needs = (x : Fact) → Contains needs x ↔ (Contains planned x × (is_need x ≡ true))

nothing_judged : (inputs : Inputs) (facts : List Fact) (x : Fact) (o : Option ℕ) → is_need x ≡ false → flat_map (judged_need inputs facts x) (option_to_list o) ≡ []
nothing_judged inputs facts (need who f) o e = (cc)
nothing_judged inputs facts (floor p a) None e = refl
nothing_judged inputs facts (floor p a) (Some n) e = refl
nothing_judged inputs facts (visit i f a) None e = refl
nothing_judged inputs facts (visit i f a) (Some n) e = refl

either_way : {X Y : Type 0} (f : X → List Y) (x : X) (a b : Bool) (one other : List X) → (a ≡ b) ⊎ (f x ≡ []) → flat_map f one ≡ flat_map f other → flat_map f (cond a (x ∷ one) one) ≡ flat_map f (cond b (x ∷ other) other)
either_way f x true true one other h e = ap (λ l. f x ++ l) e
either_way f x false false one other h e = e
either_way f x true false one other (inl h) e = absurd (true_false true refl h)
either_way f x true false one other (inr h) e = ap (λ l. l ++ flat_map f one) h ∙ e
either_way f x false true one other (inl h) e = absurd (true_false true refl (sym h))
either_way f x false true one other (inr h) e = e ∙ sym (ap (λ l. l ++ flat_map f other) h)

among_same : (planned needs : List Fact) (x : Fact) → AreNeeds planned needs → is_need x ≡ true → is_among needs x ≡ is_among planned x
among_same planned needs x are is = elim (true_or_false (is_among planned x)) [
  | inl e ↦ contains_among needs x ((are x).1 (among_contains planned x e, is)) ∙ sym e
  | inr e ↦ no_is_false (is_among needs x) (λ h. true_false (is_among planned x) (contains_among planned x ((are x).0 (among_contains needs x h)).0) e) ∙ sym e
]

third_on : (inputs : Inputs) (facts planned needs xs : List Fact) → AreNeeds planned needs → flat_map (judged_on_line inputs facts) (filter (is_among needs) xs) ≡ flat_map (judged_on_line inputs facts) (filter (is_among planned) xs)
third_on inputs facts planned needs [] are = refl
third_on inputs facts planned needs (x ∷ xs) are =
    either_way (judged_on_line inputs facts) x (is_among needs x) (is_among planned x) (filter (is_among needs) xs) (filter (is_among planned) xs)
    (elim (true_or_false (is_need x)) [ inl e ↦ inl (among_same planned needs x are e) | inr e ↦ inr (nothing_judged inputs facts x (line_of facts x) e) ])
    (third_on inputs facts planned needs xs are)

pub third_needs : (inputs : Inputs) (facts planned needs : List Fact) → AreNeeds planned needs → third_faults_of inputs facts needs ≡ third_faults_of inputs facts planned
third_needs inputs facts planned needs are = third_on inputs facts planned needs facts are

pub third_of : (inputs : Inputs) (facts needs : List Fact) (edges : List (ℕ × ℕ)) (lines : List plain.Fault) → IsPlannedGraph inputs facts needs edges → IsTold (third_faults_of inputs facts needs) lines → AreThird inputs facts lines
third_of inputs facts needs edges lines graph told =
    let same : third_faults_of inputs facts needs ≡ third_faults_of inputs facts graph.0 = third_needs inputs facts graph.0 needs graph.1.all in record {
      planned = graph.0;
      is_planned = graph.1.is_planned;
      some = subst (λ l. l ≢ []) same told.some;
      told = told.told ∙ ap (lines_of fault_line) same;
    }

-- what is told of some faults, where they are the third phase's
module _ (reasons : List Reason) (entries : List (List ℕ × Choice)) (needs : List Fact) (edges : List (ℕ × ℕ)) (flaws : List (Option Flaw)) where
  abbrev Judged : Setting → Pages → Type 0
  Judged s pages = IsJudged (inputs_of s pages) reasons entries needs edges flaws

  abbrev third : Setting → Pages → List plain.Fault
  third s pages = third_faults_of (inputs_of s pages) (facts_of reasons) needs

  module _ (fs : List plain.Fault) (same : (s : Setting) (pages : Pages) → Judged s pages → fs ≡ third s pages) where
    pub clear_on : {A : Type 0} (result : Result A (Stop PlanSetFault)) → OnOk result (fs ≡ []) → OnOk result ((s : Setting) (pages : Pages) → Judged s pages → third s pages ≡ [])
    clear_on (Ok x) none = λ s pages judged. sym (same s pages judged) ∙ none
    clear_on (Err e) none = tt

    faults_by : (fault : Option PlanSetFault) → IfSome fault (λ f. IsTold fs (lines_in f)) → IfSome fault (λ f. (s : Setting) (pages : Pages) → Judged s pages → AreThird (inputs_of s pages) (facts_of reasons) (lines_in f))
    faults_by None told = tt
    faults_by (Some f) told = λ s pages judged. third_of (inputs_of s pages) (facts_of reasons) needs edges (lines_in f) judged.graph (subst (λ l. IsTold l (lines_in f)) (same s pages judged) told)

    pub faults_on : {A : Type 0} (result : Result A (Stop PlanSetFault)) → OnFaults result (IsTold fs) → OnFaults result (λ lines. (s : Setting) (pages : Pages) → Judged s pages → AreThird (inputs_of s pages) (facts_of reasons) lines)
    faults_on (Ok x) told = tt
    faults_on (Err e) told = faults_by (stop_fault_in e) told

  -- where the pages are told
  module _ (s : Setting) where
    pub judged_on : (o : Option Pages) → IfSome o (λ pages. IsClear (inputs_of s pages) reasons) → IfSome o (λ pages. IsChoices (inputs_of s pages) (facts_of reasons) (map choice_view entries))
        → IfSome o (λ pages. IsPlannedGraph (inputs_of s pages) (facts_of reasons) needs edges) → IfSome o (λ pages. AreFlaws (inputs_of s pages) (facts_of reasons) needs flaws) → IfSome o (Judged s)
    judged_on None clear chosen graph have = tt
    judged_on (Some pages) clear chosen graph have = record { clear = clear; chosen = chosen; graph = graph; have = have }

    on_pages : (Q : Setting → Pages → Type 0) (o : Option Pages) → IfSome o (Judged s) → ((s : Setting) (pages : Pages) → Judged s pages → Q s pages) → IfSome o (Q s)
    on_pages Q None judged all = tt
    on_pages Q (Some pages) judged all = all s pages judged

    pub set_on_pages : {A E : Type 0} (Q : A → Setting → Pages → Type 0) (result : Result A E) (o : Option Pages) → IfSome o (Judged s) → IfOk result (λ x. (s : Setting) (pages : Pages) → Judged s pages → Q x s pages) → IfOk result (λ x. IfSome o (Q x s))
    set_on_pages Q (Ok x) o judged all = on_pages (Q x) o judged all
    set_on_pages Q (Err e) o judged all = tt

    third_by : (fault : Option PlanSetFault) (o : Option Pages) → IfSome o (Judged s) → IfSome fault (λ f. (s : Setting) (pages : Pages) → Judged s pages → AreThird (inputs_of s pages) (facts_of reasons) (lines_in f))
        → IfSome fault (λ f. IfSome o (λ pages. AreThird (inputs_of s pages) (facts_of reasons) (lines_in f)))
    third_by None o judged all = tt
    third_by (Some f) o judged all = on_pages (λ s pages. AreThird (inputs_of s pages) (facts_of reasons) (lines_in f)) o judged all

    pub third_on_pages : {A : Type 0} (result : Result A (Stop PlanSetFault)) (o : Option Pages) → IfSome o (Judged s) → OnFaults result (λ lines. (s : Setting) (pages : Pages) → Judged s pages → AreThird (inputs_of s pages) (facts_of reasons) lines)
        → OnFaults result (λ lines. IfSome o (λ pages. AreThird (inputs_of s pages) (facts_of reasons) lines))
    third_on_pages (Ok x) o judged all = tt
    third_on_pages (Err e) o judged all = third_by (stop_fault_in e) o judged all

-- ---- the set

needed_need : (x : Fact) (i : Instance) → Contains (needed_in x) i → is_need x ≡ true
needed_need (need who f) i h = refl
needed_need (floor p a) i h = absurd (contains_nothing i h)
needed_need (visit j f a) i h = absurd (contains_nothing i h)

all_chosen : (entries : List (List ℕ × Choice)) (x : Fact) → ((i : Instance) (f : List ℕ) → x ≡ need (inst i) f → has_choice entries i ≡ true) → chosen_in entries x ≡ needed_in x
all_chosen entries (need (root t) f) each = refl
all_chosen entries (need (inst i) f) each = ap (λ b. cond b (i ∷ []) []) (each i f refl)
all_chosen entries (floor p a) each = refl
all_chosen entries (visit i f a) each = refl

module _ (s : Setting) (pages : Pages) (reasons : List Reason) (entries : List (List ℕ × Choice)) (needs : List Fact) (edges : List (ℕ × ℕ)) (items : List Item)
    (clear : IsClear (inputs_of s pages) reasons) (choices : IsChoices (inputs_of s pages) (facts_of reasons) (map choice_view entries))
    (graph : IsPlannedGraph (inputs_of s pages) (facts_of reasons) needs edges) (are : AreAssembled entries needs edges items) (small : length needs < 4294967296) where
  abbrev inputs : Inputs
  inputs = inputs_of s pages

  abbrev facts : List Fact
  facts = facts_of reasons

  abbrev order : List Instance
  order = seat_order entries needs

  in_facts : (x : Fact) → Contains needs x → Contains facts x
  in_facts x h = (plan_stays_within inputs at_most-IsOrder facts graph.0 clear.are_reasons.facts.least clear.clear graph.1.is_planned).within x ((graph.1.all x).0 h).0

  chosen_each : (x : Fact) → Contains needs x → chosen_in entries x ≡ needed_in x
  chosen_each x h = all_chosen entries x (λ i f e. ap is_some (needed_found inputs at_most-IsOrder reasons clear entries choices i f (subst (Contains facts) e (in_facts x h))).1)

  order_is : order ≡ instances_of graph.0
  order_is =
      ap (in_order instance_key) (flat_map_on (chosen_in entries) needed_in needs chosen_each)
      ∙ order_one instance_key instance_key-IsKey (flat_map needed_in needs) (flat_map needed_in graph.0) (record {
        to = λ i h. (let r = contains-flat_map needed_in needs i h in flat_map-contains needed_in graph.0 r.0 i ((graph.1.all r.0).0 r.1).0 r.2);
        from = λ i h. (let r = contains-flat_map needed_in graph.0 i h in flat_map-contains needed_in needs r.0 i ((graph.1.all r.0).1 (r.1, needed_need r.0 i r.2)) r.2);
      })

  few : length order < 4294967296
  few = let a = order_few entries needs in omega (arith, a, small)

  distinct : NoRepeats order
  distinct = ascends-NoRepeats instance_key order (in_order-ascends instance_key (flat_map (chosen_in entries) needs))

  made_is : (m : Item) (is : IsMade entries order are.seats m) → IsItem inputs facts graph.0 order (made is.instance is.seat is.choice)
  made_is m is =
      let found = found_is inputs facts entries choices is.instance.port is.choice is.found in
      let within = slice_get_within order is.place is.instance is.at in
      record {
        version = found.chosen;
        line = found.line;
        features = features_are inputs facts graph.0 needs edges graph.1 order distinct few is.place is.instance is.at (features_in is.seat)
            (subst (λ o. HaveSame (features_of_seat o) (seated_features order needs is.place)) is.seated (are.are_seats.features_same is.place within));
        needs = needs_are inputs facts graph.0 needs edges graph.1 order distinct few is.place is.instance is.at is.seat.needs.items
            (subst (λ o. HaveSame (needs_of_seat o) (seated_needs (map (place_of order) needs) edges is.place)) is.seated (are.are_seats.needs_same is.place within));
      }

  each_is : (item : Item) → Contains items item → IsItem inputs facts graph.0 (plain_plan.order_of items) item
  each_is item h =
      let m = item_made entries order are.seats item (subst (λ l. Contains l item) are.made h) in
      subst (λ l. IsItem inputs facts graph.0 l item) (sym (items_order entries needs edges items are))
      (subst (IsItem inputs facts graph.0 order) (sym m.is) (made_is item m))

  pub set_on : third_faults_of inputs facts needs ≡ [] → IsSet inputs facts items
  set_on third = record {
    planned = graph.0;
    is_planned = graph.1.is_planned;
    clear = sym (third_needs inputs facts graph.0 needs graph.1.all) ∙ third;
    set = record { order = items_order entries needs edges items are ∙ order_is; each = each_is };
  }
