-- What the floors of a clear closure come to.
use Rattle.std.proofs.Common.{◌≡◌, ◌≢◌, ◌⊎◌, ℕ, Bool, true, false, cond, List, [], ◌∷◌, inl, inr, refl, ap, sym, ◌∙◌, subst}
use Rattle.std.specs.Prelude.{Option, Some, None, IsSome, IfSome, Result, Ok, Err, IsOk, IfOk, flat_map}
use Rattle.std.specs.declared.cmp.Ordering.TheVariants.{Less, Equal}
use Rattle.std.specs.Ordering.{ordering_then, nat_cmp}
use Rattle.std.specs.Cmp.Lexicographic.{slice_cmp}
use Rattle.std.specs.List.{Contains}
use Rattle.std.specs.List.Sorted.{IsStrictlySortedBy}
use Rattle.std.specs.Map.{keys_of}
use Rattle.std.proofs.lemmas.Map.Keys.{sorted_head, sorted_tail}
use Rattle.std.proofs.lemmas.Map.Views.{Contains-keys_from_lookup}
use Rattle.std.proofs.lemmas.Slice.Eq.{bytes_eq-Decides}
use Rattle.vk_spec.specs.Versions.{Version, Ask, ask_of}
use Rattle.vk_spec.specs.Settings.{Setting}
use Rattle.vk_spec.specs.Pages.{Wrong, Given, overlay, override, baseline, given_ask, is_pinned_by}
use Rattle.vk_spec.specs.Catalogues.{ArePages}
use Rattle.vk_spec.proofs.ListLemmas.{contains_nothing, contains_first, contains-flat_map, flat_map-contains}
use Rattle.vk_spec.proofs.OptionLemmas.{of_both}
use Rattle.vk_version.specs.Orders.{at_most}
use Rattle.vk_version.proofs.TestLemmas.{at_most-IsOrder}
use Rattle.vk_resolution.specs.Keys.{Ascends}
use Rattle.vk_resolution.specs.Least.{IsLeast, FollowsFrom, from_one, from_two}
use Rattle.vk_resolution.specs.Settings.{root, inst, first_features_of}
use Rattle.vk_resolution.specs.Givens.{Pages, version_at, is_pinned}
use Rattle.vk_resolution.specs.Asking.{Fact, need, floor, visit, fact_key, asked_of, root_facts_of}
use Rattle.vk_resolution.specs.Consequences.{Inputs, Step, by_minimum, given_step, asked_step, asked_at, steps_from, rules_of}
use Rattle.vk_resolution.specs.Choices.{chosen_of, floors_of, given_version_of, greatest_of}
use Rattle.vk_resolution.specs.Reasons.{Reason, facts_of}
use Rattle.vk_resolution.specs.Faults.{Fault, ports_in, first_faults_of, second_faults_of, conflicts_of}
use Rattle.vk_resolution.specs.Lines.{fault_line}
use Rattle.vk_resolution.specs.Outcomes.{lines_of}
use Rattle.vk_resolution.specs.Planner.{inputs_of}
use Rattle.vk_resolution.specs.Selections.{Choice, floored_ports_of, IsChoices}
use Rattle.vk_resolution.proofs.Members.{contains_single, contains_map, map_contains, true_false}
use Rattle.vk_resolution.proofs.Orders.{in_order-contains, in_order-ascends, ascending_one}
use Rattle.vk_resolution.proofs.FactLemmas.{fact_key-IsKey}
use Rattle.vk_resolution.proofs.LineLemmas.{at_contains, at_line}
use Rattle.vk_resolution.proofs.ChoiceLemmas.{floor_is, floors_are, version_ask, needed_given, floor_in_table}
use Rattle.vk_resolution.proofs.SelectionLemmas.{has_floor, chosen_pinned, choices_or_conflicts}
use Rattle.vk_resolution.proofs.AgreementLemmas.{least_follows, floor_needed}
use Rattle.vk_resolution.proofs.Derivations.{visits_are}
use Rattle.vk_resolution.proofs.ServiceLemmas.{pages_have_rows}
use Rattle.vk_choices.specs.declared.floors.Floor.{Floor}
use Rattle.vk_choices.specs.Clear.{IsClear, IsClearOn}
use Rattle.vk_base.specs.Stops.{stop_fault_in}
use Rattle.vk_base.specs.declared.stops.Stop.{Stop}
use Rattle.vk_choices.specs.declared.chosen.Choices.{Choices}
use Rattle.vk_choices.specs.declared.chosen.ChooseFault.{ChooseFault}
use Rattle.vk_choices.specs.declared.settling.Settled.{Settled}
use Rattle.vk_choices.specs.ChoiceViews.{choices_view}
use Rattle.vk_choices.specs.Conflicts.{AreConflicts, OnConflicts, conflicts_in}
use Rattle.vk_choices.specs.declared.asks.Asked.{Asked}
use Rattle.vk_choices.specs.Rows.{Rows, row_of, in_row, listed_of, AreInOrder}
use Rattle.vk_choices.specs.Asks.{HaveAsks}
use Rattle.vk_choices.specs.Floors.{versions_of, HaveFloors, floors_for, CanAskFloors}
use Rattle.vk_choices.specs.Tops.{IsAboveAll}
use Rattle.vk_choices.specs.Settling.{AreRows, AreSettled, AreSettledFor, chosen_in, told_in}
use Rattle.vk_choices.proofs.RowLemmas.{each_of, row_is}
use Rattle.vk_choices.proofs.FloorLemmas.{have_floors}
use Rattle.vk_choices.proofs.ConflictLemmas.{greatest_some}

-- ---- the floors of a pinned port are its given version

module _ (inputs : Inputs) (p : List ℕ) (a : Ask) (g : Given) (given : (inputs.pages p).given ≡ Ok g) (pinned : is_pinned inputs.setting inputs.pages p ≡ true) where
  kept_by : (y : Fact) (q : List ℕ) (b : Ask) (step : Step) (t : Bool) → is_pinned inputs.setting inputs.pages q ≡ t → Contains (cond t [] (record { fact = floor q b; cause = by_minimum y } ∷ [])) step → step.fact ≡ floor p a → ⊥
  kept_by y q b step true e h is = contains_nothing step h
  kept_by y q b step false e h is =
      let same : floor q b ≡ floor p a = ap (λ (k : Step). k.fact) (contains_single (record { fact = floor q b; cause = by_minimum y }) step h) ∙ is in
      let port : q ≡ p = (cc) in
      true_false (is_pinned inputs.setting inputs.pages p) pinned (subst (λ r. is_pinned inputs.setting inputs.pages r ≡ false) port e)

  none_asked : (y x : Fact) (step : Step) → Contains (asked_step inputs y x) step → step.fact ≡ floor p a → ⊥
  none_asked y (need who f) step h is = let clash : need who f ≡ floor p a = ap (λ (k : Step). k.fact) (contains_single _ step h) ∙ is in (cc)
  none_asked y (floor q b) step h is = kept_by y q b step (is_pinned inputs.setting inputs.pages q) refl h is
  none_asked y (visit i f b) step h is = contains_nothing step h

  none_of : (y : Fact) (asked : List Fact) (step : Step) → Contains (flat_map (asked_step inputs y) asked) step → step.fact ≡ floor p a → ⊥
  none_of y asked step h is = let r = contains-flat_map (asked_step inputs y) asked step h in none_asked y r.0 step r.2 is

  by_given : (x : Fact) (q : List ℕ) (found : Result Given Wrong) (step : Step) → Contains (given_step x q found) step → step.fact ≡ floor p a → (q ≡ p) × ((k : Given) × (found ≡ Ok k) × (a ≡ given_ask k))
  by_given x q (Ok (overlay v)) step h is =
      let same : floor q (ask_of v) ≡ floor p a = ap (λ (k : Step). k.fact) (contains_single _ step h) ∙ is in
      let port : q ≡ p = (cc) in
      let ask : a ≡ ask_of v = (cc) in
      (port, (overlay v, refl, ask))
  by_given x q (Ok (override b)) step h is =
      let same : floor q b ≡ floor p a = ap (λ (k : Step). k.fact) (contains_single _ step h) ∙ is in
      let port : q ≡ p = (cc) in
      let ask : a ≡ b = (cc) in
      (port, (override b, refl, ask))
  by_given x q (Ok (baseline b)) step h is =
      let same : floor q b ≡ floor p a = ap (λ (k : Step). k.fact) (contains_single _ step h) ∙ is in
      let port : q ≡ p = (cc) in
      let ask : a ≡ b = (cc) in
      (port, (baseline b, refl, ask))
  by_given x q (Err wrong) step h is = absurd (contains_nothing step h)

  step_given : (y : Fact) (step : Step) → Contains (steps_from inputs y) step → step.fact ≡ floor p a → a ≡ given_ask g
  step_given (need (root t) f) step h is = absurd (none_of (need (root t) f) (asked_of inputs.setting (root t) f inputs.setting.root) step h is)
  step_given (need (inst i) f) step h is =
      let r = by_given (need (inst i) f) i.port (inputs.pages i.port).given step h is in
      let found : (inputs.pages p).given ≡ Ok r.1.0 = subst (λ q. (inputs.pages q).given ≡ Ok r.1.0) r.0 r.1.1 in
      let both : Ok g ≡ Ok r.1.0 = sym given ∙ found in
      let same : g ≡ r.1.0 = (cc) in
      r.1.2 ∙ ap given_ask (sym same)
  step_given (floor q b) step h is = absurd (contains_nothing step h)
  step_given (visit i f v) step h is = absurd (none_of (visit i f v) (asked_at inputs i f v) step h is)

  pub pinned_floor : (facts : List Fact) → IsLeast (rules_of inputs) facts → Contains facts (floor p a) → a ≡ given_ask g
  pinned_floor facts least h = by (least_follows (rules_of inputs) fact_key fact_key-IsKey facts least (floor p a) h)
    where
      by : Contains (root_facts_of inputs.setting) (floor p a) ⊎ FollowsFrom (rules_of inputs) (Contains facts) (floor p a) → a ≡ given_ask g
      by (inl is_root) =
          let r = contains_map (need (root inputs.setting.target.name)) (first_features_of inputs.setting) (floor p a) is_root in
          let clash : need (root inputs.setting.target.name) r.0 ≡ floor p a = r.2 in
          (cc)
      by (inr (from_one y holds asked)) = let r = contains_map (λ (s : Step). s.fact) (steps_from inputs y) (floor p a) asked in step_given y r.0 r.1 r.2
      by (inr (from_two y z one two asked)) = let v = visits_are inputs y z (floor p a) asked in let clash : floor p a ≡ visit v.i v.f v.v = v.is_visit in (cc)

-- ---- what a port's floors are, where nothing is wrong with its files

some_floor : (floors : List Floor) → (floors ≡ [] → ⊥) → (f : Floor) × Contains floors f
some_floor [] some = absurd (some refl)
some_floor (f ∷ floors) some = (f, contains_first f floors)

module _ (setting : Setting) (pages : Pages) (facts : List Fact) (least : IsLeast (rules_of (inputs_of setting pages)) facts) (first : first_faults_of (inputs_of setting pages) facts ≡ []) where
  abbrev inputs : Inputs
  inputs = inputs_of setting pages

  pub port_given : (p : List ℕ) (a : Ask) → Contains facts (floor p a) → (g : Given) × ((pages p).given ≡ Ok g)
  port_given p a h =
      let n = floor_needed inputs facts least p a h in
      let g = needed_given inputs facts first n.i n.f n.has in
      (g.0, subst (λ q. (pages q).given ≡ Ok g.0) n.is_port g.1)

  version_found : (p : List ℕ) (a : Ask) → ArePages pages → Contains facts (floor p a) → (g : Given) → (pages p).given ≡ Ok g → (v : Version) × (version_at pages p a ≡ Some v)
  version_found p a are h (overlay v) e =
      let ask : a ≡ ask_of v = pinned_floor inputs p a (overlay v) e (ap (is_pinned_by setting.root.overrides p) e) facts least h in
      (v, ap (version_at pages p) ask ∙ pages_have_rows pages are p v e)
  version_found p a are h (override b) e = floor_in_table inputs facts first p a (override b) e (λ v clash. (cc)) h
  version_found p a are h (baseline b) e = floor_in_table inputs facts first p a (baseline b) e (λ v clash. (cc)) h

  -- the table has each floor
  pub found : (p : List ℕ) (a : Ask) → ArePages pages → Contains facts (floor p a) → (v : Version) × (version_at pages p a ≡ Some v)
  found p a are h = let g = port_given p a h in version_found p a are h g.0 g.1

  -- a version of a port's floors is that of its ask
  own_version : (p : List ℕ) (v : Version) → Contains (floors_of inputs facts p) v → version_at pages p (ask_of v) ≡ Some v
  own_version p v h = let is = floors_are inputs facts p v h in ap (version_at pages p) (version_ask pages p is.ask v is.version) ∙ is.version

  module _ (p : List ℕ) (floors : List Floor) (versions : versions_of floors ≡ floors_of inputs facts p) (lines : (f : Floor) → Contains floors f → Contains facts (floor p (ask_of f.version))) (some : floors ≡ [] → ⊥) where
    version_of : (f : Floor) → Contains floors f → version_at pages p (ask_of f.version) ≡ Some f.version
    version_of f h = own_version p f.version (subst (λ l. Contains l f.version) versions (map_contains (λ (k : Floor). k.version) floors f h))

    pub are_apart : (f g : Floor) → Contains floors f → Contains floors g → ask_of f.version ≡ ask_of g.version → f.version ≡ g.version
    are_apart f g h k same =
        let both : Some f.version ≡ Some g.version = sym (version_of f h) ∙ ap (version_at pages p) same ∙ version_of g k in
        (cc)

    pub record IsChosen : Type 0 where
      pub chosen : chosen_of inputs facts p ≡ greatest_of inputs (versions_of floors)
      pub free : greatest_of inputs (versions_of floors) ≡ None → is_pinned setting pages p ≡ false

    pinned_chosen : (g : Given) (v : Version) → (pages p).given ≡ Ok g → is_pinned_by setting.root.overrides p (Ok g) ≡ true → given_version_of pages p (Ok g) ≡ Some v → version_at pages p (given_ask g) ≡ Some v → IsChosen
    pinned_chosen g v e pinned is at =
        let given : (f : Floor) → Contains floors f → f.version ≡ v = λ f h. (
        let ask : ask_of f.version ≡ given_ask g = pinned_floor inputs p (ask_of f.version) g e (ap (is_pinned_by setting.root.overrides p) e ∙ pinned) facts least (lines f h) in
        let both : Some f.version ≡ Some v = sym (version_of f h) ∙ ap (version_at pages p) ask ∙ at in
        (cc)
        ) in
        let one = some_floor floors some in
        let above : IsAboveAll floors one.0.version = λ f h. subst (λ w. at_most w one.0.version ≡ true) (given one.0 one.1 ∙ sym (given f h)) (at_most-IsOrder.reflexive one.0.version) in
        let greatest : greatest_of inputs (versions_of floors) ≡ Some v = greatest_some setting pages floors one.0 one.1 above ∙ ap Some (given one.0 one.1) in
        record {
          chosen = chosen_pinned inputs facts p (Ok g) v e pinned is ∙ sym greatest;
          free = λ none. (let clash : Some v ≡ None = sym greatest ∙ none in (cc));
        }

    by_port : (g : Given) → (pages p).given ≡ Ok g → ArePages pages → IsChosen
    by_port (overlay v) e are = pinned_chosen (overlay v) v e refl refl (pages_have_rows pages are p v e)
    by_port (override b) e are =
        let one = some_floor floors some in
        let ask : ask_of one.0.version ≡ b = pinned_floor inputs p (ask_of one.0.version) (override b) e (ap (is_pinned_by setting.root.overrides p) e) facts least (lines one.0 one.1) in
        let at : version_at pages p b ≡ Some one.0.version = ap (version_at pages p) (sym ask) ∙ version_of one.0 one.1 in
        pinned_chosen (override b) one.0.version e refl at at
    by_port (baseline b) e are =
        let free : is_pinned setting pages p ≡ false = ap (is_pinned_by setting.root.overrides p) e in
        record {
          chosen = ap (λ t. cond t (given_version_of pages p (pages p).given) (greatest_of inputs (floors_of inputs facts p))) free ∙ ap (greatest_of inputs) (sym versions);
          free = λ none. free;
        }

    pub is_chosen : ArePages pages → IsChosen
    is_chosen are = let one = some_floor floors some in let g = port_given p (ask_of one.0.version) (lines one.0 one.1) in by_port g.0 g.1 are

-- ---- what may be asked

is_given : (r : Result Given Wrong) (g : Given) → r ≡ Ok g → IsOk r
is_given r g e = subst IsOk (sym e) refl

pub can_ask : (o : Option Pages) (reasons : List Reason) → IfSome o (IsClearOn reasons) → IfSome o (CanAskFloors (facts_of reasons))
can_ask o reasons clear =
    of_both o clear clear (λ pages is again. λ p a h. (
    let g = port_given is.0 pages (facts_of reasons) is.1.are_reasons.facts.least is.1.clear p a h in
    is_given (pages p).given g.0 g.1
    ))

-- ---- the rows of a clear closure

ports_ascend : (ports : List (List ℕ)) → IsStrictlySortedBy (slice_cmp nat_cmp) ports → Ascends (λ p. p ∷ []) ports
ports_ascend [] sorted = tt
ports_ascend (p ∷ ports) sorted = (
  (λ q h. ap (λ o. ordering_then o Equal) (each_of (λ k. slice_cmp nat_cmp p k ≡ Less) ports q (sorted_head (slice_cmp nat_cmp) p ports sorted) h)),
  ports_ascend ports (sorted_tail (slice_cmp nat_cmp) p ports sorted),
)

there : (o : Option (List Floor)) → (in_row o ≡ [] → ⊥) → IsSome o
there None some = absurd (some refl)
there (Some floors) some = refl

module _ (setting : Setting) (pages : Pages) (reasons : List Reason) (rows : Rows Floor) (clear : IsClear (inputs_of setting pages) reasons) (have : HaveFloors pages (facts_of reasons) rows) where
  abbrev facts : List Fact
  facts = facts_of reasons

  abbrev all_inputs : Inputs
  all_inputs = inputs_of setting pages

  least : IsLeast (rules_of (inputs_of setting pages)) (facts_of reasons)
  least = clear.are_reasons.facts.least

  floors_are_row : (e : List ℕ × List Floor) → Contains rows e → listed_of rows e.0 ≡ e.1
  floors_are_row e h = ap in_row (row_is rows have.ordered e h)

  not_empty : (e : List ℕ × List Floor) → Contains rows e → e.1 ≡ [] → ⊥
  not_empty e h none = let clash : Some e.1 ≡ None = sym (row_is rows have.ordered e h) ∙ have.some e.0 (floors_are_row e h ∙ none) in (cc)

  in_facts : (e : List ℕ × List Floor) → Contains rows e → (f : Floor) → Contains e.1 f → Contains facts (floor e.0 (ask_of f.version))
  in_facts e h f k = at_contains facts f.line (floor e.0 (ask_of f.version)) (have.lines e.0 f (subst (λ l. Contains l f) (sym (floors_are_row e h)) k))

  pub rows_are : AreRows setting pages (facts_of reasons) rows
  rows_are e h =
      let versions : versions_of e.1 ≡ floors_of all_inputs facts e.0 = ap versions_of (sym (floors_are_row e h)) ∙ have.versions e.0 in
      let one = some_floor e.1 (not_empty e h) in
      let is = is_chosen setting pages facts least clear.clear e.0 e.1 versions (in_facts e h) (not_empty e h) (have.sound e.0 (ask_of one.0.version) (in_facts e h one.0 one.1)) in
      record {
        chosen = is.chosen;
        free = is.free;
        versions = versions;
        lines = λ f k. at_line facts least.forced.distinct (floor e.0 (ask_of f.version)) f.line (have.lines e.0 f (subst (λ l. Contains l f) (sym (floors_are_row e h)) k));
        apart = are_apart setting pages facts least clear.clear e.0 e.1 versions (in_facts e h) (not_empty e h);
      }

  ports_to : (p : List ℕ) → Contains (keys_of rows) p → Contains (floored_ports_of facts) p
  ports_to p h =
      let e = contains_map (λ (x : List ℕ × List Floor). x.0) rows p h in
      let one = some_floor e.0.1 (not_empty e.0 e.1) in
      let has : Contains facts (floor p (ask_of one.0.version)) = subst (λ q. Contains facts (floor q (ask_of one.0.version))) e.2 (in_facts e.0 e.1 one.0 one.1) in
      in_order-contains (λ q. q ∷ []) (λ x y same. (cc)) (flat_map ports_in facts) p (flat_map-contains ports_in facts (floor p (ask_of one.0.version)) p has (contains_first p []))

  ports_from : (p : List ℕ) → Contains (floored_ports_of facts) p → Contains (keys_of rows) p
  ports_from p h =
      let r = has_floor facts p h in
      let v = found setting pages facts least clear.clear p r.0 (have.sound p r.0 r.1) r.1 in
      let held : Contains (versions_of (listed_of rows p)) v.0 = subst (λ l. Contains l v.0) (sym (have.versions p)) (floor_is all_inputs facts p r.0 v.0 r.1 v.1) in
      Contains-keys_from_lookup (λ x y. (bytes_eq-Decides x y).0) p rows (there (row_of rows p) (λ none. contains_nothing v.0 (subst (λ (l : List Floor). Contains (versions_of l) v.0) none held)))

  ports_are : keys_of rows ≡ floored_ports_of (facts_of reasons)
  ports_are = ascending_one (λ p. p ∷ []) (keys_of rows) (floored_ports_of facts) (ports_ascend (keys_of rows) have.ordered) (in_order-ascends (λ p. p ∷ []) (flat_map ports_in facts)) ports_to ports_from

  module _ (choices : List Choice) (conflicts : List Fault) (settled : AreSettled setting pages (facts_of reasons) (keys_of rows) choices conflicts) where
    told : conflicts ≡ second_faults_of (inputs_of setting pages) (facts_of reasons)
    told = settled.told ∙ ap (flat_map (λ p. conflicts_of all_inputs facts p (chosen_of all_inputs facts p))) ports_are

    choice_for : ((cs : List Choice) × IsChoices all_inputs facts cs) ⊎ (second_faults_of all_inputs facts ≢ []) → second_faults_of all_inputs facts ≡ [] → (p : List ℕ) → Contains (keys_of rows) p → (v : Version) × (chosen_of all_inputs facts p ≡ Some v)
    choice_for (inr some) none p h = absurd (some none)
    choice_for (inl cs) none p h =
        let c = contains_map (λ (k : Choice). k.port) cs.0 p (subst (λ l. Contains l p) (ports_are ∙ sym cs.1.ports) h) in
        (c.0.version, subst (λ q. chosen_of all_inputs facts q ≡ Some c.0.version) c.2 (cs.1.each c.0 c.1).chosen)

    pub choices_are : conflicts ≡ [] → IsChoices (inputs_of setting pages) (facts_of reasons) choices
    choices_are none = record {
      ports = settled.all (choice_for (choices_or_conflicts all_inputs at_most-IsOrder facts least clear.clear) (sym told ∙ none)) ∙ ports_are;
      each = settled.each;
    }

    pub conflicts_are : (lines : List Fault) → lines ≡ lines_of fault_line conflicts → conflicts ≢ [] → AreConflicts (inputs_of setting pages) (facts_of reasons) lines
    conflicts_are lines is some = record {
      some = λ none. some (told ∙ none);
      told = is ∙ ap (lines_of fault_line) told;
    }

-- ---- what is answered

module _ (o : Option Pages) (reasons : List Reason) (rows : Rows Asked) (settled : Settled) (have : HaveAsks (facts_of reasons) rows) (ordered : AreInOrder rows) (settles : IfSome o (λ pages. AreSettledFor pages rows settled)) where
  all_floors : (pages : Pages) → AreSettledFor pages rows settled → HaveFloors pages (facts_of reasons) (floors_for pages rows)
  all_floors pages so = have_floors pages (facts_of reasons) rows have ordered so.sound

  pub choices_answered : (result : Result Choices (Stop ChooseFault)) → IfOk result (λ c. choices_view c ≡ chosen_in settled) → IfOk result (λ c. told_in settled ≡ [])
      → IfOk result (λ c. IfSome o (λ pages. (setting : Setting) → IsClear (inputs_of setting pages) reasons → IsChoices (inputs_of setting pages) (facts_of reasons) (choices_view c)))
  choices_answered (Err e) is none = tt
  choices_answered (Ok c) is none =
      of_both o settles settles (λ pages so again. λ setting clear. (
      subst (IsChoices (inputs_of setting pages) (facts_of reasons)) (sym is)
      (choices_are setting pages reasons (floors_for pages rows) clear (all_floors pages so) (chosen_in settled) (told_in settled) (so.settles setting pages (facts_of reasons) (rows_are setting pages reasons (floors_for pages rows) clear (all_floors pages so))) none)
      ))

  pub conflicts_answered : (result : Result Choices (Stop ChooseFault)) → OnConflicts result (λ lines. lines ≡ lines_of fault_line (told_in settled)) → OnConflicts result (λ lines. told_in settled ≢ [])
      → OnConflicts result (λ lines. IfSome o (λ pages. (setting : Setting) → IsClear (inputs_of setting pages) reasons → AreConflicts (inputs_of setting pages) (facts_of reasons) lines))
  conflicts_answered (Ok c) is some = tt
  conflicts_answered (Err e) is some =
      of_both (stop_fault_in e) is some (λ fault same there. of_both o settles settles (λ pages so again. λ setting clear. (
      conflicts_are setting pages reasons (floors_for pages rows) clear (all_floors pages so) (chosen_in settled) (told_in settled) (so.settles setting pages (facts_of reasons) (rows_are setting pages reasons (floors_for pages rows) clear (all_floors pages so))) (conflicts_in fault) same there
      )))
