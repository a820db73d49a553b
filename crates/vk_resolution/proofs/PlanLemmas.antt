-- The planned facts are among the facts.
use Rattle.std.proofs.Common.{◌≡◌, ℕ, true, false, cond, ◌&&◌, not, List, [], ◌∷◌, filter, refl, ap, sym, ◌∙◌, subst}
use Rattle.std.specs.Prelude.{Option, Some, None, option_map, flat_map, is_some, Result, Ok, bytes_eq}
use Rattle.std.specs.List.{Contains}
use Rattle.std.proofs.lemmas.Slice.Eq.{bytes_eq-Decides}
use Rattle.vk_spec.specs.Versions.{Version, Ask, same_ask, ask_of, same_version, IsOrder}
use Rattle.vk_spec.specs.Pages.{Wrong, Given, overlay, override, baseline, Row, row_in, is_pinned_by}
use Rattle.vk_spec.proofs.ListLemmas.{contains_nothing, contains_first, flat_map-contains}
use Rattle.vk_spec.proofs.VersionLemmas.{ask_itself, version_decides}
use Rattle.vk_spec.specs.Conditions.{Condition}
use Rattle.vk_spec.specs.Settings.{Instance}
use Rattle.vk_resolution.specs.Least.{FollowsFrom, from_one, from_two, IsClosed}
use Rattle.vk_resolution.specs.Settings.{root, inst}
use Rattle.vk_resolution.specs.Givens.{version_at, is_pinned}
use Rattle.vk_resolution.specs.Asking.{Fact, need, floor, visit, fact_key, asked_of}
use Rattle.vk_resolution.specs.Consequences.{Inputs, asked_step, asked_at, steps_from, is_visited, is_visited_by, is_not_below, rules_of, by_one}
use Rattle.vk_resolution.specs.Choices.{floors_of, given_version_of, greatest_of, chosen_of}
use Rattle.vk_resolution.specs.Planning.{is_need, visit_of, planned_from, planned_rules_of}
use Rattle.vk_resolution.specs.Faults.{first_faults_of}
use Rattle.vk_resolution.specs.Laws.{PlanExists, PlanStaysWithin}
use Rattle.vk_resolution.proofs.Members.{both_true, and_true, not_true, not_false, no_is_false, true_false, contains_filter, contains_single}
use Rattle.vk_resolution.proofs.FactLemmas.{fact_key-IsKey}
use Rattle.vk_resolution.proofs.Rounds.{least_exists}
use Rattle.vk_resolution.proofs.Soundness.{map_some}
use Rattle.vk_resolution.proofs.ChoiceLemmas.{version_ask, floors_are, floor_is, free_choice, needed_given, step_in, given_floor, floor_in_table}

-- a need that a manifest asks is in each closed list
asked_need : (inputs : Inputs) (facts : List Fact) → IsClosed (rules_of inputs) facts → (a : Fact) (asked : List Fact) → Contains facts a → steps_from inputs a ≡ flat_map (asked_step inputs a) asked → (x : Fact) → Contains asked x → is_need x ≡ true → Contains facts x
asked_need inputs facts closed a asked h steps (need who f) at e =
    step_in inputs facts closed a (record { fact = need who f; cause = by_one a }) h
    (subst (λ l. Contains l (record { fact = need who f; cause = by_one a })) (sym steps) (flat_map-contains (asked_step inputs a) asked (need who f) (record { fact = need who f; cause = by_one a }) at (contains_first _ [])))
asked_need inputs facts closed a asked h steps (floor p b) at e = (cc)
asked_need inputs facts closed a asked h steps (visit i f b) at e = (cc)

asked_needs : (inputs : Inputs) (facts : List Fact) → IsClosed (rules_of inputs) facts → (a : Fact) (asked : List Fact) → Contains facts a → steps_from inputs a ≡ flat_map (asked_step inputs a) asked → (x : Fact) → Contains (filter is_need asked) x → Contains facts x
asked_needs inputs facts closed a asked h steps x at = let r = contains_filter is_need asked x at in asked_need inputs facts closed a asked h steps x r.0 r.1

-- the choice is a floor of the list, and is visited
pub record IsVisitedFloor (inputs : Inputs) (facts : List Fact) (p : List ℕ) (v : Version) : Type 0 where
  pub has : Contains facts (floor p (ask_of v))
  pub visited : is_visited inputs p (ask_of v) ≡ true

module _ (inputs : Inputs) (order : IsOrder inputs.at_most) (facts : List Fact) (closed : IsClosed (rules_of inputs) facts) (none : first_faults_of inputs facts ≡ []) (i : Instance) (f : List ℕ) (needed : Contains facts (need (inst i) f)) where
  pinned_choice : (given : Result Given Wrong) (v : Version) → (inputs.pages i.port).given ≡ given → is_pinned_by inputs.setting.root.overrides i.port given ≡ true → chosen_of inputs facts i.port ≡ Some v → given_version_of inputs.pages i.port given ≡ Some v
  pinned_choice given v e pinned chosen =
      let is : is_pinned inputs.setting inputs.pages i.port ≡ true = ap (is_pinned_by inputs.setting.root.overrides i.port) e ∙ pinned in
      ap (given_version_of inputs.pages i.port) (sym e) ∙ sym (ap (λ b. cond b (given_version_of inputs.pages i.port (inputs.pages i.port).given) (greatest_of inputs (floors_of inputs facts i.port))) is) ∙ chosen

  above_given : (b : Ask) (v : Version) (given found : Option (Row Condition)) → option_map (λ r. r.version) found ≡ Some v → ((w : Version) → option_map (λ r. r.version) given ≡ Some w → inputs.at_most w v ≡ true) → ((w : Version) × (option_map (λ r. r.version) given ≡ Some w))
      → is_not_below inputs given found ≡ true
  above_given b v None found e above (w, h) = (cc)
  above_given b v (Some g) None e above some = (cc)
  above_given b v (Some g) (Some r) e above some =
      not_false _ (no_is_false _ (λ below. (
      let parts = both_true (inputs.at_most r.version g.version) (not (same_version r.version g.version)) below in
      let is_v : r.version ≡ v = (cc) in
      let up : inputs.at_most g.version v ≡ true = above g.version refl in
      let tied : r.version ≡ g.version = order.antisymmetric r.version g.version parts.0 (subst (λ k. inputs.at_most g.version k ≡ true) (sym is_v) up) in
      true_false (same_version r.version g.version) (subst (λ k. same_version r.version k ≡ true) tied ((version_decides r.version r.version).1 refl)) (not_true _ parts.1)
      )))

  visited_as : (given : Result Given Wrong) (a : Ask) → (inputs.pages i.port).given ≡ given → is_visited_by inputs (inputs.pages i.port).rows a given ≡ true → is_visited inputs i.port a ≡ true
  visited_as given a e visited = ap (is_visited_by inputs (inputs.pages i.port).rows a) e ∙ visited

  choice_visited : (g : Given) (v : Version) → (inputs.pages i.port).given ≡ Ok g → chosen_of inputs facts i.port ≡ Some v → IsVisitedFloor inputs facts i.port v
  choice_visited (overlay w) v e chosen =
      let given : Some w ≡ Some v = pinned_choice (Ok (overlay w)) v e refl chosen in
      let same : w ≡ v = (cc) in
      record {
        has = subst (λ k. Contains facts (floor i.port (ask_of k))) same (given_floor inputs facts closed i f needed (overlay w) e);
        visited = visited_as (Ok (overlay w)) (ask_of v) e (subst (λ k. same_ask (ask_of v) (ask_of k) ≡ true) (sym same) (ask_itself (ask_of v)));
      }
  choice_visited (override b) v e chosen =
      let given : version_at inputs.pages i.port b ≡ Some v = pinned_choice (Ok (override b)) v e refl chosen in
      let same : ask_of v ≡ b = version_ask inputs.pages i.port b v given in
      let row = map_some (λ (r : Row Condition). r.version) (row_in (inputs.pages i.port).rows b) v given in
      record {
        has = subst (λ k. Contains facts (floor i.port k)) (sym same) (given_floor inputs facts closed i f needed (override b) e);
        visited = visited_as (Ok (override b)) (ask_of v) e (subst (λ k. (same_ask k b && is_some (row_in (inputs.pages i.port).rows k)) ≡ true) (sym same) (and_true (same_ask b b) (is_some (row_in (inputs.pages i.port).rows b)) (ask_itself b) (ap is_some row.1)));
      }
  choice_visited (baseline b) v e chosen =
      let free : is_pinned inputs.setting inputs.pages i.port ≡ false = ap (is_pinned_by inputs.setting.root.overrides i.port) e in
      let choice = free_choice inputs facts i.port v free chosen in
      let is = floors_are inputs facts i.port v choice.0 in
      let same : ask_of v ≡ is.ask = version_ask inputs.pages i.port is.ask v is.version in
      let given_has : Contains facts (floor i.port b) = given_floor inputs facts closed i f needed (baseline b) e in
      let given_row = floor_in_table inputs facts none i.port b (baseline b) e (λ w clash. (cc)) given_has in
      let above : is_not_below inputs (row_in (inputs.pages i.port).rows b) (row_in (inputs.pages i.port).rows is.ask) ≡ true =
      above_given b v (row_in (inputs.pages i.port).rows b) (row_in (inputs.pages i.port).rows is.ask) is.version (λ w h. choice.1 w (floor_is inputs facts i.port b w given_has h)) given_row in
      record {
        has = subst (λ k. Contains facts (floor i.port k)) (sym same) is.has;
        visited = visited_as (Ok (baseline b)) (ask_of v) e (subst (λ k. is_not_below inputs (row_in (inputs.pages i.port).rows b) (row_in (inputs.pages i.port).rows k) ≡ true) (sym same) above);
      }

  pub visit_in : (v : Version) → chosen_of inputs facts i.port ≡ Some v → Contains facts (visit i f (ask_of v))
  visit_in v chosen =
      let g = needed_given inputs facts none i f needed in
      let r = choice_visited g.0 v g.1 chosen in
      closed.steps (visit i f (ask_of v)) (from_two (need (inst i) f) (floor i.port (ask_of v)) needed r.has
      (subst (λ b. Contains (cond b (visit i f (ask_of v) ∷ []) []) (visit i f (ask_of v))) (sym (and_true (bytes_eq i.port i.port) (is_visited inputs i.port (ask_of v)) ((bytes_eq-Decides i.port i.port).1 refl) r.visited)) (contains_first (visit i f (ask_of v)) [])))

  pub chosen_visit : (chosen : Option Version) → chosen_of inputs facts i.port ≡ chosen → (x : Fact) → Contains (visit_of i f chosen) x → Contains facts x
  chosen_visit None e x h = absurd (contains_nothing x h)
  chosen_visit (Some v) e x h = subst (Contains facts) (contains_single (visit i f (ask_of v)) x h) (visit_in v e)

module _ (inputs : Inputs) (order : IsOrder inputs.at_most) (facts : List Fact) (closed : IsClosed (rules_of inputs) facts) (none : first_faults_of inputs facts ≡ []) where
  planned_in : (a : Fact) → Contains facts a → (x : Fact) → Contains (planned_from inputs facts a) x → Contains facts x
  planned_in (need (root t) f) h x at = asked_needs inputs facts closed (need (root t) f) (asked_of inputs.setting (root t) f inputs.setting.root) h refl x at
  planned_in (need (inst i) f) h x at = chosen_visit inputs order facts closed none i f h (chosen_of inputs facts i.port) refl x at
  planned_in (floor p a) h x at = absurd (contains_nothing x at)
  planned_in (visit i f a) h x at = asked_needs inputs facts closed (visit i f a) (asked_at inputs i f a) h refl x at

  planned_step : (x : Fact) → FollowsFrom (planned_rules_of inputs facts) (Contains facts) x → Contains facts x
  planned_step x (from_one a h at) = planned_in a h x at
  planned_step x (from_two a b one two at) = absurd (contains_nothing x at)

  pub planned_closed : IsClosed (planned_rules_of inputs facts) facts
  planned_closed = record { roots = closed.roots; steps = planned_step }

pub plan_exists : PlanExists
plan_exists inputs order facts least none =
    let closed = planned_closed inputs order facts least.closed none in
    let r = least_exists (planned_rules_of inputs facts) fact_key fact_key-IsKey facts closed in
    record { closed = closed; planned = r.0; is_planned = r.1.least }

pub plan_stays_within : PlanStaysWithin
plan_stays_within inputs order facts planned least none is_planned = record {
  within = is_planned.forced.within facts (planned_closed inputs order facts least.closed none);
  visits = λ i f c h chosen. is_planned.closed.steps (visit i f (ask_of c)) (from_one (need (inst i) f) h (subst (λ o. Contains (visit_of i f o) (visit i f (ask_of c))) (sym chosen) (contains_first (visit i f (ask_of c)) [])));
}
