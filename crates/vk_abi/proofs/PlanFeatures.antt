-- The items of a plan have the features that every plan gives them.
use Rattle.std.proofs.Common.{◌≡◌, ◌∷◌, ◌&&◌, ℕ, zero, suc, Bool, true, false, not, cond, List, [], inl, inr, refl, subst, sym}
use Rattle.std.specs.Prelude.{Option, Some, None, Result, Ok, Err, bytes_eq, filter, flat_map}
use Rattle.std.specs.List.{Contains}
use Rattle.std.proofs.lemmas.List.Elements.{All-contains_itself, All-weaker}
use Rattle.std.proofs.lemmas.Slice.Eq.{bytes_eq-Decides}
use Rattle.vk_spec.specs.Conditions.{Condition}
use Rattle.vk_spec.specs.Manifests.{Manifest, Dependency, core, default}
use Rattle.vk_spec.specs.Pages.{Wrong}
use Rattle.vk_spec.specs.Settings.{Instance}
use Rattle.vk_spec.specs.Versions.{Version, ask_of}
use Rattle.vk_spec.proofs.ListLemmas.{contains_nothing, contains_first, contains-flat_map, flat_map-contains}
use Rattle.vk_resolution.specs.Keys.{Ascends}
use Rattle.vk_resolution.specs.Least.{from_one, from_two, IsReached}
use Rattle.vk_resolution.specs.Settings.{Who, root, inst, instance_of, same_instance, first_features_of}
use Rattle.vk_resolution.specs.Givens.{manifest_at}
use Rattle.vk_resolution.specs.Asking.{Fact, need, floor, visit, fact_key, asked_of}
use Rattle.vk_resolution.specs.Choices.{chosen_of}
use Rattle.vk_resolution.specs.Consequences.{Inputs, asked_in}
use Rattle.vk_resolution.specs.Outcomes.{planned, IsOutcome, Printing}
use Rattle.vk_resolution.specs.Planning.{Item, IsPlan, IsPlanned, feature_in, feature_key, features_of, instance_key, instances_of, is_need, needed_in, planned_from, planned_rules_of, visit_of}
use Rattle.vk_resolution.specs.Reasons.{Reason}
use Rattle.vk_resolution.specs.Sentences.{Asks, a_core, a_default, a_feature, a_minimum, own_feature, own_minimum, a_default_feature, Depends, IsOnAnother}
use Rattle.vk_resolution.proofs.FactLemmas.{fact_key-IsKey, feature_key-IsKey, same_instance-Decides}
use Rattle.vk_resolution.proofs.LeastLemmas.{reached_within}
use Rattle.vk_resolution.proofs.Members.{both_true, contains_filter, contains_map, contains_single, filter_contains, map_contains, not_true, true_false}
use Rattle.vk_resolution.proofs.Orders.{contains-in_order, in_order-ascends, in_order-contains}
use Rattle.vk_resolution.proofs.Rounds.{member_ranked}
use Rattle.vk_resolution.proofs.SentenceLemmas.{asked_means}
use Rattle.vk_abi.specs.Plans.{HasItsFeatures, HaveTheirFeatures}

module _ (inputs : Inputs) (facts chosen : List Fact) (least : IsPlanned inputs facts chosen) where
  -- where something of an instance is planned, what it has without features is
  abbrev HasCore : Fact → Type 0
  HasCore (need (root triplet) f) = Unit {0}
  HasCore (need (inst i) f) = Contains chosen (need (inst i) core)
  HasCore (floor p a) = Unit {0}
  HasCore (visit i f a) = Contains chosen (need (inst i) core)

  asked_core : (who : Who) (f : List ℕ) (m : Manifest Condition) → ((x : Fact) → Contains (filter is_need (asked_of inputs.setting who f m)) x → Contains chosen x)
      → ((i : Instance) → who ≡ inst i → Contains chosen (need (inst i) core)) → (x : Fact) → Asks inputs.setting who f m x → HasCore x
  asked_core who f m held own x asks = by x asks
    where
      other : (d : Dependency Condition) → Depends inputs.setting who f m d → IsOnAnother inputs.setting who d → Contains chosen (need (inst (instance_of inputs.setting who d)) core)
      other d depends another =
          let x : Fact = need (inst (instance_of inputs.setting who d)) core in
          held x (filter_contains is_need (asked_of inputs.setting who f m) x ((asked_means inputs.setting who f m x).1 (a_core d depends another)) refl)

      itself : (w : Who) → who ≡ w → (name : List ℕ) → HasCore (need w name)
      itself (root triplet) e name = tt
      itself (inst i) e name = own i e

      by : (x : Fact) → Asks inputs.setting who f m x → HasCore x
      by _ (a_core d depends another) = other d depends another
      by _ (a_default d depends another on) = other d depends another
      by _ (a_feature d u depends another h applies) = other d depends another
      by _ (a_minimum d a depends another h) = tt
      by _ (own_feature d u depends self h applies) = itself who refl u.name
      by _ (own_minimum d a i depends self is h) = tt
      by _ (a_default_feature u is h applies) = itself who refl u.name

  filtered_core : (who : Who) (f : List ℕ) (m : Manifest Condition) → ((x : Fact) → Contains (filter is_need (asked_of inputs.setting who f m)) x → Contains chosen x)
      → ((i : Instance) → who ≡ inst i → Contains chosen (need (inst i) core)) → (x : Fact) → Contains (filter is_need (asked_of inputs.setting who f m)) x → HasCore x
  filtered_core who f m held own x h = asked_core who f m held own x ((asked_means inputs.setting who f m x).0 (contains_filter is_need (asked_of inputs.setting who f m) x h).0)

  visit_core : (i : Instance) (f : List ℕ) → Contains chosen (need (inst i) core) → (o : Option Version) (x : Fact) → Contains (visit_of i f o) x → HasCore x
  visit_core i f has None x h = absurd (contains_nothing x h)
  visit_core i f has (Some v) x h = subst HasCore (contains_single (visit i f (ask_of v)) x h) has

  manifest_core : (i : Instance) (f : List ℕ) → Contains chosen (need (inst i) core) → (o : Option (Result (Manifest Condition) Wrong))
      → ((x : Fact) → Contains (filter is_need (asked_in inputs.setting i f o)) x → Contains chosen x) → (x : Fact) → Contains (filter is_need (asked_in inputs.setting i f o)) x → HasCore x
  manifest_core i f has None held x h = absurd (contains_nothing x h)
  manifest_core i f has (Some (Err wrong)) held x h = absurd (contains_nothing x h)
  manifest_core i f has (Some (Ok m)) held x h = filtered_core (inst i) f m held (λ j e. (let same : i ≡ j = (cc) in subst (λ k. Contains chosen (need (inst k) core)) same has)) x h

  from_core : (a : Fact) → HasCore a → Contains chosen a → (x : Fact) → Contains (planned_from inputs facts a) x → HasCore x
  from_core (need (root triplet) f) has held x h =
      filtered_core (root triplet) f inputs.setting.root (λ y asked. least.closed.steps y (from_one (need (root triplet) f) held asked)) (λ i e. (let clash : root triplet ≡ inst i = e in (cc))) x h
  from_core (need (inst i) f) has held x h = visit_core i f has (chosen_of inputs facts i.port) x h
  from_core (floor p a) has held x h = absurd (contains_nothing x h)
  from_core (visit i f a) has held x h = manifest_core i f has (manifest_at inputs.pages i.port a) (λ y asked. least.closed.steps y (from_one (visit i f a) held asked)) x h

  reached_core : (n : ℕ) (x : Fact) → IsReached (planned_rules_of inputs facts) n x → HasCore x
  reached_core zero x h = let r = contains_map (need (root inputs.setting.target.name)) (first_features_of inputs.setting) x h in subst HasCore r.2 tt
  reached_core (suc n) x (inl before) = reached_core n x before
  reached_core (suc n) x (inr (from_one a holds asked)) = from_core a (reached_core n a holds) (reached_within (planned_rules_of inputs facts) chosen least.closed n a holds) x asked
  reached_core (suc n) x (inr (from_two a b one two asked)) = absurd (contains_nothing x asked)

  needed_core : (i : Instance) (f : List ℕ) → Contains chosen (need (inst i) f) → Contains chosen (need (inst i) core)
  needed_core i f h =
      let r = member_ranked (planned_rules_of inputs facts) fact_key fact_key-IsKey chosen least (need (inst i) f) h in
      reached_core r.0 (need (inst i) f) r.1.reached

  -- ---- the features of an instance

  core_of_needed : (i : Instance) (x : Fact) → Contains chosen x → Contains (needed_in x) i → Contains chosen (need (inst i) core)
  core_of_needed i (need (root triplet) f) h at = absurd (contains_nothing i at)
  core_of_needed i (need (inst j) f) h at = needed_core i f (subst (λ k. Contains chosen (need (inst k) f)) (contains_single j i at) h)
  core_of_needed i (floor p a) h at = absurd (contains_nothing i at)
  core_of_needed i (visit j f a) h at = absurd (contains_nothing i at)

  core_in : (i : Instance) → Contains (instances_of chosen) i → Contains (features_of chosen i) core
  core_in i h =
      let needed = contains-flat_map needed_in chosen i (contains-in_order instance_key (flat_map needed_in chosen) i h) in
      let itself : same_instance i i ≡ true = (same_instance-Decides i i).1 refl in
      let here : Contains (feature_in i (need (inst i) core)) core = subst (λ b. Contains (cond (b && not (bytes_eq core default)) (core ∷ []) []) core) (sym itself) (contains_first core []) in
      in_order-contains feature_key feature_key-IsKey (flat_map (feature_in i) chosen) core
      (flat_map-contains (feature_in i) chosen (need (inst i) core) core (core_of_needed i needed.0 needed.1 needed.2) here)

  not_default_in : (i : Instance) (x : Fact) → Contains (feature_in i x) default → ⊥
  not_default_in i (need (root triplet) f) at = contains_nothing default at
  not_default_in i (need (inst j) f) at = by (same_instance j i && not (bytes_eq f default)) refl at
    where
      by : (b : Bool) → (same_instance j i && not (bytes_eq f default)) ≡ b → Contains (cond b (f ∷ []) []) default → ⊥
      by true e here =
          let is : bytes_eq f default ≡ true = (bytes_eq-Decides f default).1 (contains_single f default here) in
          true_false (bytes_eq f default) is (not_true (bytes_eq f default) (both_true (same_instance j i) (not (bytes_eq f default)) e).1)
      by false e here = contains_nothing default here
  not_default_in i (floor p a) at = contains_nothing default at
  not_default_in i (visit j f a) at = contains_nothing default at

  no_default_in : (i : Instance) → Contains (features_of chosen i) default → ⊥
  no_default_in i h =
      let r = contains-flat_map (feature_in i) chosen default (contains-in_order feature_key (flat_map (feature_in i) chosen) default h) in
      not_default_in i r.0 r.2

  pub item_features : (items : List Item) → IsPlan inputs facts chosen items → HaveTheirFeatures items
  item_features items plan = All-weaker (Contains items) HasItsFeatures item_has items (All-contains_itself items)
    where
      item_has : (item : Item) → Contains items item → HasItsFeatures item
      item_has item h =
          let is = sym (plan.each item h).features in
          let there : Contains (instances_of chosen) item.instance = (plan.all item.instance).0 (map_contains (λ x. x.instance) items item h) in
          record {
            core = subst (λ fs. Contains fs core) is (core_in item.instance there);
            no_default = λ at. no_default_in item.instance (subst (λ fs. Contains fs default) (sym is) at);
            order = subst (Ascends feature_key) is (in_order-ascends feature_key (flat_map (feature_in item.instance) chosen));
          }

pub plan_features : (inputs : Inputs) (bytes : Printing) (items : List Item) (reasons : List Reason) → IsOutcome inputs bytes (planned items reasons) → HaveTheirFeatures items
plan_features inputs bytes items reasons outcome = item_features inputs _ outcome.1.planned outcome.1.is_planned items outcome.1.plan
