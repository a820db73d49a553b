-- The plan serves its manifests.
use Rattle.std.proofs.Common.{◌≡◌, ℕ, true, false, cond, List, [], ◌∷◌, ◌++◌, map, filter, refl, ap, sym, ◌∙◌, subst}
use Rattle.std.specs.Prelude.{Option, Some, None, option_map, flat_map, Result, Ok, Err, IfOk}
use Rattle.std.specs.List.{Contains}
use Rattle.std.proofs.lemmas.List.Elements.{Contains-append_left, Contains-append_right}
use Rattle.vk_spec.specs.Lists.{IsWithin}
use Rattle.vk_spec.specs.Versions.{Version, Ask, ask_of, same_ask, IsOrder}
use Rattle.vk_spec.specs.Manifests.{Manifest, Dependency, core, default}
use Rattle.vk_spec.specs.Pages.{Wrong, Given, overlay, override, baseline, Row, row_in, is_pinned_by}
use Rattle.vk_spec.specs.Catalogues.{HasOwnAlone}
use Rattle.vk_spec.proofs.ListLemmas.{contains_first, contains_later, flat_map-contains}
use Rattle.vk_spec.proofs.VersionLemmas.{ask_itself}
use Rattle.vk_spec.specs.Conditions.{Condition}
use Rattle.vk_spec.specs.Settings.{Instance}
use Rattle.vk_resolution.specs.Least.{from_one, IsLeast}
use Rattle.vk_resolution.specs.Settings.{Who, root, inst, marks_of, triplet_of, instance_of, is_own, is_off, applicable_of, names_of, defaults_of}
use Rattle.vk_resolution.specs.Givens.{version_at, manifest_at, is_pinned}
use Rattle.vk_resolution.specs.Asking.{Fact, need, floor, visit, floor_of, asked_of_other, asked_of_own, asked_by, asked_of}
use Rattle.vk_resolution.specs.Consequences.{Inputs, Step, asked_step, asked_in, asked_at, steps_from, rules_of, by_minimum}
use Rattle.vk_resolution.specs.Choices.{chosen_of}
use Rattle.vk_resolution.specs.Planning.{is_need, IsPlanned}
use Rattle.vk_resolution.specs.Faults.{manifest_troubles, wrong_of, first_faults_of, second_faults_of}
use Rattle.vk_resolution.specs.Service.{MeetsMinimum, MeetsMinimumOf, MeetsOwnMinimum, ServesOther, Serves, IsServed, OverlaysHaveRows, PagesHaveRows, PlanServes}
use Rattle.vk_resolution.proofs.Members.{filter_contains, map_contains}
use Rattle.vk_resolution.proofs.ChoiceLemmas.{floor_is, no_troubles, needed_given, step_in, given_floor, floor_in_table, version_ask, table_has_floors, free_choice, floors_are, choice_is_above_floors}
use Rattle.vk_resolution.proofs.PlanLemmas.{plan_stays_within}
use Rattle.vk_resolution.proofs.SelectionLemmas.{chosen_pinned, free_has_choice, needed_has_choice}

module _ (inputs : Inputs) (order : IsOrder inputs.at_most) (rows : OverlaysHaveRows inputs.pages) (facts planned : List Fact) (least : IsLeast (rules_of inputs) facts) (first : first_faults_of inputs facts ≡ []) (second : second_faults_of inputs facts ≡ []) (is_planned : IsPlanned inputs facts planned) where
  minimum_met : (i : Instance) (f : List ℕ) → Contains facts (need (inst i) f) → (a : Ask) → Contains facts (floor i.port a) → is_pinned inputs.setting inputs.pages i.port ≡ false → MeetsMinimum inputs facts i.port a
  minimum_met i f needed a has free =
      let table = table_has_floors inputs facts least first i f needed in
      let v = table.every a free has in
      let c = free_has_choice inputs order facts second i.port v.0 free (floor_is inputs facts i.port a v.0 has v.1) (chosen_of inputs facts i.port) refl in
      record { choice = c.0; chosen = c.1; least = v.0; listed = v.1; meets = choice_is_above_floors inputs facts i.port free c.0 c.1 a v.0 has v.1 }

  -- what a manifest asks is planned or among the facts
  record Asks (who : Who) (f : List ℕ) (m : Manifest Condition) : Type 0 where
    pub needs : (x : Fact) → Contains (asked_of inputs.setting who f m) x → is_need x ≡ true → Contains planned x
    pub floors : (p : List ℕ) (a : Ask) → Contains (asked_of inputs.setting who f m) (floor p a) → is_pinned inputs.setting inputs.pages p ≡ false → Contains facts (floor p a)

  floor_step : (y : Fact) (asked : List Fact) → Contains facts y → steps_from inputs y ≡ flat_map (asked_step inputs y) asked → (p : List ℕ) (a : Ask) → Contains asked (floor p a) → is_pinned inputs.setting inputs.pages p ≡ false → Contains facts (floor p a)
  floor_step y asked h steps p a at free =
      let step : Step = record { fact = floor p a; cause = by_minimum y } in
      let here : Contains (asked_step inputs y (floor p a)) step = subst (λ b. Contains (cond b [] (step ∷ [])) step) (sym free) (contains_first step []) in
      step_in inputs facts least.closed y step h (subst (λ l. Contains l step) (sym steps) (flat_map-contains (asked_step inputs y) asked (floor p a) step at here))

  in_asked : (who : Who) (f : List ℕ) (m : Manifest Condition) (d : Dependency Condition) → Contains (applicable_of inputs.setting who f m) d → (x : Fact) → Contains (asked_by inputs.setting who d) x → Contains (asked_of inputs.setting who f m) x
  in_asked who f m d applies x at =
      Contains-append_left (flat_map (asked_by inputs.setting who) (applicable_of inputs.setting who f m)) (map (need who) (defaults_of inputs.setting who f m)) x (flat_map-contains (asked_by inputs.setting who) (applicable_of inputs.setting who f m) d x applies at)

  by_other : (who : Who) (d : Dependency Condition) (x : Fact) → is_own inputs.setting who (instance_of inputs.setting who d) ≡ false → Contains (asked_of_other inputs.setting (marks_of inputs.setting (triplet_of who)) (instance_of inputs.setting who d) d) x → Contains (asked_by inputs.setting who d) x
  by_other who d x other at = subst (λ b. Contains (cond b (asked_of_own who (marks_of inputs.setting (triplet_of who)) d) (asked_of_other inputs.setting (marks_of inputs.setting (triplet_of who)) (instance_of inputs.setting who d) d)) x) (sym other) at

  by_own : (who : Who) (d : Dependency Condition) (x : Fact) → is_own inputs.setting who (instance_of inputs.setting who d) ≡ true → Contains (asked_of_own who (marks_of inputs.setting (triplet_of who)) d) x → Contains (asked_by inputs.setting who d) x
  by_own who d x own at = subst (λ b. Contains (cond b (asked_of_own who (marks_of inputs.setting (triplet_of who)) d) (asked_of_other inputs.setting (marks_of inputs.setting (triplet_of who)) (instance_of inputs.setting who d) d)) x) (sym own) at

  minimum_of : (i : Instance) (f : List ℕ) → Contains facts (need (inst i) f) → (minimum : Option Ask) → ((a : Ask) → minimum ≡ Some a → is_pinned inputs.setting inputs.pages i.port ≡ false → Contains facts (floor i.port a)) → MeetsMinimumOf inputs facts i.port minimum
  minimum_of i f needed None has = tt
  minimum_of i f needed (Some a) has = λ free. minimum_met i f needed a (has a refl free) free

  floor_listed : (p : List ℕ) (minimum : Option Ask) (a : Ask) → minimum ≡ Some a → Contains (floor_of p minimum) (floor p a)
  floor_listed p None a e = (cc)
  floor_listed p (Some b) a e = let same : b ≡ a = (cc) in subst (λ k. Contains (floor p b ∷ []) (floor p k)) same (contains_first (floor p b) [])

  within : IsWithin planned facts
  within = (plan_stays_within inputs order facts planned least first is_planned).within

  serves_other : (who : Who) (f : List ℕ) (m : Manifest Condition) → Asks who f m → (d : Dependency Condition) → Contains (applicable_of inputs.setting who f m) d → is_own inputs.setting who (instance_of inputs.setting who d) ≡ false
      → ServesOther inputs facts planned who d (instance_of inputs.setting who d)
  serves_other who f m asks d applies other =
      let j : Instance = instance_of inputs.setting who d in
      let marks : List (List ℕ) = marks_of inputs.setting (triplet_of who) in
      let defaults : List Fact = cond (is_off inputs.setting j) [] (need (inst j) default ∷ []) in
      let features : List Fact = map (need (inst j)) (names_of marks d.features) in
      let has_core : Contains planned (need (inst j) core) = asks.needs (need (inst j) core) (in_asked who f m d applies _ (by_other who d _ other (contains_first (need (inst j) core) (defaults ++ features ++ floor_of j.port d.minimum)))) refl in
      record {
        has_core = has_core;
        has_default = λ on. asks.needs (need (inst j) default) (in_asked who f m d applies _ (by_other who d _ other (contains_later (need (inst j) core) (need (inst j) default) (defaults ++ features ++ floor_of j.port d.minimum)
            (Contains-append_left (defaults ++ features) (floor_of j.port d.minimum) (need (inst j) default) (Contains-append_left defaults features (need (inst j) default) (subst (λ b. Contains (cond b [] (need (inst j) default ∷ [])) (need (inst j) default)) (sym on) (contains_first (need (inst j) default) []))))))) refl;
        has_features = λ g h. asks.needs (need (inst j) g) (in_asked who f m d applies _ (by_other who d _ other (contains_later (need (inst j) core) (need (inst j) g) (defaults ++ features ++ floor_of j.port d.minimum)
            (Contains-append_left (defaults ++ features) (floor_of j.port d.minimum) (need (inst j) g) (Contains-append_right defaults features (need (inst j) g) (map_contains (need (inst j)) (names_of marks d.features) g h)))))) refl;
        minimum = minimum_of j core (within (need (inst j) core) has_core) d.minimum (λ a e free. asks.floors j.port a (in_asked who f m d applies _ (by_other who d _ other (contains_later (need (inst j) core) (floor j.port a) (defaults ++ features ++ floor_of j.port d.minimum)
            (Contains-append_right (defaults ++ features) (floor_of j.port d.minimum) (floor j.port a) (floor_listed j.port d.minimum a e))))) free);
      }

  own_features : (who : Who) (marks : List (List ℕ)) (d : Dependency Condition) (g : List ℕ) → Contains (names_of marks d.features) g → Contains (asked_of_own who marks d) (need who g)
  own_features (root t) marks d g h = map_contains (need (root t)) (names_of marks d.features) g h
  own_features (inst i) marks d g h = Contains-append_left (map (need (inst i)) (names_of marks d.features)) (floor_of i.port d.minimum) (need (inst i) g) (map_contains (need (inst i)) (names_of marks d.features) g h)

  own_minimum : (who : Who) (f : List ℕ) (m : Manifest Condition) → Contains planned (need who f) → Asks who f m → (d : Dependency Condition) → Contains (applicable_of inputs.setting who f m) d → is_own inputs.setting who (instance_of inputs.setting who d) ≡ true
      → MeetsOwnMinimum inputs facts who d.minimum
  own_minimum (root t) f m needed asks d applies own = tt
  own_minimum (inst i) f m needed asks d applies own =
      minimum_of i f (within (need (inst i) f) needed) d.minimum (λ a e free. asks.floors i.port a (in_asked (inst i) f m d applies (floor i.port a) (by_own (inst i) d (floor i.port a) own
      (Contains-append_right (map (need (inst i)) (names_of (marks_of inputs.setting i.triplet) d.features)) (floor_of i.port d.minimum) (floor i.port a) (floor_listed i.port d.minimum a e)))) free)

  serves : (who : Who) (f : List ℕ) (m : Manifest Condition) → Contains planned (need who f) → Asks who f m → Serves inputs facts planned who f m
  serves who f m needed asks = record {
    others = λ d applies other. serves_other who f m asks d applies other;
    own = λ d applies own. record {
      has_features = λ g h. asks.needs (need who g) (in_asked who f m d applies (need who g) (by_own who d (need who g) own (own_features who (marks_of inputs.setting (triplet_of who)) d g h))) refl;
      minimum = own_minimum who f m needed asks d applies own;
    };
    defaults = λ g h. asks.needs (need who g) (Contains-append_right (flat_map (asked_by inputs.setting who) (applicable_of inputs.setting who f m)) (map (need who) (defaults_of inputs.setting who f m)) (need who g) (map_contains (need who) (defaults_of inputs.setting who f m) g h)) refl;
  }

  serves_root : (t f : List ℕ) → Contains planned (need (root t) f) → Serves inputs facts planned (root t) f inputs.setting.root
  serves_root t f h = serves (root t) f inputs.setting.root h (record {
    needs = λ x at e. is_planned.closed.steps x (from_one (need (root t) f) h (filter_contains is_need (asked_of inputs.setting (root t) f inputs.setting.root) x at e));
    floors = λ p a at free. floor_step (need (root t) f) (asked_of inputs.setting (root t) f inputs.setting.root) (within (need (root t) f) h) refl p a at free;
  })

  asks_at : (i : Instance) (f : List ℕ) (c : Version) (m : Manifest Condition) → Contains planned (visit i f (ask_of c)) → manifest_at inputs.pages i.port (ask_of c) ≡ Some (Ok m) → Asks (inst i) f m
  asks_at i f c m h e =
      let asked : asked_at inputs i f (ask_of c) ≡ asked_of inputs.setting (inst i) f m = ap (asked_in inputs.setting i f) e in
      record {
        needs = λ x at is. is_planned.closed.steps x (from_one (visit i f (ask_of c)) h (subst (λ l. Contains (filter is_need l) x) (sym asked) (filter_contains is_need (asked_of inputs.setting (inst i) f m) x at is)));
        floors = λ p a at free. floor_step (visit i f (ask_of c)) (asked_at inputs i f (ask_of c)) (within (visit i f (ask_of c)) h) refl p a (subst (λ l. Contains l (floor p a)) (sym asked) at) free;
      }

  -- the row of a needed port's choice is there
  chosen_row : (i : Instance) (f : List ℕ) → Contains facts (need (inst i) f) → (g : Given) (c : Version) → (inputs.pages i.port).given ≡ Ok g → chosen_of inputs facts i.port ≡ Some c → version_at inputs.pages i.port (ask_of c) ≡ Some c
  chosen_row i f needed (overlay v) c e chosen =
      let same : Some v ≡ Some c = sym (chosen_pinned inputs facts i.port (Ok (overlay v)) v e refl refl) ∙ chosen in
      let is : v ≡ c = (cc) in
      subst (λ k. version_at inputs.pages i.port (ask_of k) ≡ Some k) is (rows i.port v e)
  chosen_row i f needed (override b) c e chosen =
      let v = floor_in_table inputs facts first i.port b (override b) e (λ w clash. (cc)) (given_floor inputs facts least.closed i f needed (override b) e) in
      let same : Some v.0 ≡ Some c = sym (chosen_pinned inputs facts i.port (Ok (override b)) v.0 e refl v.1) ∙ chosen in
      let is : v.0 ≡ c = (cc) in
      let at : version_at inputs.pages i.port b ≡ Some c = v.1 ∙ ap Some is in
      subst (λ k. version_at inputs.pages i.port k ≡ Some c) (sym (version_ask inputs.pages i.port b c at)) at
  chosen_row i f needed (baseline b) c e chosen =
      let choice = free_choice inputs facts i.port c (ap (is_pinned_by inputs.setting.root.overrides i.port) e) chosen in
      let is = floors_are inputs facts i.port c choice.0 in
      subst (λ k. version_at inputs.pages i.port k ≡ Some c) (sym (version_ask inputs.pages i.port is.ask c is.version)) is.version

  manifest_there : (i : Instance) (f : List ℕ) (c : Version) → Contains facts (visit i f (ask_of c)) → (row : Option (Row Condition)) → row_in (inputs.pages i.port).rows (ask_of c) ≡ row → option_map (λ r. r.version) row ≡ Some c
      → (m : Manifest Condition) × (manifest_at inputs.pages i.port (ask_of c) ≡ Some (Ok m))
  manifest_there i f c visited None e is = (cc)
  manifest_there i f c visited (Some row) e is = readable row.manifest (ap (option_map (λ (r : Row Condition). r.manifest)) e)
    where
      readable : (manifest : Result (Manifest Condition) Wrong) → manifest_at inputs.pages i.port (ask_of c) ≡ Some manifest → (m : Manifest Condition) × (manifest_at inputs.pages i.port (ask_of c) ≡ Some (Ok m))
      readable (Ok m) at = (m, at)
      readable (Err wrong) at = absurd (no_troubles inputs facts first (visit i f (ask_of c)) visited (wrong_of i.port wrong) (subst (λ o. Contains (manifest_troubles i.port o) (wrong_of i.port wrong)) (sym at) (contains_first (wrong_of i.port wrong) [])))

  serves_instance : (i : Instance) (f : List ℕ) → Contains planned (need (inst i) f) → IsServed inputs facts planned i f
  serves_instance i f h =
      let needed : Contains facts (need (inst i) f) = within (need (inst i) f) h in
      let g = needed_given inputs facts first i f needed in
      let c = needed_has_choice inputs order facts least first second i f needed g.0 g.1 in
      let visited : Contains planned (visit i f (ask_of c.version)) = (plan_stays_within inputs order facts planned least first is_planned).visits i f c.version h c.chosen in
      let m = manifest_there i f c.version (within (visit i f (ask_of c.version)) visited) (row_in (inputs.pages i.port).rows (ask_of c.version)) refl (chosen_row i f needed g.0 c.version g.1 c.chosen) in
      record { choice = c.version; chosen = c.chosen; manifest = m.0; has_manifest = m.1; serves = serves (inst i) f m.0 h (asks_at i f c.version m.0 visited m.1) }

pub plan_serves : PlanServes
plan_serves inputs order rows facts planned least first second is_planned = record {
  of_root = serves_root inputs order rows facts planned least first second is_planned;
  of_instances = serves_instance inputs order rows facts planned least first second is_planned;
}

-- where the only row has a version, it is the one that is meant by the version's ask
own_row : (rows : List (Row Condition)) (v : Version) → map (λ (r : Row Condition). r.version) rows ≡ v ∷ [] → option_map (λ (r : Row Condition). r.version) (row_in rows (ask_of v)) ≡ Some v
own_row [] v e = (cc)
own_row (r ∷ rest) v e =
    let same : r.version ≡ v = (cc) in
    let meant : same_ask (ask_of r.version) (ask_of v) ≡ true = subst (λ w. same_ask (ask_of w) (ask_of v) ≡ true) (sym same) (ask_itself (ask_of v)) in
    ap (λ b. option_map (λ (k : Row Condition). k.version) (cond b (Some r) (row_in rest (ask_of v)))) meant ∙ ap Some same

pub pages_have_rows : PagesHaveRows
pages_have_rows pages are p v e = own_row (pages p).rows v (subst (λ o. IfOk o (HasOwnAlone (pages p).rows)) e (are p).own)
