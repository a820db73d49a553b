-- Choices, floors and conflicts.
use Rattle.std.proofs.Common.{◌≡◌, ◌≢◌, ◌<◌, ◌≤◌, ◌⊎◌, ℕ, zero, suc, Bool, true, false, cond, not, List, [], ◌∷◌, filter, length, inl, inr, refl, ap, sym, ◌∙◌, subst, arith}
use Rattle.std.specs.Prelude.{Option, Some, None, option_map, option_and_then, option_to_list, flat_map, Result, Ok, Err, bytes_eq}
use Rattle.std.specs.List.{Contains, list_any, list_all}
use Rattle.std.proofs.lemmas.Slice.Eq.{bytes_eq-Decides}
use Rattle.std.proofs.lemmas.List.{append-nil}
use Rattle.vk_spec.specs.Versions.{Class, dot, date, text, Version, Ask, same_ask, ask_of, same_version, IsOrder}
use Rattle.vk_spec.specs.Pages.{Wrong, Given, overlay, override, baseline, Row, row_in, given_ask, is_pinned_by}
use Rattle.vk_spec.proofs.ListLemmas.{contains_nothing, contains_first, contains_later, contains_cases, flat_map-contains}
use Rattle.vk_spec.proofs.VersionLemmas.{asks_equal, version_decides}
use Rattle.std.specs.declared.cmp.Ordering.TheVariants.{Less}
use Rattle.vk_spec.specs.Conditions.{Condition}
use Rattle.vk_spec.specs.Settings.{Instance}
use Rattle.vk_resolution.specs.Keys.{IsKey, in_order, Ascends, key_cmp}
use Rattle.vk_resolution.specs.Least.{from_one, IsClosed}
use Rattle.vk_resolution.specs.Settings.{inst}
use Rattle.vk_resolution.specs.Givens.{Pages, version_at, is_pinned}
use Rattle.vk_resolution.specs.Asking.{Fact, need, floor, visit}
use Rattle.vk_resolution.specs.Consequences.{Inputs, Step, given_step, steps_from, rules_of, is_below, by_overlay, by_override, by_baseline}
use Rattle.vk_resolution.specs.Choices.{floor_in, floors_of, given_version_of, greatest_of, chosen_of, class_number, version_key, is_top, tops_of}
use Rattle.vk_resolution.specs.Reasons.{first_line, line_of}
use Rattle.vk_resolution.specs.Faults.{Trouble, lacks_version, troubled, conflicts, trouble_key, same_trouble, given_troubles, floor_troubles, troubles_of, told_of, first_faults_of, conflict_of, conflicts_of, ports_in, wrong_of}
use Rattle.vk_resolution.specs.Laws.{ChoiceIsLeast, ChoiceIsAboveFloors, TableHasFloors, HasConflictLine, ChoiceOrConflict}
use Rattle.vk_resolution.proofs.Members.{true_or_false, both_true, and_true, not_true, not_false, no_is_false, true_false, any_contains, contains_any, all_contains, not_all, found_contains, nothing_found, contains-filter_map, filter_map-contains, contains_filter, filter_contains, contains_option, map_contains, contains_single}
use Rattle.vk_resolution.proofs.Orders.{contains-in_order, in_order-contains, in_order-ascends, before_itself}
use Rattle.vk_resolution.proofs.FactLemmas.{trouble_key-IsKey, same_trouble-Decides}
use Rattle.vk_resolution.proofs.Derivations.{line_found}
use Rattle.vk_resolution.proofs.Soundness.{map_some}

-- the version of an ask has the ask's text and port-version
pub version_ask : (pages : Pages) (p : List ℕ) (a : Ask) (v : Version) → version_at pages p a ≡ Some v → ask_of v ≡ a
version_ask pages p a v e =
    let r = map_some (λ (r : Row Condition). r.version) (row_in (pages p).rows a) v e in
    let f = found_contains (λ r. same_ask (ask_of r.version) a) (pages p).rows r.0 r.1 in
    ap ask_of (sym r.2) ∙ asks_equal (ask_of r.0.version) a f.1

-- a floor of a port is a fact whose version the table has
pub record IsFloorOf (inputs : Inputs) (facts : List Fact) (p : List ℕ) (v : Version) : Type 0 where
  pub ask : Ask
  pub has : Contains facts (floor p ask)
  pub version : version_at inputs.pages p ask ≡ Some v

floor_case : (inputs : Inputs) (facts : List Fact) (p q : List ℕ) (a : Ask) (v : Version) (b : Bool) → bytes_eq q p ≡ b → Contains facts (floor q a) → cond b (version_at inputs.pages p a) None ≡ Some v → IsFloorOf inputs facts p v
floor_case inputs facts p q a v true e has h = record { ask = a; has = subst (λ r. Contains facts (floor r a)) ((bytes_eq-Decides q p).0 e) has; version = h }
floor_case inputs facts p q a v false e has h = (cc)

floor_from : (inputs : Inputs) (facts : List Fact) (p : List ℕ) (v : Version) (x : Fact) → Contains facts x → floor_in inputs.pages p x ≡ Some v → IsFloorOf inputs facts p v
floor_from inputs facts p v (need who f) has e = (cc)
floor_from inputs facts p v (floor q a) has e = floor_case inputs facts p q a v (bytes_eq q p) refl has e
floor_from inputs facts p v (visit i f a) has e = (cc)

pub floors_are : (inputs : Inputs) (facts : List Fact) (p : List ℕ) (v : Version) → Contains (floors_of inputs facts p) v → IsFloorOf inputs facts p v
floors_are inputs facts p v h = let r = contains-filter_map (floor_in inputs.pages p) facts v h in floor_from inputs facts p v r.0 r.1 r.2

pub floor_is : (inputs : Inputs) (facts : List Fact) (p : List ℕ) (a : Ask) (v : Version) → Contains facts (floor p a) → version_at inputs.pages p a ≡ Some v → Contains (floors_of inputs facts p) v
floor_is inputs facts p a v has e =
    let same : floor_in inputs.pages p (floor p a) ≡ version_at inputs.pages p a = ap (λ b. cond b (version_at inputs.pages p a) None) ((bytes_eq-Decides p p).1 refl) in
    filter_map-contains (floor_in inputs.pages p) facts (floor p a) v has (same ∙ e)

-- the choice of a port that isn't pinned is a floor, and at or above all of them
pub free_choice : (inputs : Inputs) (facts : List Fact) (p : List ℕ) (c : Version) → is_pinned inputs.setting inputs.pages p ≡ false → chosen_of inputs facts p ≡ Some c
    → Contains (floors_of inputs facts p) c × ((w : Version) → Contains (floors_of inputs facts p) w → inputs.at_most w c ≡ true)
free_choice inputs facts p c free e =
    let greatest : greatest_of inputs (floors_of inputs facts p) ≡ Some c = sym (ap (λ b. cond b (given_version_of inputs.pages p (inputs.pages p).given) (greatest_of inputs (floors_of inputs facts p))) free) ∙ e in
    let r = found_contains (λ v. list_all (λ w. inputs.at_most w v) (floors_of inputs facts p)) (floors_of inputs facts p) c greatest in
    (r.0, λ w h. all_contains (λ u. inputs.at_most u c) (floors_of inputs facts p) r.1 w h)

pub choice_is_least : ChoiceIsLeast
choice_is_least inputs facts least p free c e other closed w above =
    let r = floors_are inputs facts p c (free_choice inputs facts p c free e).0 in
    above r.ask c (least.forced.within other closed (floor p r.ask) r.has) r.version

pub choice_is_above_floors : ChoiceIsAboveFloors
choice_is_above_floors inputs facts p free c e a v has found = (free_choice inputs facts p c free e).1 v (floor_is inputs facts p a v has found)

-- a list in which something passes has a first line
line_step : {X : Type 0} (test : X → Bool) (y : X) (ys : List X) (b : Bool) → test y ≡ b → (test y ≡ true) ⊎ ((n : ℕ) × (first_line test ys ≡ Some n)) → (n : ℕ) × (cond b (Some 1) (option_map suc (first_line test ys)) ≡ Some n)
line_step test y ys true e some = (1, refl)
line_step test y ys false e (inl here) = absurd (true_false (test y) here e)
line_step test y ys false e (inr later) = (suc later.0, ap (option_map suc) later.1)

pub line_exists : {X : Type 0} (test : X → Bool) (xs : List X) (x : X) → Contains xs x → test x ≡ true → (n : ℕ) × (first_line test xs ≡ Some n)
line_exists test [] x h passes = absurd (contains_nothing x h)
line_exists test (y ∷ ys) x h passes =
    line_step test y ys (test y) refl (elim (contains_cases y x ys h) [ inl same ↦ inl (subst (λ z. test z ≡ true) (sym same) passes) | inr later ↦ inr (line_exists test ys x later passes) ])

-- where no fault of the first phase stands, no fact meets any trouble
pub no_troubles : (inputs : Inputs) (facts : List Fact) → first_faults_of inputs facts ≡ [] → (x : Fact) → Contains facts x → (t : Trouble) → Contains (troubles_of inputs x) t → ⊥
no_troubles inputs facts none x h t met =
    let line = line_exists (λ y. list_any (same_trouble t) (troubles_of inputs y)) facts x h (contains_any (same_trouble t) (troubles_of inputs x) t met ((same_trouble-Decides t t).1 refl)) in
    let told : Contains (told_of inputs facts t) (troubled t line.0) = map_contains (troubled t) (option_to_list (first_line (λ y. list_any (same_trouble t) (troubles_of inputs y)) facts)) line.0 (contains_option _ line.0 line.1) in
    let listed : Contains (in_order trouble_key (flat_map (troubles_of inputs) facts)) t = in_order-contains trouble_key trouble_key-IsKey (flat_map (troubles_of inputs) facts) t (flat_map-contains (troubles_of inputs) facts x t h met) in
    let fault : Contains (first_faults_of inputs facts) (troubled t line.0) = flat_map-contains (told_of inputs facts) (in_order trouble_key (flat_map (troubles_of inputs) facts)) t (troubled t line.0) listed told in
    contains_nothing (troubled t line.0) (subst (λ l. Contains l (troubled t line.0)) none fault)

given_found : (p : List ℕ) (given : Result Given Wrong) → ((t : Trouble) → Contains (given_troubles p given) t → ⊥) → (g : Given) × (given ≡ Ok g)
given_found p (Ok g) none = (g, refl)
given_found p (Err wrong) none = absurd (none (wrong_of p wrong) (contains_first (wrong_of p wrong) []))

-- a needed port's given version is found
pub needed_given : (inputs : Inputs) (facts : List Fact) → first_faults_of inputs facts ≡ [] → (i : Instance) (f : List ℕ) → Contains facts (need (inst i) f) → (g : Given) × ((inputs.pages i.port).given ≡ Ok g)
needed_given inputs facts none i f h = given_found i.port (inputs.pages i.port).given (λ t met. no_troubles inputs facts none (need (inst i) f) h t met)

-- a step from a fact of a closed list is in it
pub step_in : (inputs : Inputs) (facts : List Fact) → IsClosed (rules_of inputs) facts → (a : Fact) (step : Step) → Contains facts a → Contains (steps_from inputs a) step → Contains facts step.fact
step_in inputs facts closed a step h in_steps = closed.steps step.fact (from_one a h (map_contains (λ (s : Step). s.fact) (steps_from inputs a) step in_steps))

pub given_fact : (x : Fact) (p : List ℕ) (given : Result Given Wrong) (g : Given) → given ≡ Ok g → (step : Step) × Contains (given_step x p given) step × (step.fact ≡ floor p (given_ask g))
given_fact x p (Ok (overlay v)) g e = let same : overlay v ≡ g = (cc) in (record { fact = floor p (ask_of v); cause = by_overlay x }, contains_first _ [], ap (λ k. floor p (given_ask k)) same)
given_fact x p (Ok (override a)) g e = let same : override a ≡ g = (cc) in (record { fact = floor p a; cause = by_override x }, contains_first _ [], ap (λ k. floor p (given_ask k)) same)
given_fact x p (Ok (baseline a)) g e = let same : baseline a ≡ g = (cc) in (record { fact = floor p a; cause = by_baseline x }, contains_first _ [], ap (λ k. floor p (given_ask k)) same)
given_fact x p (Err wrong) g e = (cc)

-- the floor of a needed port's given version is in each closed list
pub given_floor : (inputs : Inputs) (facts : List Fact) → IsClosed (rules_of inputs) facts → (i : Instance) (f : List ℕ) → Contains facts (need (inst i) f) → (g : Given) → (inputs.pages i.port).given ≡ Ok g → Contains facts (floor i.port (given_ask g))
given_floor inputs facts closed i f h g e =
    let r = given_fact (need (inst i) f) i.port (inputs.pages i.port).given g e in
    subst (Contains facts) r.2 (step_in inputs facts closed (need (inst i) f) r.0 h r.1)

row_exists : (inputs : Inputs) (p : List ℕ) (a : Ask) (given : Result Given Wrong) (g : Given) (row : Option (Row Condition)) → given ≡ Ok g → ((v : Version) → g ≡ overlay v → ⊥) → ((t : Trouble) → Contains (floor_troubles p a row given) t → ⊥)
    → (v : Version) × (option_map (λ r. r.version) row ≡ Some v)
row_exists inputs p a given g (Some row) e other none = (row.version, refl)
row_exists inputs p a (Ok (overlay v)) g None e other none = let same : g ≡ overlay v = (cc) in absurd (other v same)
row_exists inputs p a (Ok (override b)) g None e other none = absurd (none (lacks_version p a) (contains_first (lacks_version p a) []))
row_exists inputs p a (Ok (baseline b)) g None e other none = absurd (none (lacks_version p a) (contains_first (lacks_version p a) []))
row_exists inputs p a (Err wrong) g None e other none = (cc)

-- a floor of a port that has no overlay is in the table
pub floor_in_table : (inputs : Inputs) (facts : List Fact) → first_faults_of inputs facts ≡ [] → (p : List ℕ) (a : Ask) (g : Given) → (inputs.pages p).given ≡ Ok g → ((v : Version) → g ≡ overlay v → ⊥) → Contains facts (floor p a) → (v : Version) × (version_at inputs.pages p a ≡ Some v)
floor_in_table inputs facts none p a g found other h = row_exists inputs p a (inputs.pages p).given g (row_in (inputs.pages p).rows a) found other (λ t met. no_troubles inputs facts none (floor p a) h t met)

pub table_has_floors : TableHasFloors
table_has_floors inputs facts least none i f h =
    let g = needed_given inputs facts none i f h in
    record {
      given = g.0;
      found = g.1;
      floor_given = given_floor inputs facts least.closed i f h g.0 g.1;
      every = λ a free has. floor_in_table inputs facts none i.port a g.0 g.1 (λ v is. (
          let pinned : is_pinned inputs.setting inputs.pages i.port ≡ true = pinned_overlay inputs i.port v (g.1 ∙ ap Ok is) in
          true_false (is_pinned inputs.setting inputs.pages i.port) pinned free
          )) has;
    }
  where
    pinned_overlay : (inputs : Inputs) (p : List ℕ) (v : Version) → (inputs.pages p).given ≡ Ok (overlay v) → is_pinned inputs.setting inputs.pages p ≡ true
    pinned_overlay inputs p v e = ap (is_pinned_by inputs.setting.root.overrides p) e

class_number-is : (c d : Class) → class_number c ≡ class_number d → c ≡ d
class_number-is dot dot e = refl
class_number-is dot date e = (cc)
class_number-is dot text e = (cc)
class_number-is date dot e = (cc)
class_number-is date date e = refl
class_number-is date text e = (cc)
class_number-is text dot e = (cc)
class_number-is text date e = (cc)
class_number-is text text e = refl

pub version_key-IsKey : IsKey version_key
version_key-IsKey v w e =
    let n : class_number v.class ≡ class_number w.class = (cc) in
    let a : v.class ≡ w.class = class_number-is v.class w.class n in
    let b : v.text ≡ w.text = (cc) in
    let c : v.port ≡ w.port = (cc) in
    λ k. record { class = a k; text = b k; port = c k }

-- a filter that passes less is no longer, and shorter where it lacks something
module _ {X : Type 0} (p q : X → Bool) (less : (x : X) → p x ≡ true → q x ≡ true) where
  longer_step : (x : X) (xs : List X) (b c : Bool) → p x ≡ b → q x ≡ c → length (filter p xs) ≤ length (filter q xs) → length (cond b (x ∷ filter p xs) (filter p xs)) ≤ length (cond c (x ∷ filter q xs) (filter q xs))
  longer_step x xs true true e f rest = omega arith
  longer_step x xs true false e f rest = absurd (true_false (q x) (less x e) f)
  longer_step x xs false true e f rest = omega arith
  longer_step x xs false false e f rest = rest

  not_longer : (xs : List X) → length (filter p xs) ≤ length (filter q xs)
  not_longer [] = omega arith
  not_longer (x ∷ xs) = longer_step x xs (p x) (q x) refl refl (not_longer xs)

  shorter_step : (x : X) (xs : List X) (b c : Bool) → p x ≡ b → q x ≡ c → (length (filter p xs) < length (filter q xs)) ⊎ ((q x ≡ true) × (p x ≡ false)) → length (filter p xs) ≤ length (filter q xs)
      → length (cond b (x ∷ filter p xs) (filter p xs)) < length (cond c (x ∷ filter q xs) (filter q xs))
  shorter_step x xs true true e f (inl rest) le = omega arith
  shorter_step x xs true true e f (inr here) le = absurd (true_false (p x) e here.1)
  shorter_step x xs true false e f rest le = absurd (true_false (q x) (less x e) f)
  shorter_step x xs false true e f rest le = omega arith
  shorter_step x xs false false e f (inl rest) le = rest
  shorter_step x xs false false e f (inr here) le = absurd (true_false (q x) here.0 f)

  shorter : (xs : List X) (y : X) → Contains xs y → q y ≡ true → p y ≡ false → length (filter p xs) < length (filter q xs)
  shorter [] y h in_q not_in_p = absurd (contains_nothing y h)
  shorter (x ∷ xs) y h in_q not_in_p =
      shorter_step x xs (p x) (q x) refl refl
      (elim (contains_cases x y xs h) [
        | inl same ↦ inr (subst (λ z. q z ≡ true) (sym same) in_q, subst (λ z. p z ≡ false) (sym same) not_in_p)
        | inr later ↦ inl (shorter xs y later in_q not_in_p)
      ]) (not_longer xs)

module _ (inputs : Inputs) (order : IsOrder inputs.at_most) where
  below_parts : (v w : Version) → is_below inputs v w ≡ true → (inputs.at_most v w ≡ true) × (same_version v w ≡ false)
  below_parts v w e = let parts = both_true (inputs.at_most v w) (not (same_version v w)) e in (parts.0, not_true _ parts.1)

  below_itself : (v : Version) → is_below inputs v v ≡ false
  below_itself v = no_is_false _ (λ e. true_false (same_version v v) ((version_decides v v).1 refl) (below_parts v v e).1)

  below_then : (v w u : Version) → is_below inputs v w ≡ true → is_below inputs w u ≡ true → is_below inputs v u ≡ true
  below_then v w u e f =
      let one = below_parts v w e in
      let two = below_parts w u f in
      and_true (inputs.at_most v u) (not (same_version v u)) (order.transitive v w u one.0 two.0) (not_false _ (no_is_false _ (λ same. (
      let is : v ≡ u = (version_decides v u).0 same in
      let back : inputs.at_most w v ≡ true = subst (λ k. inputs.at_most w k ≡ true) (sym is) two.0 in
      let tied : v ≡ w = order.antisymmetric v w one.0 back in
      true_false (same_version v w) (subst (λ k. same_version v k ≡ true) tied ((version_decides v v).1 refl)) one.1
      ))))

  pub record HasTop (floors : List Version) (v : Version) : Type 0 where
    pub top : Version
    pub floor : Contains floors top
    pub is : is_top inputs floors top ≡ true
    pub above : inputs.at_most v top ≡ true

  -- above each floor there is one that no other is above
  top_above : (floors : List Version) (n : ℕ) (v : Version) → Contains floors v → length (filter (is_below inputs v) floors) ≤ n → HasTop floors v
  top_above floors zero v h bound =
      record {
        top = v;
        floor = h;
        is = not_false _ (no_is_false _ (λ some. (
            let r = any_contains (is_below inputs v) floors some in
            none_listed (filter (is_below inputs v) floors) r.0 (filter_contains (is_below inputs v) floors r.0 r.1 r.2) bound
            )));
        above = order.reflexive v;
      }
    where
      none_listed : (xs : List Version) (x : Version) → Contains xs x → length xs ≤ 0 → ⊥
      none_listed xs x at short = let below : at.0 < length xs = at.1 in absurd (omega arith)
  top_above floors (suc n) v h bound = by_test floors n v h bound (true_or_false (list_any (is_below inputs v) floors)) (λ w at below. top_above floors n w at below)
    where
      by_test : (floors : List Version) (n : ℕ) (v : Version) → Contains floors v → length (filter (is_below inputs v) floors) ≤ suc n → (list_any (is_below inputs v) floors ≡ true) ⊎ (list_any (is_below inputs v) floors ≡ false)
          → ((w : Version) → Contains floors w → length (filter (is_below inputs w) floors) ≤ n → HasTop floors w) → HasTop floors v
      by_test floors n v h bound (inr none) higher = record { top = v; floor = h; is = not_false _ none; above = order.reflexive v }
      by_test floors n v h bound (inl some) higher =
          let r = any_contains (is_below inputs v) floors some in
          let less : length (filter (is_below inputs r.0) floors) < length (filter (is_below inputs v) floors) = shorter (is_below inputs r.0) (is_below inputs v) (λ u e. below_then v r.0 u r.2 e) floors r.0 r.1 r.2 (below_itself r.0) in
          let t = higher r.0 r.1 (omega arith) in
          record { top = t.top; floor = t.floor; is = t.is; above = order.transitive v r.0 t.top (below_parts v r.0 r.2).0 t.above }

  pub has_top : (floors : List Version) (v : Version) → Contains floors v → HasTop floors v
  has_top floors v h = top_above floors (length (filter (is_below inputs v) floors)) v h (omega arith)

two_members : (xs : List Version) (v w : Version) → Contains xs v → Contains xs w → v ≢ w → (a b : Version) × (rest : List Version) × (xs ≡ a ∷ b ∷ rest)
two_members [] v w in_v in_w differ = absurd (contains_nothing v in_v)
two_members (x ∷ []) v w in_v in_w differ = absurd (differ (sym (contains_single x v in_v) ∙ contains_single x w in_w))
two_members (x ∷ y ∷ rest) v w in_v in_w differ = (x, y, rest, refl)

conflict_in : (inputs : Inputs) (facts : List Fact) (p : List ℕ) (v w : Version) (rest tops : List Version) → tops ≡ v ∷ w ∷ rest → IsFloorOf inputs facts p v → IsFloorOf inputs facts p w → (n m : ℕ) × Contains (conflict_of facts p tops) (conflicts p v n w m)
conflict_in inputs facts p v w rest tops split one other =
    let ask_v : ask_of v ≡ one.ask = version_ask inputs.pages p one.ask v one.version in
    let ask_w : ask_of w ≡ other.ask = version_ask inputs.pages p other.ask w other.version in
    let line_v = line_found facts [] (floor p (ask_of v)) (subst (λ a. Contains facts (floor p a)) (sym ask_v) one.has) in
    let line_w = line_found facts [] (floor p (ask_of w)) (subst (λ a. Contains facts (floor p a)) (sym ask_w) other.has) in
    let is_v : line_of facts (floor p (ask_of v)) ≡ Some line_v.0 = subst (λ l. line_of l (floor p (ask_of v)) ≡ Some line_v.0) (append-nil facts) line_v.1 in
    let is_w : line_of facts (floor p (ask_of w)) ≡ Some line_w.0 = subst (λ l. line_of l (floor p (ask_of w)) ≡ Some line_w.0) (append-nil facts) line_w.1 in
    let line : option_and_then (λ n. option_map (conflicts p v n w) (line_of facts (floor p (ask_of w)))) (line_of facts (floor p (ask_of v))) ≡ Some (conflicts p v line_v.0 w line_w.0) =
    ap (option_and_then (λ n. option_map (conflicts p v n w) (line_of facts (floor p (ask_of w))))) is_v ∙ ap (option_map (conflicts p v line_v.0 w)) is_w in
    (line_v.0, line_w.0, subst (λ t. Contains (conflict_of facts p t) (conflicts p v line_v.0 w line_w.0)) (sym split) (contains_option _ (conflicts p v line_v.0 w line_w.0) line))

distinct_heads : (v w : Version) (rest : List Version) → Ascends version_key (v ∷ w ∷ rest) → v ≡ w → ⊥
distinct_heads v w rest ascends same = before_itself (version_key v) (subst (λ k. key_cmp (version_key v) (version_key k) ≡ Less) (sym same) (ascends.0 w (contains_first w rest)))

conflict_told : (inputs : Inputs) → IsOrder inputs.at_most → (facts : List Fact) (p : List ℕ) → is_pinned inputs.setting inputs.pages p ≡ false → floors_of inputs facts p ≢ [] → chosen_of inputs facts p ≡ None → HasConflictLine inputs facts p
conflict_told inputs order facts p free some none =
    with_first (floors_of inputs facts p) refl
  where
    none_greatest : greatest_of inputs (floors_of inputs facts p) ≡ None
    none_greatest = sym (ap (λ b. cond b (given_version_of inputs.pages p (inputs.pages p).given) (greatest_of inputs (floors_of inputs facts p))) free) ∙ none

    finish : (one other : Version) → Contains (floors_of inputs facts p) one → is_top inputs (floors_of inputs facts p) one ≡ true → Contains (floors_of inputs facts p) other → is_top inputs (floors_of inputs facts p) other ≡ true → one ≢ other → HasConflictLine inputs facts p
    finish one other floor_one top_one floor_other top_other differ =
        let floors : List Version = floors_of inputs facts p in
        let member : (v : Version) → Contains floors v → is_top inputs floors v ≡ true → Contains (tops_of inputs floors) v = λ v h e. in_order-contains version_key version_key-IsKey (filter (is_top inputs floors) floors) v (filter_contains (is_top inputs floors) floors v h e) in
        let back : (v : Version) → Contains (tops_of inputs floors) v → Contains floors v × (is_top inputs floors v ≡ true) = λ v h. contains_filter (is_top inputs floors) floors v (contains-in_order version_key (filter (is_top inputs floors) floors) v h) in
        let two = two_members (tops_of inputs floors) one other (member one floor_one top_one) (member other floor_other top_other) differ in
        let v : Version = two.0 in
        let w : Version = two.1 in
        let in_v = back v (subst (λ l. Contains l v) (sym two.3) (contains_first v (w ∷ two.2))) in
        let in_w = back w (subst (λ l. Contains l w) (sym two.3) (contains_later v w (w ∷ two.2) (contains_first w two.2))) in
        let is_v = floors_are inputs facts p v in_v.0 in
        let is_w = floors_are inputs facts p w in_w.0 in
        let told = conflict_in inputs facts p v w two.2 (tops_of inputs floors) two.3 is_v is_w in
        let listed : Contains (in_order (λ q. q ∷ []) (flat_map ports_in facts)) p = in_order-contains (λ q. q ∷ []) (λ x y e. (cc)) (flat_map ports_in facts) p (flat_map-contains ports_in facts (floor p is_v.ask) p is_v.has (contains_first p [])) in
        let line : Contains (conflicts_of inputs facts p (chosen_of inputs facts p)) (conflicts p v told.0 w told.1) =
        subst (λ o. Contains (conflicts_of inputs facts p o) (conflicts p v told.0 w told.1)) (sym none)
        (subst (λ b. Contains (cond b [] (conflict_of facts p (tops_of inputs floors))) (conflicts p v told.0 w told.1)) (sym free) told.2) in
        record {
          one = v;
          one_line = told.0;
          other = w;
          other_line = told.1;
          differ = λ same. distinct_heads v w two.2 (subst (Ascends version_key) two.3 (in_order-ascends version_key (filter (is_top inputs floors) floors))) same;
          one_floor = in_v.0;
          other_floor = in_w.0;
          one_top = in_v.1;
          other_top = in_w.1;
          line = flat_map-contains (λ q. conflicts_of inputs facts q (chosen_of inputs facts q)) (in_order (λ q. q ∷ []) (flat_map ports_in facts)) p (conflicts p v told.0 w told.1) listed line;
        }

    with_first : (floors : List Version) → floors_of inputs facts p ≡ floors → HasConflictLine inputs facts p
    with_first [] e = absurd (some e)
    with_first (v ∷ rest) e =
        let floors : List Version = floors_of inputs facts p in
        let t = has_top inputs order floors v (subst (λ l. Contains l v) (sym e) (contains_first v rest)) in
        let u = not_all (λ w. inputs.at_most w t.top) floors (nothing_found (λ k. list_all (λ w. inputs.at_most w k) floors) floors none_greatest t.top t.floor) in
        let q = has_top inputs order floors u.0 u.1 in
        finish t.top q.top t.floor t.is q.floor q.is (λ same. true_false (inputs.at_most u.0 t.top) (subst (λ k. inputs.at_most u.0 k ≡ true) (sym same) q.above) u.2)

pub choice_or_conflict : ChoiceOrConflict
choice_or_conflict inputs order facts p conflict = conflict_told inputs order facts p conflict.free conflict.some conflict.none
