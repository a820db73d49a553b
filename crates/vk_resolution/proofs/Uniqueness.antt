-- There is one outcome.
use Rattle.std.proofs.Common.{◌≡◌, ◌<◌, ℕ, zero, suc, ◌+◌, Bool, true, false, cond, List, [], ◌∷◌, ◌++◌, length, map, filter, inl, inr, refl, ap, ap₂, sym, ◌∙◌, subst, arith}
use Rattle.std.specs.Prelude.{Some, flat_map, slice_get}
use Rattle.std.proofs.lemmas.List.Elements.{Contains-append_right}
use Rattle.std.specs.declared.cmp.Ordering.{Ordering}
use Rattle.std.specs.declared.cmp.Ordering.TheVariants.{Less, Equal, Greater}
use Rattle.std.specs.Cmp.{both_ways}
use Rattle.std.specs.List.{Contains, list_any, list_all}
use Rattle.vk_spec.specs.Lists.{NoRepeats, IsWithin}
use Rattle.vk_spec.specs.Versions.{ask_of}
use Rattle.vk_spec.proofs.ListLemmas.{contains_nothing, contains_first, contains_later, contains_cases, contains-flat_map, flat_map-contains}
use Rattle.vk_spec.proofs.FileLemmas.{path_total, path_same}
use Rattle.vk_spec.specs.Settings.{Instance}
use Rattle.vk_resolution.specs.Keys.{Key, key_cmp, IsKey, IsListing, put_by, put_in, in_order}
use Rattle.vk_resolution.specs.Settings.{same_instance}
use Rattle.vk_resolution.specs.Asking.{Fact, floor, fact_key, same_fact, is_among}
use Rattle.vk_resolution.specs.Consequences.{Inputs, rules_of}
use Rattle.vk_resolution.specs.Choices.{chosen_of}
use Rattle.vk_resolution.specs.Reasons.{Reason, facts_of, cause_of, line_of, IsReasons}
use Rattle.vk_resolution.specs.Planning.{planned_rules_of, IsPlanned, instance_key, needed_in, instances_of, targets_at, targets_of, is_within, HasHeight, IsByHeight, feature_key, feature_in, features_of, places_from, Item, IsItem, order_of, IsPlan, has_way, IsOnCycle, IsFrom, IsNext, WalksOn, IsCycle}
use Rattle.vk_resolution.specs.Faults.{Fault, has_cycle, judged_on_line, third_faults_of}
use Rattle.vk_resolution.specs.Outcomes.{Printing, lines_of, IsRefusal, by_first, by_second, by_third, by_fourth, IsAgreed, planned, refused}
use Rattle.vk_resolution.specs.Walks.{Targets, HeightOrderIsOne}
use Rattle.vk_resolution.specs.OutcomeLaws.{KeysAreOrdered, LinesAreListed, NeedsAreBefore, OutcomeIsOne}
use Rattle.vk_resolution.proofs.Members.{any_contains, contains_any, all_contains, contains_all}
use Rattle.vk_resolution.proofs.Orders.{before_both, before_itself, contains-in_order, in_order-contains, in_order-ascends, in_order-IsListing, ascending_one}
use Rattle.vk_resolution.proofs.LeastLemmas.{least_same}
use Rattle.vk_resolution.proofs.Rounds.{least_in_order_one}
use Rattle.vk_resolution.proofs.FactLemmas.{fact_key-IsKey, instance_key-IsKey, feature_key-IsKey, same_instance-Decides}
use Rattle.vk_resolution.proofs.WalkLemmas.{heights_have_no_cycle, targets_stand_before, cycle_is_one}

-- lists with the same members
pub record SameMembers {X : Type 0} (xs ys : List X) : Type 0 where
  pub to : IsWithin xs ys
  pub from : IsWithin ys xs

turned_members : {X : Type 0} {xs ys : List X} → SameMembers xs ys → SameMembers ys xs
turned_members same = record { to = same.from; from = same.to }

module _ {X : Type 0} where
  pub any_same : (f g : X → Bool) (xs ys : List X) → SameMembers xs ys → ((x : X) → f x ≡ g x) → list_any f xs ≡ list_any g ys
  any_same f g xs ys same equal = both_ways (list_any f xs) (list_any g ys)
      (λ e. (let r = any_contains f xs e in contains_any g ys r.0 (same.to r.0 r.1) (sym (equal r.0) ∙ r.2)))
      (λ e. (let r = any_contains g ys e in contains_any f xs r.0 (same.from r.0 r.1) (equal r.0 ∙ r.2)))

  all_same : (f g : X → Bool) (xs ys : List X) → SameMembers xs ys → ((x : X) → f x ≡ g x) → list_all f xs ≡ list_all g ys
  all_same f g xs ys same equal = both_ways (list_all f xs) (list_all g ys)
      (λ e. contains_all g ys (λ y h. sym (equal y) ∙ all_contains f xs e y (same.from y h)))
      (λ e. contains_all f xs (λ x h. equal x ∙ all_contains g ys e x (same.to x h)))

  order_same : (key : X → Key) → IsKey key → (xs ys : List X) → SameMembers xs ys → in_order key xs ≡ in_order key ys
  order_same key is_key xs ys same = ascending_one key (in_order key xs) (in_order key ys) (in_order-ascends key xs) (in_order-ascends key ys)
      (λ z h. in_order-contains key is_key ys z (same.to z (contains-in_order key xs z h)))
      (λ z h. in_order-contains key is_key xs z (same.from z (contains-in_order key ys z h)))

  nothing_same : (xs ys : List X) → SameMembers xs ys → xs ≡ [] → ys ≡ []
  nothing_same xs [] same e = refl
  nothing_same xs (y ∷ ys) same e = absurd (contains_nothing y (subst (λ l. Contains l y) e (same.from y (contains_first y ys))))

map_members : {X Y : Type 0} (f : X → List Y) (xs ys : List X) → SameMembers xs ys → SameMembers (flat_map f xs) (flat_map f ys)
map_members f xs ys same = record {
  to = λ y h. (let r = contains-flat_map f xs y h in flat_map-contains f ys r.0 y (same.to r.0 r.1) r.2);
  from = λ y h. (let r = contains-flat_map f ys y h in flat_map-contains f xs r.0 y (same.from r.0 r.1) r.2);
}

filter_step_same : {X : Type 0} (x : X) (b c : Bool) (xs ys : List X) → b ≡ c → xs ≡ ys → cond b (x ∷ xs) xs ≡ cond c (x ∷ ys) ys
filter_step_same x b c xs ys e same = ap₂ (λ d (l : List _). cond d (x ∷ l) l) e same

filter_same : {X : Type 0} (f g : X → Bool) (xs : List X) → ((x : X) → f x ≡ g x) → filter f xs ≡ filter g xs
filter_same f g [] same = refl
filter_same f g (x ∷ xs) same = filter_step_same x (f x) (g x) (filter f xs) (filter g xs) (same x) (filter_same f g xs same)

-- edges with the same members have the same heights, ways and cycles
module _ (one other : Targets) (same : (i : Instance) → SameMembers (one i) (other i)) where
  within_same : (n : ℕ) (i : Instance) → is_within one n i ≡ is_within other n i
  within_same zero i = all_same (λ j. false) (λ j. false) (one i) (other i) (same i) (λ j. refl)
  within_same (suc n) i = all_same (is_within one n) (is_within other n) (one i) (other i) (same i) (within_same n)

  way_same : (n : ℕ) (i j : Instance) → has_way one n i j ≡ has_way other n i j
  way_same zero i j = refl
  way_same (suc n) i j = any_same (λ k. has_way one n k j) (λ k. has_way other n k j) (one i) (other i) (same i) (λ k. way_same n k j)

  pub height_to : (n : ℕ) (i : Instance) → HasHeight one n i → HasHeight other n i
  height_to n i height = record { within = sym (within_same n i) ∙ height.within; no_lower = λ m lower. sym (within_same m i) ∙ height.no_lower m lower }

  height_back : (n : ℕ) (i : Instance) → HasHeight other n i → HasHeight one n i
  height_back n i height = record { within = within_same n i ∙ height.within; no_lower = λ m lower. within_same m i ∙ height.no_lower m lower }

  pub by_height_to : (is : List Instance) → IsByHeight one is → IsByHeight other is
  by_height_to [] order = tt
  by_height_to (i ∷ is) order = ((λ j h m n height_i height_j. order.0 j h m n (height_back m i height_i) (height_back n j height_j)), by_height_to is order.1)

  on_cycle_to : (i : Instance) → IsOnCycle one i → IsOnCycle other i
  on_cycle_to i cycle = (cycle.0, sym (way_same (suc cycle.0) i i) ∙ cycle.1)

  on_cycle_back : (i : Instance) → IsOnCycle other i → IsOnCycle one i
  on_cycle_back i cycle = (cycle.0, way_same (suc cycle.0) i i ∙ cycle.1)

  from_to : (n : ℕ) (i j : Instance) → IsFrom one n i j → IsFrom other n i j
  from_to n i j from = record { way = sym (way_same n i j) ∙ from.way; no_shorter = λ m lower. sym (way_same m i j) ∙ from.no_shorter m lower }

  from_back : (n : ℕ) (i j : Instance) → IsFrom other n i j → IsFrom one n i j
  from_back n i j from = record { way = way_same n i j ∙ from.way; no_shorter = λ m lower. way_same m i j ∙ from.no_shorter m lower }

  next_to : (first i j : Instance) → IsNext one first i j → IsNext other first i j
  next_to first i j next = record {
    edge = (same i).to j next.edge;
    steps = next.steps;
    back = from_to next.steps j first next.back;
    best = λ k n edge from. next.best k n ((same i).from k edge) (from_back n k first from);
  }

  walks_to : (first i : Instance) (js : List Instance) → WalksOn one first i js → WalksOn other first i js
  walks_to first i [] walk = next_to first i first walk
  walks_to first i (j ∷ js) walk = (walk.0, next_to first i j walk.1, walks_to first j js walk.2)

  pub cycle_to : (instances walk : List Instance) → IsCycle one instances walk → IsCycle other instances walk
  cycle_to instances [] cycle = absurd cycle
  cycle_to instances (first ∷ rest) cycle = record {
    planned = cycle.planned;
    on_cycle = on_cycle_to first cycle.on_cycle;
    least = λ i h on. cycle.least i h (on_cycle_back i on);
    walk = walks_to first first rest cycle.walk;
  }

-- an order by heights is one list
module _ (targets : Targets) where
  heights_once : (i : Instance) (is : List Instance) → IsByHeight targets (i ∷ is) → (n : ℕ) → HasHeight targets n i → Contains is i → ⊥
  heights_once i is order n height h = before_itself ((n ∷ []) ∷ instance_key i) (order.0 i h n n height height)

  by_height_one : (xs ys : List Instance) → IsByHeight targets xs → IsByHeight targets ys → ((z : Instance) → Contains xs z → (m : ℕ) × HasHeight targets m z) → SameMembers xs ys → xs ≡ ys
  by_height_one [] [] a b heights same = refl
  by_height_one [] (y ∷ ys) a b heights same = absurd (contains_nothing y (same.from y (contains_first y ys)))
  by_height_one (x ∷ xs) [] a b heights same = absurd (contains_nothing x (same.to x (contains_first x xs)))
  by_height_one (x ∷ xs) (y ∷ ys) a b heights same =
      let head : x ≡ y = elim (contains_cases y x ys (same.to x (contains_first x xs))) [
        | inl e ↦ sym e
        | inr later_x ↦ elim (contains_cases x y xs (same.from y (contains_first y ys))) [
          | inl e ↦ e
          | inr later_y ↦ (
              let m = heights x (contains_first x xs) in
              let n = heights y (contains_later x y xs later_y) in
              absurd (before_both ((m.0 ∷ []) ∷ instance_key x) ((n.0 ∷ []) ∷ instance_key y) (a.0 y later_y m.0 n.0 m.1 n.1) (b.0 x later_x n.0 m.0 n.1 m.1))
              )
        ]
      ] in
      let h = heights x (contains_first x xs) in
      let tails : xs ≡ ys = by_height_one xs ys a.1 b.1 (λ z at. heights z (contains_later x z xs at)) (record {
        to = λ z at. elim (contains_cases y z ys (same.to z (contains_later x z xs at))) [ inl e ↦ absurd (heights_once x xs a h.0 h.1 (subst (Contains xs) (sym (head ∙ e)) at)) | inr later ↦ later ];
        from = λ z at. elim (contains_cases x z xs (same.from z (contains_later y z ys at))) [
          | inl e ↦ absurd (heights_once y ys b h.0 (subst (HasHeight targets h.0) head h.1) (subst (Contains ys) (sym (sym head ∙ e)) at))
          | inr later ↦ later
        ];
      }) in
      (cc)

pub places_same : {X : Type 0} (n : ℕ) (f g : X → Bool) (xs : List X) → ((x : X) → f x ≡ g x) → places_from n f xs ≡ places_from n g xs
places_same n f g [] same = refl
places_same n f g (x ∷ xs) same = ap₂ (λ b l. cond b (n ∷ l) l) (same x) (places_same (n + 1) f g xs same)

-- reasons with the same facts are one list
reasons_one : (inputs : Inputs) (facts : List Fact) (one other : List Reason) → facts_of one ≡ facts_of other → ((r : Reason) → Contains one r → cause_of inputs facts r.fact ≡ Some r.cause) → ((r : Reason) → Contains other r → cause_of inputs facts r.fact ≡ Some r.cause) → one ≡ other
reasons_one inputs facts [] [] e a b = refl
reasons_one inputs facts [] (r ∷ rs) e a b = (cc)
reasons_one inputs facts (r ∷ rs) [] e a b = (cc)
reasons_one inputs facts (r ∷ rs) (q ∷ qs) e a b =
    let fact : r.fact ≡ q.fact = (cc) in
    let rest : facts_of rs ≡ facts_of qs = (cc) in
    let told : Some r.cause ≡ Some q.cause = sym (a r (contains_first r rs)) ∙ ap (cause_of inputs facts) fact ∙ b q (contains_first q qs) in
    let cause : r.cause ≡ q.cause = (cc) in
    let head : r ≡ q = λ k. record { fact = fact k; cause = cause k } in
    let tail : rs ≡ qs = reasons_one inputs facts rs qs rest (λ x h. a x (contains_later r x rs h)) (λ x h. b x (contains_later q x qs h)) in
    (cc)

module _ (inputs : Inputs) (facts one other : List Fact) (same : SameMembers one other) where
  targets_same : (i : Instance) → SameMembers (targets_of inputs one i) (targets_of inputs other i)
  targets_same i = map_members (targets_at inputs i) one other same

  pub instances_same : instances_of one ≡ instances_of other
  instances_same = order_same instance_key instance_key-IsKey (flat_map needed_in one) (flat_map needed_in other) (map_members needed_in one other same)

  features_same : (i : Instance) → features_of one i ≡ features_of other i
  features_same i = order_same feature_key feature_key-IsKey (flat_map (feature_in i) one) (flat_map (feature_in i) other) (map_members (feature_in i) one other same)

  third_same : third_faults_of inputs facts one ≡ third_faults_of inputs facts other
  third_same = ap (flat_map (judged_on_line inputs facts)) (filter_same (is_among one) (is_among other) facts (λ x. any_same (same_fact x) (same_fact x) one other same (λ y. refl)))

  item_one : (order : List Instance) (k l : Item) → k.instance ≡ l.instance → IsItem inputs facts one order k → IsItem inputs facts other order l → k ≡ l
  item_one order k l e is is_other =
      let versions : Some k.version ≡ Some l.version = sym is.version ∙ ap (λ (i : Instance). chosen_of inputs facts i.port) e ∙ is_other.version in
      let version : k.version ≡ l.version = (cc) in
      let lines : Some k.line ≡ Some l.line = sym is.line ∙ ap₂ (λ (i : Instance) v. line_of facts (floor i.port (ask_of v))) e version ∙ is_other.line in
      let line : k.line ≡ l.line = (cc) in
      let features : k.features ≡ l.features = is.features ∙ ap (features_of one) e ∙ features_same l.instance ∙ sym is_other.features in
      let needs : k.needs ≡ l.needs =
      is.needs ∙ ap (λ i. places_from 0 (λ j. list_any (same_instance j) (targets_of inputs one i)) order) e
      ∙ places_same 0 (λ j. list_any (same_instance j) (targets_of inputs one l.instance)) (λ j. list_any (same_instance j) (targets_of inputs other l.instance)) order
      (λ j. any_same (same_instance j) (same_instance j) (targets_of inputs one l.instance) (targets_of inputs other l.instance) (targets_same l.instance) (λ m. refl))
      ∙ sym is_other.needs in
      λ t. record { instance = e t; version = version t; line = line t; features = features t; needs = needs t }

  pub items_one : (order : List Instance) (xs ys : List Item) → order_of xs ≡ order_of ys → ((k : Item) → Contains xs k → IsItem inputs facts one order k) → ((k : Item) → Contains ys k → IsItem inputs facts other order k) → xs ≡ ys
  items_one order [] [] e a b = refl
  items_one order [] (y ∷ ys) e a b = (cc)
  items_one order (x ∷ xs) [] e a b = (cc)
  items_one order (x ∷ xs) (y ∷ ys) e a b =
      let instance : x.instance ≡ y.instance = (cc) in
      let rest : order_of xs ≡ order_of ys = (cc) in
      let head : x ≡ y = item_one order x y instance (a x (contains_first x xs)) (b y (contains_first y ys)) in
      let tail : xs ≡ ys = items_one order xs ys rest (λ k h. a k (contains_later x k xs h)) (λ k h. b k (contains_later y k ys h)) in
      (cc)

  plan_one : (items more : List Item) → IsPlan inputs facts one items → IsPlan inputs facts other more → items ≡ more
  plan_one items more plan plan_other =
      let members : SameMembers (order_of items) (order_of more) = record {
        to = λ i h. (plan_other.all i).1 (subst (λ l. Contains l i) instances_same ((plan.all i).0 h));
        from = λ i h. (plan.all i).1 (subst (λ l. Contains l i) (sym instances_same) ((plan_other.all i).0 h));
      } in
      let order : order_of items ≡ order_of more = by_height_one (targets_of inputs one) (order_of items) (order_of more) plan.order
      (by_height_to (targets_of inputs other) (targets_of inputs one) (λ i. turned_members (targets_same i)) (order_of more) plan_other.order) plan.heights members in
      items_one (order_of items) items more order plan.each (λ k h. subst (λ l. IsItem inputs facts other l k) (sym order) (plan_other.each k h))

  no_cycle_with_plan : (items : List Item) (walk : List Instance) → IsPlan inputs facts one items → IsCycle (targets_of inputs other) (instances_of other) walk → ⊥
  no_cycle_with_plan items [] plan cycle = cycle
  no_cycle_with_plan items (first ∷ rest) plan cycle =
      let height = plan.heights first ((plan.all first).1 (subst (λ l. Contains l first) (sym instances_same) cycle.planned)) in
      heights_have_no_cycle (targets_of inputs one) height.0 first height.1 (on_cycle_to (targets_of inputs other) (targets_of inputs one) (λ i. turned_members (targets_same i)) first cycle.on_cycle)

pub planned_members : (inputs : Inputs) (facts one other : List Fact) → IsPlanned inputs facts one → IsPlanned inputs facts other → SameMembers one other
planned_members inputs facts one other is is_other = record { to = least_same (planned_rules_of inputs facts) one other is is_other; from = least_same (planned_rules_of inputs facts) other one is_other is }

module _ (inputs : Inputs) (bytes : Printing) (facts : List Fact) where
  refusal_one : (lines more : List Fault) → IsRefusal inputs bytes facts lines → IsRefusal inputs bytes facts more → lines ≡ more
  refusal_one lines more (by_first some is) (by_first some2 is2) = is ∙ sym is2
  refusal_one lines more (by_first some is) (by_second none some2 is2) = absurd (some none)
  refusal_one lines more (by_first some is) (by_third p none none2 is_p some2 is2) = absurd (some none)
  refusal_one lines more (by_first some is) (by_fourth p none none2 is_p none3 walk cycle is2) = absurd (some none)
  refusal_one lines more (by_second none some is) (by_first some2 is2) = absurd (some2 none)
  refusal_one lines more (by_second none some is) (by_second none2 some2 is2) = is ∙ sym is2
  refusal_one lines more (by_second none some is) (by_third p first second is_p some2 is2) = absurd (some second)
  refusal_one lines more (by_second none some is) (by_fourth p first second is_p third walk cycle is2) = absurd (some second)
  refusal_one lines more (by_third p first second is_p some is) (by_first some2 is2) = absurd (some2 first)
  refusal_one lines more (by_third p first second is_p some is) (by_second none some2 is2) = absurd (some2 second)
  refusal_one lines more (by_third p first second is_p some is) (by_third q first2 second2 is_q some2 is2) =
      is ∙ ap (lines_of bytes) (third_same inputs facts p q (planned_members inputs facts p q is_p is_q)) ∙ sym is2
  refusal_one lines more (by_third p first second is_p some is) (by_fourth q first2 second2 is_q third walk cycle is2) =
      absurd (some (third_same inputs facts p q (planned_members inputs facts p q is_p is_q) ∙ third))
  refusal_one lines more (by_fourth p first second is_p third walk cycle is) (by_first some2 is2) = absurd (some2 first)
  refusal_one lines more (by_fourth p first second is_p third walk cycle is) (by_second none some2 is2) = absurd (some2 second)
  refusal_one lines more (by_fourth p first second is_p third walk cycle is) (by_third q first2 second2 is_q some2 is2) =
      absurd (some2 (sym (third_same inputs facts p q (planned_members inputs facts p q is_p is_q)) ∙ third))
  refusal_one lines more (by_fourth p first second is_p third walk cycle is) (by_fourth q first2 second2 is_q third2 walk2 cycle2 is2) =
      let members = planned_members inputs facts p q is_p is_q in
      let moved : IsCycle (targets_of inputs p) (instances_of p) walk2 =
      subst (λ l. IsCycle (targets_of inputs p) l walk2) (sym (instances_same inputs facts p q members)) (cycle_to (targets_of inputs q) (targets_of inputs p) (λ i. turned_members (targets_same inputs facts p q members i)) (instances_of q) walk2 cycle2) in
      let walks : walk ≡ walk2 = cycle_is_one (targets_of inputs p) (instances_of p) walk walk2 cycle moved in
      is ∙ ap (λ w. has_cycle w ∷ []) walks ∙ sym is2

  agreed_or_refused : (items : List Item) (lines : List Fault) → IsAgreed inputs facts items → IsRefusal inputs bytes facts lines → ⊥
  agreed_or_refused items lines agreed (by_first some is) = some agreed.first
  agreed_or_refused items lines agreed (by_second none some is) = some agreed.second
  agreed_or_refused items lines agreed (by_third q first second is_q some is) =
      some (sym (third_same inputs facts agreed.planned q (planned_members inputs facts agreed.planned q agreed.is_planned is_q)) ∙ agreed.third)
  agreed_or_refused items lines agreed (by_fourth q first second is_q third walk cycle is) =
      no_cycle_with_plan inputs facts agreed.planned q (planned_members inputs facts agreed.planned q agreed.is_planned is_q) items walk agreed.plan cycle

  agreed_one : (items more : List Item) → IsAgreed inputs facts items → IsAgreed inputs facts more → items ≡ more
  agreed_one items more one other = plan_one inputs facts one.planned other.planned (planned_members inputs facts one.planned other.planned one.is_planned other.is_planned) items more one.plan other.plan

pub reasons_same : (inputs : Inputs) (one other : List Reason) → IsReasons inputs one → IsReasons inputs other → one ≡ other
reasons_same inputs one other is is_other =
    let facts : facts_of one ≡ facts_of other = least_in_order_one (rules_of inputs) fact_key fact_key-IsKey (facts_of one) (facts_of other) is.facts is_other.facts in
    reasons_one inputs (facts_of one) one other facts is.causes (λ r h. ap (λ l. cause_of inputs l r.fact) facts ∙ is_other.causes r h)

pub outcome_is_one : OutcomeIsOne
outcome_is_one inputs bytes (planned items reasons) (planned more others) one other =
    let same : reasons ≡ others = reasons_same inputs reasons others one.0 other.0 in
    let plans : items ≡ more = agreed_one inputs bytes (facts_of reasons) items more one.1 (subst (λ l. IsAgreed inputs (facts_of l) more) (sym same) other.1) in
    ap₂ planned plans same
outcome_is_one inputs bytes (planned items reasons) (refused lines others) one other =
    let same : reasons ≡ others = reasons_same inputs reasons others one.0 other.0 in
    absurd (agreed_or_refused inputs bytes (facts_of reasons) items lines one.1 (subst (λ l. IsRefusal inputs bytes (facts_of l) lines) (sym same) other.1))
outcome_is_one inputs bytes (refused lines reasons) (planned items others) one other =
    let same : reasons ≡ others = reasons_same inputs reasons others one.0 other.0 in
    absurd (agreed_or_refused inputs bytes (facts_of others) items lines other.1 (subst (λ l. IsRefusal inputs bytes (facts_of l) lines) same one.1))
outcome_is_one inputs bytes (refused lines reasons) (refused more others) one other =
    let same : reasons ≡ others = reasons_same inputs reasons others one.0 other.0 in
    let told : lines ≡ more = refusal_one inputs bytes (facts_of reasons) lines more one.1 (subst (λ l. IsRefusal inputs bytes (facts_of l) more) (sym same) other.1) in
    ap₂ refused told same

-- what is put in order by what it prints prints what is in order
map_put : {X Y : Type 0} (f : X → Y) (o : Ordering) (x y : X) (ys later : List X) → map f (put_by o x y ys later) ≡ put_by o (f x) (f y) (map f ys) (map f later)
map_put f Less x y ys later = refl
map_put f Equal x y ys later = refl
map_put f Greater x y ys later = refl

map_put_in : {X Y : Type 0} (f : X → Y) (key : Y → Key) (x : X) (ys : List X) → map f (put_in (λ z. key (f z)) x ys) ≡ put_in key (f x) (map f ys)
map_put_in f key x [] = refl
map_put_in f key x (y ∷ ys) =
    map_put f (key_cmp (key (f x)) (key (f y))) x y ys (put_in (λ z. key (f z)) x ys)
    ∙ ap (put_by (key_cmp (key (f x)) (key (f y))) (f x) (f y) (map f ys)) (map_put_in f key x ys)

map_in_order : {X Y : Type 0} (f : X → Y) (key : Y → Key) (xs : List X) → map f (in_order (λ z. key (f z)) xs) ≡ in_order key (map f xs)
map_in_order f key [] = refl
map_in_order f key (x ∷ xs) = map_put_in f key x (in_order (λ z. key (f z)) xs) ∙ ap (put_in key (f x)) (map_in_order f key xs)

text_key-IsKey : IsKey (λ (text : List ℕ). text ∷ [])
text_key-IsKey x y e = (cc)

pub lines_are_listed : LinesAreListed
lines_are_listed bytes faults = record {
  from = λ f h. contains-in_order (λ g. bytes g ∷ []) faults f h;
  printed = subst (IsListing (λ text. text ∷ []) (Contains (map bytes faults))) (sym (map_in_order bytes (λ text. text ∷ []) faults)) (in_order-IsListing (λ text. text ∷ []) text_key-IsKey (map bytes faults));
}

pub keys_are_ordered : KeysAreOrdered
keys_are_ordered = record {
  total = path_total;
  ties = path_same;
  facts = fact_key-IsKey;
  instances = instance_key-IsKey;
  features = feature_key-IsKey;
  bytes_first = refl;
}

pub height_order_is_one : HeightOrderIsOne
height_order_is_one targets one other a b heights to from = by_height_one targets one other a b heights (record { to = to; from = from })

-- where something stands that is among the first, and nothing stands twice
pub get_contains : {X : Type 0} (xs : List X) (n : ℕ) (x : X) → slice_get xs n ≡ Some x → Contains xs x
get_contains [] n x e = (cc)
get_contains (y ∷ ys) zero x e = let same : y ≡ x = (cc) in subst (Contains (y ∷ ys)) same (contains_first y ys)
get_contains (y ∷ ys) (suc n) x e = contains_later y x ys (get_contains ys n x e)

place_below : {X : Type 0} (before rest : List X) (n : ℕ) (x : X) → NoRepeats (before ++ rest) → slice_get (before ++ rest) n ≡ Some x → Contains before x → n < length before
place_below [] rest n x distinct e h = absurd (contains_nothing x h)
place_below (y ∷ ys) rest zero x distinct e h = omega arith
place_below (y ∷ ys) rest (suc n) x distinct e h =
    let later : Contains ys x = elim (contains_cases y x ys h) [ inl same ↦ absurd (distinct.0 (subst (Contains (ys ++ rest)) (sym same) (get_contains (ys ++ rest) n x e))) | inr in_ys ↦ in_ys ] in
    let below : n < length ys = place_below ys rest n x distinct.1 e later in
    omega arith

-- a place that passes
place_step : {X : Type 0} (m n : ℕ) (test : X → Bool) (x : X) (xs : List X) (b : Bool) → test x ≡ b → (Contains (places_from (m + 1) test xs) n → (k : ℕ) × (y : X) × (n ≡ (m + 1) + k) × (slice_get xs k ≡ Some y) × (test y ≡ true))
    → Contains (cond b (m ∷ places_from (m + 1) test xs) (places_from (m + 1) test xs)) n → (k : ℕ) × (y : X) × (n ≡ m + k) × (slice_get (x ∷ xs) k ≡ Some y) × (test y ≡ true)
place_step m n test x xs true e rest h =
    elim (contains_cases m n (places_from (m + 1) test xs) h) [
      | inl same ↦ (0, x, (let p : n ≡ m + 0 = omega arith in p), refl, e)
      | inr later ↦ (let r = rest later in (suc r.0, r.1, (let p : n ≡ (m + 1) + r.0 = r.2 in let q : n ≡ m + suc r.0 = omega arith in q), r.3, r.4))
    ]
place_step m n test x xs false e rest h = let r = rest h in (suc r.0, r.1, (let p : n ≡ (m + 1) + r.0 = r.2 in let q : n ≡ m + suc r.0 = omega arith in q), r.3, r.4)

pub place_passes : {X : Type 0} (m n : ℕ) (test : X → Bool) (xs : List X) → Contains (places_from m test xs) n → (k : ℕ) × (y : X) × (n ≡ m + k) × (slice_get xs k ≡ Some y) × (test y ≡ true)
place_passes m n test [] h = absurd (contains_nothing n h)
place_passes m n test (x ∷ xs) h = place_step m n test x xs (test x) refl (place_passes (m + 1) n test xs) h

by_height_distinct : (targets : Targets) (is : List Instance) → IsByHeight targets is → ((i : Instance) → Contains is i → (n : ℕ) × HasHeight targets n i) → NoRepeats is
by_height_distinct targets [] order heights = tt
by_height_distinct targets (i ∷ is) order heights =
    let h = heights i (contains_first i is) in
    (heights_once targets i is order h.0 h.1, by_height_distinct targets is order.1 (λ j at. heights j (contains_later i j is at)))

order_split : (before after : List Item) (item : Item) → order_of (before ++ item ∷ after) ≡ order_of before ++ item.instance ∷ order_of after
order_split [] after item = refl
order_split (x ∷ before) after item = ap (λ l. x.instance ∷ l) (order_split before after item)

order_long : (items : List Item) → length (order_of items) ≡ length items
order_long [] = refl
order_long (x ∷ items) = ap suc (order_long items)

-- in a plan that is split at an item, the places that it needs are in front
needs_before : (inputs : Inputs) (facts chosen : List Fact) (before after : List Item) (item : Item) → IsPlan inputs facts chosen (before ++ item ∷ after) → (n : ℕ) → Contains item.needs n → n < length before
needs_before inputs facts chosen before after item plan n h =
    let targets : Targets = targets_of inputs chosen in
    let order : List Instance = order_of (before ++ item ∷ after) in
    let split : order ≡ order_of before ++ item.instance ∷ order_of after = order_split before after item in
    let at : Contains (before ++ item ∷ after) item = Contains-append_right before (item ∷ after) item (contains_first item after) in
    let is = plan.each item at in
    let place = place_passes 0 n (λ j. list_any (same_instance j) (targets item.instance)) order (subst (λ l. Contains l n) is.needs h) in
    let k : ℕ = place.0 in
    let j : Instance = place.1 in
    let same : n ≡ k = let p : n ≡ 0 + k = place.2 in omega arith in
    let target = any_contains (same_instance j) (targets item.instance) place.4 in
    let edge : Contains (targets item.instance) j = subst (Contains (targets item.instance)) (sym ((same_instance-Decides j target.0).0 target.2)) target.1 in
    let there : slice_get (order_of before ++ item.instance ∷ order_of after) k ≡ Some j = subst (λ l. slice_get l k ≡ Some j) split place.3 in
    let heights : (i : Instance) → Contains (order_of before ++ item.instance ∷ order_of after) i → (m : ℕ) × HasHeight targets m i = λ i in_order. plan.heights i (subst (λ l. Contains l i) (sym split) in_order) in
    let sorted : IsByHeight targets (order_of before ++ item.instance ∷ order_of after) = subst (IsByHeight targets) split plan.order in
    let in_front : Contains (order_of before) j = targets_stand_before targets (order_of before) (order_of after) item.instance j sorted heights (get_contains (order_of before ++ item.instance ∷ order_of after) k j there) edge in
    let below : k < length (order_of before) = place_below (order_of before) (item.instance ∷ order_of after) k j (by_height_distinct targets (order_of before ++ item.instance ∷ order_of after) sorted heights) there in_front in
    let long : length (order_of before) ≡ length before = order_long before in
    omega arith

pub needs_are_before : NeedsAreBefore
needs_are_before inputs facts chosen is_planned items plan before after item split n h = needs_before inputs facts chosen before after item (subst (IsPlan inputs facts chosen) split plan) n h
