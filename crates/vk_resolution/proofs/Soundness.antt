-- What is computed is what the definitions say.
use Rattle.std.proofs.Common.{◌≡◌, ◌≢◌, ◌<◌, ◌≤◌, ◌⊎◌, ℕ, zero, suc, ◌+◌, ◌-◌, Bool, true, false, cond, List, [], ◌∷◌, map, inl, inr, refl, ap, sym, ◌∙◌, subst, arith}
use Rattle.std.specs.Prelude.{Option, Some, None, option_map, option_and_then, filter_map}
use Rattle.std.specs.declared.cmp.Ordering.TheVariants.{Less, Equal, Greater}
use Rattle.std.specs.Cmp.{tied_itself}
use Rattle.std.specs.List.{Contains, list_any}
use Rattle.vk_spec.specs.Lists.{IsWithin}
use Rattle.vk_spec.proofs.ListLemmas.{contains_nothing, contains_first, contains_later, contains_cases}
use Rattle.vk_spec.proofs.FileLemmas.{path_total}
use Rattle.vk_spec.specs.Versions.{Version, ask_of}
use Rattle.vk_spec.specs.Settings.{Instance}
use Rattle.vk_resolution.specs.Keys.{Key, key_cmp, IsKey, Ascends, in_order}
use Rattle.vk_resolution.specs.Least.{Rules, IsLeastInOrder}
use Rattle.vk_resolution.specs.Settings.{same_instance}
use Rattle.vk_resolution.specs.Asking.{Fact, floor, fact_key}
use Rattle.vk_resolution.specs.Consequences.{Inputs, rules_of}
use Rattle.vk_resolution.specs.Choices.{chosen_of}
use Rattle.vk_resolution.specs.Reasons.{Reason, facts_of, cause_of, line_of, IsReasons}
use Rattle.vk_resolution.specs.Planning.{instance_key, instances_of, targets_of, is_within, HasHeight, features_of, places_from, Item, IsItem, IsByHeight, order_of, IsPlan, has_way, IsOnCycle, IsFrom, IsNext, WalksOn}
use Rattle.vk_resolution.specs.Computed.{is_nothing, new_from, round, if_closed, all_some, reasons_by, least_from, Numbered, numbered_key, with_height, order_by, item_by, with_way, head_of, next_by, walk_by}
use Rattle.vk_resolution.proofs.Members.{any_contains, all_contains, contains_map, map_contains, contains-filter_map, filter_map-contains, true_false}
use Rattle.vk_resolution.proofs.Orders.{contains-in_order, in_order-contains, in_order-ascends}
use Rattle.vk_resolution.proofs.Rounds.{is_nothing-nil, round_least}
use Rattle.vk_resolution.proofs.Levels.{number_before}
use Rattle.vk_resolution.proofs.FactLemmas.{instance_key-IsKey, same_instance-Decides}

-- an answer that comes through an optional value
pub then_some : {A B : Type 0} (f : A → Option B) (o : Option A) (y : B) → option_and_then f o ≡ Some y → (x : A) × (o ≡ Some x) × (f x ≡ Some y)
then_some f None y e = (cc)
then_some f (Some x) y e = (x, refl, e)

pub map_some : {A B : Type 0} (f : A → B) (o : Option A) (y : B) → option_map f o ≡ Some y → (x : A) × (o ≡ Some x) × (f x ≡ y)
map_some f None y e = (cc)
map_some f (Some x) y e = let same : f x ≡ y = (cc) in (x, refl, same)

pub nothing_is : {X : Type 0} (xs : List X) → is_nothing xs ≡ false → xs ≢ []
nothing_is [] e = (cc)
nothing_is (x ∷ xs) e = λ h. (cc)

closed_step : {X : Type 0} (facts found : List X) (b : Bool) → cond b (Some facts) None ≡ Some found → (b ≡ true) × (facts ≡ found)
closed_step facts found true e = let same : facts ≡ found = (cc) in (refl, same)
closed_step facts found false e = (cc)

-- a round that is closed is the least list in its order
pub closed_round : {X : Type 0} (rules : Rules X) (key : X → Key) → IsKey key → (n : ℕ) (facts : List X) → if_closed rules key (round rules key n) ≡ Some facts → IsLeastInOrder rules key facts
closed_round rules key is_key n facts e =
    let r = closed_step (round rules key n) facts (is_nothing (new_from rules key (round rules key n))) e in
    subst (IsLeastInOrder rules key) r.1 (round_least rules key is_key n (is_nothing-nil (new_from rules key (round rules key n)) r.0))

module _ {X Y : Type 0} (f : X → Option Y) where
  pub record FirstSome (x : X) (xs : List X) (zs : List Y) : Type 0 where
    pub head : Y
    pub tail : List Y
    pub is_head : f x ≡ Some head
    pub is_tail : all_some f xs ≡ Some tail
    pub is : zs ≡ head ∷ tail

  pub first_some : (x : X) (xs : List X) (zs : List Y) → all_some f (x ∷ xs) ≡ Some zs → FirstSome x xs zs
  first_some x xs zs e =
      let r = then_some (λ y. option_map (λ ys. y ∷ ys) (all_some f xs)) (f x) zs e in
      let q = map_some (λ ys. r.0 ∷ ys) (all_some f xs) zs r.2 in
      record { head = r.0; tail = q.0; is_head = r.1; is_tail = q.1; is = sym q.2 }

  pub some_from : (xs : List X) (zs : List Y) → all_some f xs ≡ Some zs → (y : Y) → Contains zs y → (x : X) × Contains xs x × (f x ≡ Some y)
  some_from [] zs e y h = let none : [] ≡ zs = (cc) in absurd (contains_nothing y (subst (λ l. Contains l y) (sym none) h))
  some_from (x ∷ xs) zs e y h =
      let p = first_some x xs zs e in
      elim (contains_cases p.head y p.tail (subst (λ l. Contains l y) p.is h)) [
        | inl same ↦ (x, contains_first x xs, p.is_head ∙ ap Some same)
        | inr later ↦ (let r = some_from xs p.tail p.is_tail y later in (r.0, contains_later x r.0 xs r.1, r.2))
      ]

  pub some_to : (xs : List X) (zs : List Y) → all_some f xs ≡ Some zs → (x : X) → Contains xs x → (y : Y) × Contains zs y × (f x ≡ Some y)
  some_to [] zs e x h = absurd (contains_nothing x h)
  some_to (z ∷ xs) zs e x h =
      let p = first_some z xs zs e in
      elim (contains_cases z x xs h) [
        | inl same ↦ (p.head, subst (λ l. Contains l p.head) (sym p.is) (contains_first p.head p.tail), ap f (sym same) ∙ p.is_head)
        | inr later ↦ (let r = some_to xs p.tail p.is_tail x later in (r.0, subst (λ l. Contains l r.0) (sym p.is) (contains_later p.head r.0 p.tail r.1), r.2))
      ]

  -- where each answer names what it is for, the answers are for the list
  pub some_map : (name : Y → X) → ((x : X) (y : Y) → f x ≡ Some y → name y ≡ x) → (xs : List X) (zs : List Y) → all_some f xs ≡ Some zs → map name zs ≡ xs
  some_map name names [] zs e = let none : [] ≡ zs = (cc) in ap (map name) (sym none)
  some_map name names (x ∷ xs) zs e =
      let p = first_some x xs zs e in
      let head : name p.head ≡ x = names x p.head p.is_head in
      let tail : map name p.tail ≡ xs = some_map name names xs p.tail p.is_tail in
      ap (map name) p.is ∙ ap (λ k. k ∷ map name p.tail) head ∙ ap (λ l. x ∷ l) tail

reason_of : (inputs : Inputs) (facts : List Fact) (x : Fact) (r : Reason) → option_map (λ c. record { fact = x; cause = c }) (cause_of inputs facts x) ≡ Some r → (r.fact ≡ x) × (cause_of inputs facts r.fact ≡ Some r.cause)
reason_of inputs facts x r e =
    let q = map_some (λ c. record { fact = x; cause = c }) (cause_of inputs facts x) r e in
    let same : r.fact ≡ x = ap (λ (k : Reason). k.fact) (sym q.2) in
    (same, ap (cause_of inputs facts) same ∙ q.1 ∙ ap Some (ap (λ (k : Reason). k.cause) q.2))

pub reasons_are : (inputs : Inputs) (facts : List Fact) (reasons : List Reason) → IsLeastInOrder (rules_of inputs) fact_key facts → reasons_by inputs facts ≡ Some reasons → (facts_of reasons ≡ facts) × IsReasons inputs reasons
reasons_are inputs facts reasons ordered e =
    let f : Fact → Option Reason = λ x. option_map (λ c. record { fact = x; cause = c }) (cause_of inputs facts x) in
    let same : facts_of reasons ≡ facts = some_map f (λ r. r.fact) (λ x r h. (reason_of inputs facts x r h).0) facts reasons e in (
      same,
      record {
        facts = subst (IsLeastInOrder (rules_of inputs) fact_key) (sym same) ordered;
        causes = λ r h. (
            let q = some_from f facts reasons e r h in
            subst (λ l. cause_of inputs l r.fact ≡ Some r.cause) (sym same) (reason_of inputs facts q.0 r q.2).1
            );
      },
    )

-- the least number that passes
pub record IsFirstPass (test : ℕ → Bool) (m k : ℕ) : Type 0 where
  pub passes : test k ≡ true
  pub from : m ≤ k
  pub before : (j : ℕ) → m ≤ j → j < k → test j ≡ false

first_step : (test : ℕ → Bool) (m n k : ℕ) (b : Bool) → test m ≡ b → (least_from (suc m) n test ≡ Some k → IsFirstPass test (suc m) k) → cond b (Some m) (least_from (suc m) n test) ≡ Some k → IsFirstPass test m k
first_step test m n k true e later h =
    let same : m ≡ k = (cc) in
    record { passes = subst (λ j. test j ≡ true) same e; from = omega arith; before = λ j above below. absurd (omega arith) }
first_step test m n k false e later h =
    let r = later h in
    let up : suc m ≤ k = r.from in
    record {
      passes = r.passes;
      from = omega arith;
      before = λ j above below. elim (same_or_above m j above) [ inl same ↦ subst (λ i. test i ≡ false) same e | inr more ↦ r.before j more below ];
    }
  where
    same_or_above : (a b : ℕ) → a ≤ b → (a ≡ b) ⊎ (suc a ≤ b)
    same_or_above a b h = grind arith

pub least_first : (test : ℕ → Bool) (m n k : ℕ) → least_from m n test ≡ Some k → IsFirstPass test m k
least_first test m zero k e = (cc)
least_first test m (suc n) k e = first_step test m n k (test m) refl (least_first test (suc m) n k) e

below_step : (test : ℕ → Bool) (m n k : ℕ) (b : Bool) → (least_from (suc m) n test ≡ Some k → k < suc m + n) → cond b (Some m) (least_from (suc m) n test) ≡ Some k → k < m + suc n
below_step test m n k true later e = let same : m ≡ k = (cc) in omega arith
below_step test m n k false later e = let r : k < suc m + n = later e in omega arith

pub least_below : (test : ℕ → Bool) (m n k : ℕ) → least_from m n test ≡ Some k → k < m + n
least_below test m zero k e = (cc)
least_below test m (suc n) k e = below_step test m n k (test m) (least_below test (suc m) n k) e

-- where none passes, none below the bound does
none_step : (test : ℕ → Bool) (m n : ℕ) (b : Bool) → test m ≡ b → (least_from (suc m) n test ≡ None → (j : ℕ) → suc m ≤ j → j < suc m + n → test j ≡ false) → cond b (Some m) (least_from (suc m) n test) ≡ None → (j : ℕ) → m ≤ j → j < m + suc n → test j ≡ false
none_step test m n true e later h j above below = (cc)
none_step test m n false e later h j above below =
    elim (same_or_above m j above) [ inl same ↦ subst (λ i. test i ≡ false) same e | inr more ↦ later h j more (omega arith) ]
  where
    same_or_above : (a b : ℕ) → a ≤ b → (a ≡ b) ⊎ (suc a ≤ b)
    same_or_above a b h = grind arith

pub least_none : (test : ℕ → Bool) (m n : ℕ) → least_from m n test ≡ None → (j : ℕ) → m ≤ j → j < m + n → test j ≡ false
least_none test m zero e j above below = absurd (omega arith)
least_none test m (suc n) e j above below = none_step test m n (test m) refl (least_none test (suc m) n) e j above below

pub numbered_key-IsKey : IsKey numbered_key
numbered_key-IsKey p q e =
    let a : p.0 ≡ q.0 = (cc) in
    let b : instance_key p.1 ≡ instance_key q.1 = (cc) in
    let c : p.1 ≡ q.1 = instance_key-IsKey p.1 q.1 b in
    λ k. (a k, c k)

-- an instance has at most one height
pub one_height : (targets : Instance → List Instance) (m n : ℕ) (i : Instance) → HasHeight targets m i → HasHeight targets n i → m ≡ n
one_height targets m n i one other =
    let not_less : m < n → ⊥ = λ lower. true_false (is_within targets m i) one.within (other.no_lower m lower) in
    let not_more : n < m → ⊥ = λ lower. true_false (is_within targets n i) other.within (one.no_lower n lower) in
    omega arith

module _ (targets : Instance → List Instance) where
  height_is : (n : ℕ) (i : Instance) (p : Numbered) → with_height targets n i ≡ Some p → (p.1 ≡ i) × HasHeight targets p.0 p.1
  height_is n i p e =
      let r = map_some (λ h. (h, i)) (least_from 0 n (λ h. is_within targets h i)) p e in
      let first = least_first (λ h. is_within targets h i) 0 n r.0 r.1 in
      let same : i ≡ p.1 = ap (λ (q : Numbered). q.1) r.2 in
      let number : r.0 ≡ p.0 = ap (λ (q : Numbered). q.0) r.2 in
      let has : HasHeight targets r.0 i = record { within = first.passes; no_lower = λ m lower. first.before m (omega arith) lower } in
      (sym same, subst (λ k. HasHeight targets k p.1) number (subst (HasHeight targets r.0) same has))

  pub by_height : (ps : List Numbered) → Ascends numbered_key ps → ((p : Numbered) → Contains ps p → HasHeight targets p.0 p.1) → IsByHeight targets (map (λ (p : Numbered). p.1) ps)
  by_height [] ascends each = tt
  by_height (p ∷ ps) ascends each = (
    (λ j h m n height_p height_j. (
        let q = contains_map (λ (k : Numbered). k.1) ps j h in
        let same_m : m ≡ p.0 = one_height targets m p.0 p.1 height_p (each p (contains_first p ps)) in
        let height_q : HasHeight targets q.0.0 j = subst (HasHeight targets q.0.0) q.2 (each q.0 (contains_later p q.0 ps q.1)) in
        let same_n : n ≡ q.0.0 = one_height targets n q.0.0 j height_j height_q in
        let before : key_cmp ((p.0 ∷ []) ∷ instance_key p.1) ((q.0.0 ∷ []) ∷ instance_key q.0.1) ≡ Less = ascends.0 q.0 q.1 in
        subst (λ k. key_cmp ((k ∷ []) ∷ instance_key p.1) ((n ∷ []) ∷ instance_key j) ≡ Less) (sym same_m)
        (subst (λ k. key_cmp ((p.0 ∷ []) ∷ instance_key p.1) ((k ∷ []) ∷ instance_key j) ≡ Less) (sym same_n)
        (subst (λ i. key_cmp ((p.0 ∷ []) ∷ instance_key p.1) ((q.0.0 ∷ []) ∷ instance_key i) ≡ Less) q.2 before))
        )),
    by_height ps ascends.1 (λ q h. each q (contains_later p q ps h)),
  )

  pub record IsOrder (instances order : List Instance) : Type 0 where
    pub to : IsWithin order instances
    pub from : IsWithin instances order
    pub heights : (i : Instance) → Contains order i → (n : ℕ) × HasHeight targets n i
    pub sorted : IsByHeight targets order

  pub order_is : (n : ℕ) (instances order : List Instance) → order_by targets n instances ≡ Some order → IsOrder instances order
  order_is n instances order e =
      let r = map_some (λ ps. map (λ (p : Numbered). p.1) (in_order numbered_key ps)) (all_some (with_height targets n) instances) order e in
      let ps : List Numbered = r.0 in
      let sorted : List Numbered = in_order numbered_key ps in
      let each : (p : Numbered) → Contains sorted p → (p.1 ≡ p.1) × HasHeight targets p.0 p.1 = λ p h. (
      let q = some_from (with_height targets n) instances ps r.1 p (contains-in_order numbered_key ps p h) in
      (refl, (height_is n q.0 p q.2).1)
      ) in
      subst (IsOrder instances) r.2 (record {
        to = λ i h. (
            let q = contains_map (λ (k : Numbered). k.1) sorted i h in
            let s = some_from (with_height targets n) instances ps r.1 q.0 (contains-in_order numbered_key ps q.0 q.1) in
            subst (Contains instances) (sym (height_is n s.0 q.0 s.2).0 ∙ q.2) s.1
            );
        from = λ i h. (
            let s = some_to (with_height targets n) instances ps r.1 i h in
            subst (Contains (map (λ (k : Numbered). k.1) sorted)) (height_is n i s.0 s.2).0 (map_contains (λ (k : Numbered). k.1) sorted s.0 (in_order-contains numbered_key numbered_key-IsKey ps s.0 s.1))
            );
        heights = λ i h. (
            let q = contains_map (λ (k : Numbered). k.1) sorted i h in
            (q.0.0, subst (HasHeight targets q.0.0) q.2 (each q.0 q.1).1)
            );
        sorted = by_height sorted (in_order-ascends numbered_key ps) (λ p h. (each p h).1);
      })

  -- from an instance within n, each way has at most n edges, and ends within what is left
  within_along : (m n : ℕ) (i j : Instance) → has_way targets m i j ≡ true → is_within targets n i ≡ true → (m ≤ n) × (is_within targets (n - m) j ≡ true)
  within_along zero n i j way within =
      let same : i ≡ j = (same_instance-Decides i j).0 way in
      let all : n - 0 ≡ n = omega arith in
      (omega arith, ap (λ k. is_within targets k j) all ∙ subst (λ k. is_within targets n k ≡ true) same within)
  within_along (suc m) zero i j way within =
      let r = any_contains (λ k. has_way targets m k j) (targets i) way in
      let clash : false ≡ true = all_contains (λ k. false) (targets i) within r.0 r.1 in
      (cc)
  within_along (suc m) (suc n) i j way within =
      let r = any_contains (λ k. has_way targets m k j) (targets i) way in
      let rest = within_along m n r.0 j r.2 (all_contains (is_within targets n) (targets i) within r.0 r.1) in
      let below : m ≤ n = rest.0 in
      let left : suc n - suc m ≡ n - m = omega arith in
      (omega arith, ap (λ k. is_within targets k j) left ∙ rest.1)

  no_cycle_below : (b n k : ℕ) (i : Instance) → n ≤ b → is_within targets n i ≡ true → has_way targets (suc k) i i ≡ true → ⊥
  no_cycle_below zero n k i bound within way =
      let r = within_along (suc k) n i i way within in
      let long : suc k ≤ n = r.0 in
      absurd (omega arith)
  no_cycle_below (suc b) n k i bound within way =
      let r = within_along (suc k) n i i way within in
      let long : suc k ≤ n = r.0 in
      no_cycle_below b (n - suc k) k i (omega arith) r.1 way

  -- an instance from which no way is long is on no cycle
  pub within_no_cycle : (n : ℕ) (i : Instance) → is_within targets n i ≡ true → IsOnCycle targets i → ⊥
  within_no_cycle n i within cycle = no_cycle_below n n cycle.0 i (omega arith) within cycle.1

  pub not_greater_less : (k l : Key) → key_cmp k l ≡ Less → key_cmp k l ≢ Greater
  not_greater_less k l e h = let clash : Less ≡ Greater = sym e ∙ h in (cc)

  pub not_greater_same : (k l : Key) → k ≡ l → key_cmp k l ≢ Greater
  not_greater_same k l e h =
      let tied : key_cmp k k ≡ Greater = ap (key_cmp k) e ∙ h in
      let clash : Equal ≡ Greater = sym (tied_itself path_total k) ∙ tied in
      (cc)

  -- the shortest way is one
  pub one_shortest : (m n : ℕ) (i j : Instance) → IsFrom targets m i j → IsFrom targets n i j → m ≡ n
  one_shortest m n i j one other =
      let not_less : m < n → ⊥ = λ lower. true_false (has_way targets m i j) one.way (other.no_shorter m lower) in
      let not_more : n < m → ⊥ = λ lower. true_false (has_way targets n i j) other.way (one.no_shorter n lower) in
      omega arith

  pub way_is : (n : ℕ) (first j : Instance) (p : Numbered) → with_way targets n first j ≡ Some p → (p.1 ≡ j) × IsFrom targets p.0 p.1 first × (p.0 < n)
  way_is n first j p e =
      let r = map_some (λ k. (k, j)) (least_from 0 n (λ k. has_way targets k j first)) p e in
      let passes = least_first (λ k. has_way targets k j first) 0 n r.0 r.1 in
      let below : r.0 < 0 + n = least_below (λ k. has_way targets k j first) 0 n r.0 r.1 in
      let same : j ≡ p.1 = ap (λ (q : Numbered). q.1) r.2 in
      let number : r.0 ≡ p.0 = ap (λ (q : Numbered). q.0) r.2 in
      let from : IsFrom targets r.0 j first = record { way = passes.passes; no_shorter = λ m lower. passes.before m (omega arith) lower } in
      (sym same, subst (λ k. IsFrom targets k p.1 first) number (subst (λ k. IsFrom targets r.0 k first) same from), omega arith)

  -- a target from which there is a way back is listed, unless its way is no shorter than n
  pub way_listed : (n m : ℕ) (first k : Instance) → IsFrom targets m k first → (with_way targets n first k ≡ Some (m, k)) ⊎ (n ≤ m)
  way_listed n m first k from = by_least (least_from 0 n (λ l. has_way targets l k first)) refl
    where
      below_or : (a b : ℕ) → (a < b) ⊎ (b ≤ a)
      below_or a b = grind arith

      by_least : (o : Option ℕ) → least_from 0 n (λ l. has_way targets l k first) ≡ o → (with_way targets n first k ≡ Some (m, k)) ⊎ (n ≤ m)
      by_least None e = elim (below_or m n) [
        | inl below ↦ absurd (true_false (has_way targets m k first) from.way (least_none (λ l. has_way targets l k first) 0 n e m (omega arith) (omega arith)))
        | inr above ↦ inr above
      ]
      by_least (Some l) e =
          let passes = least_first (λ j. has_way targets j k first) 0 n l e in
          let same : l ≡ m = one_shortest l m k first (record { way = passes.passes; no_shorter = λ j lower. passes.before j (omega arith) lower }) from in
          inl (ap (option_map (λ j. (j, k))) e ∙ ap (λ j. Some (j, k)) same)

  pub head_is : (ps : List Numbered) (p : Numbered) → Ascends numbered_key ps → head_of ps ≡ Some p → Contains ps p × ((q : Numbered) → Contains ps q → key_cmp (numbered_key p) (numbered_key q) ≢ Greater)
  head_is [] p ascends e = (cc)
  head_is (r ∷ ps) p ascends e =
      let same : r ≡ p = (cc) in (
        subst (Contains (r ∷ ps)) same (contains_first r ps),
        λ q h. elim (contains_cases r q ps h) [
          | inl here ↦ not_greater_same (numbered_key p) (numbered_key q) (ap numbered_key (sym same ∙ here))
          | inr later ↦ subst (λ k. key_cmp (numbered_key k) (numbered_key q) ≢ Greater) same (not_greater_less (numbered_key r) (numbered_key q) (ascends.0 q later))
        ],
      )

  pub next_is : (n : ℕ) (first i : Instance) (p : Numbered) → next_by targets n first i ≡ Some p → IsNext targets first i p.1
  next_is n first i p e =
      let ps : List Numbered = filter_map (with_way targets n first) (targets i) in
      let head = head_is (in_order numbered_key ps) p (in_order-ascends numbered_key ps) e in
      let from = contains-filter_map (with_way targets n first) (targets i) p (contains-in_order numbered_key ps p head.0) in
      let way = way_is n first from.0 p from.2 in
      let below : p.0 < n = way.2 in
      record {
        edge = subst (Contains (targets i)) (sym way.0) from.1;
        steps = p.0;
        back = way.1;
        best = λ k m edge is_from. elim (way_listed n m first k is_from) [
          | inl listed ↦ head.1 (m, k) (in_order-contains numbered_key numbered_key-IsKey ps (m, k) (filter_map-contains (with_way targets n first) (targets i) k (m, k) edge listed))
          | inr long ↦ not_greater_less ((p.0 ∷ []) ∷ instance_key p.1) ((m ∷ []) ∷ instance_key k) (number_before p.0 m (instance_key p.1) (instance_key k) (omega arith))
        ];
      }

  walk_step : (n : ℕ) (first i : Instance) (p : Numbered) (rest : Option (List Instance)) (js : List Instance) (b : Bool) → same_instance p.1 first ≡ b → IsNext targets first i p.1
      → ((ks : List Instance) → rest ≡ Some ks → WalksOn targets first p.1 ks) → cond b (Some []) (option_map (λ ks. p.1 ∷ ks) rest) ≡ Some js → WalksOn targets first i js
  walk_step n first i p rest js true e next later h =
      let same : p.1 ≡ first = (same_instance-Decides p.1 first).0 e in
      let none : [] ≡ js = (cc) in
      subst (WalksOn targets first i) none (subst (IsNext targets first i) same next)
  walk_step n first i p rest js false e next later h =
      let r = map_some (λ ks. p.1 ∷ ks) rest js h in
      subst (WalksOn targets first i) r.2 ((λ same. true_false (same_instance p.1 first) ((same_instance-Decides p.1 first).1 same) e), next, later r.0 r.1)

  pub walk_is : (n m : ℕ) (first i : Instance) (js : List Instance) → walk_by targets n first m i ≡ Some js → WalksOn targets first i js
  walk_is n zero first i js e = (cc)
  walk_is n (suc m) first i js e =
      let r = then_some (λ (p : Numbered). cond (same_instance p.1 first) (Some []) (option_map (λ ks. p.1 ∷ ks) (walk_by targets n first m p.1))) (next_by targets n first i) js e in
      walk_step n first i r.0 (walk_by targets n first m r.0.1) js (same_instance r.0.1 first) refl (next_is n first i r.0 r.1) (λ ks h. walk_is n m first r.0.1 ks h) r.2

pub item_is : (inputs : Inputs) (facts chosen : List Fact) (order : List Instance) (i : Instance) (item : Item) → item_by inputs facts chosen order i ≡ Some item → (item.instance ≡ i) × IsItem inputs facts chosen order item
item_is inputs facts chosen order i item e =
    let made : Version → ℕ → Item = λ v n. record { instance = i; version = v; line = n; features = features_of chosen i; needs = places_from 0 (λ j. list_any (same_instance j) (targets_of inputs chosen i)) order } in
    let r = then_some (λ v. option_map (made v) (line_of facts (floor i.port (ask_of v)))) (chosen_of inputs facts i.port) item e in
    let q = map_some (made r.0) (line_of facts (floor i.port (ask_of r.0))) item r.2 in
    subst (λ (k : Item). (k.instance ≡ i) × IsItem inputs facts chosen order k) q.2 (refl, record { version = r.1; line = q.1; features = refl; needs = refl })

pub plan_is : (inputs : Inputs) (n : ℕ) (facts chosen : List Fact) (order : List Instance) (items : List Item) → order_by (targets_of inputs chosen) n (instances_of chosen) ≡ Some order → all_some (item_by inputs facts chosen order) order ≡ Some items
    → IsPlan inputs facts chosen items
plan_is inputs n facts chosen order items ordered made =
    let is = order_is (targets_of inputs chosen) n (instances_of chosen) order ordered in
    let same : order_of items ≡ order = some_map (item_by inputs facts chosen order) (λ (k : Item). k.instance) (λ i item h. (item_is inputs facts chosen order i item h).0) order items made in
    record {
      all = λ i. ((λ h. is.to i (subst (λ l. Contains l i) same h)), λ h. subst (λ l. Contains l i) (sym same) (is.from i h));
      heights = λ i h. is.heights i (subst (λ l. Contains l i) same h);
      order = subst (IsByHeight (targets_of inputs chosen)) (sym same) is.sorted;
      each = λ item h. (
          let q = some_from (item_by inputs facts chosen order) order items made item h in
          subst (λ l. IsItem inputs facts chosen l item) (sym same) (item_is inputs facts chosen order q.0 item q.2).1
          );
    }

pub nothing_or : {X : Type 0} (xs : List X) → (xs ≡ []) ⊎ (xs ≢ [])
nothing_or [] = inl refl
nothing_or (x ∷ xs) = inr (λ e. (cc))
