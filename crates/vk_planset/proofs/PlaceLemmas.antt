-- Places in the order of instances, and what belongs to them.
use Rattle.std.proofs.Common.{◌≡◌, ◌<◌, ◌+◌, ◌==◌, ◌&&◌, ℕ, zero, suc, Bool, true, false, cond, not, List, [], ◌∷◌, length, map, get_or, inl, inr, refl, ap, ap₂, sym, ◌∙◌, subst, arith, zero-add}
use Rattle.std.specs.Prelude.{Option, Some, None, option_map, option_and_then, unwrap_or, slice_get, flat_map, nat_lt, position, bytes_eq}
use Rattle.std.specs.List.{Contains, position_or_len, list_any}
use Rattle.std.specs.declared.cmp.Ordering.TheVariants.{Less}
use Rattle.std.specs.Cmp.{nat_cmp_is}
use Rattle.std.proofs.lemmas.Bool.{lt-ltb}
use Rattle.std.proofs.lemmas.Bool.Decides.{Decides-eqb}
use Rattle.std.proofs.lemmas.List.Quantifiers.{position-Some}
use Rattle.std.proofs.lemmas.List.Sums.{position_or_len_is}
use Rattle.std.proofs.lemmas.Option.{slice_get-get_or, slice_get_within, get_or_from_slice_get}
use Rattle.vk_spec.specs.Lists.{NoRepeats}
use Rattle.vk_spec.specs.Manifests.{core, default}
use Rattle.vk_spec.specs.Settings.{Instance}
use Rattle.vk_spec.proofs.ListLemmas.{contains_nothing, contains_first, contains_later, contains_cases, contains-flat_map, flat_map-contains}
use Rattle.vk_resolution.specs.Keys.{key_cmp, Ascends, in_order}
use Rattle.vk_resolution.specs.Settings.{root, inst, same_instance}
use Rattle.vk_resolution.specs.Asking.{Fact, need, floor, visit}
use Rattle.vk_resolution.specs.Consequences.{Inputs}
use Rattle.vk_resolution.specs.Planning.{feature_key, feature_in, features_of, places_from, targets_of}
use Rattle.vk_resolution.proofs.Members.{contains_single, no_is_false, true_false, any_contains, contains_any}
use Rattle.vk_resolution.proofs.FactLemmas.{same_instance-Decides, feature_key-IsKey}
use Rattle.vk_resolution.proofs.Uniqueness.{get_contains, place_passes}
use Rattle.vk_planned.specs.Graphs.{IsGraph, asked_by_need}
use Rattle.vk_planset.specs.Members.{HaveSame, number_key}
use Rattle.vk_planset.specs.Places.{fitting, place_of, place_in, link, link_of}
use Rattle.vk_planset.specs.Seats.{at_place, at_given, at_link, listed, listed_in, feature_of, seated_features, seated_needs}
use Rattle.vk_planset.proofs.MemberLemmas.{order_one, ascending_is}
use Rattle.vk_planset.proofs.ListingLemmas.{number_order, number_key-IsKey}
use Rattle.vk_planset.proofs.LinkLemmas.{asked_target, target_asked}

some_is : {X : Type 0} (x y : X) → Some x ≡ Some y → x ≡ y
some_is x y e = ap (λ o. unwrap_or o x) e

-- ---- places of lists

pub one_place : {X : Type 0} (xs : List X) → NoRepeats xs → (m n : ℕ) (x : X) → slice_get xs m ≡ Some x → slice_get xs n ≡ Some x → m ≡ n
one_place [] distinct m n x a b = (cc)
one_place (y ∷ ys) distinct zero zero x a b = refl
one_place (y ∷ ys) distinct zero (suc n) x a b = absurd (distinct.0 (subst (Contains ys) (sym (some_is y x a)) (get_contains ys n x b)))
one_place (y ∷ ys) distinct (suc m) zero x a b = absurd (distinct.0 (subst (Contains ys) (sym (some_is y x b)) (get_contains ys m x a)))
one_place (y ∷ ys) distinct (suc m) (suc n) x a b = ap suc (one_place ys distinct.1 m n x a b)

pub place_of_member : {X : Type 0} (xs : List X) (x : X) → Contains xs x → (n : ℕ) × (slice_get xs n ≡ Some x)
place_of_member [] x h = absurd (contains_nothing x h)
place_of_member (y ∷ ys) x h = elim (contains_cases y x ys h) [
  | inl same ↦ (zero, ap Some same)
  | inr later ↦ (let r = place_of_member ys x later in (suc r.0, r.1))
]

slice_map : {X Y : Type 0} (f : X → Y) (xs : List X) (n : ℕ) → slice_get (map f xs) n ≡ option_map f (slice_get xs n)
slice_map f [] n = refl
slice_map f (x ∷ xs) zero = refl
slice_map f (x ∷ xs) (suc n) = slice_map f xs n

-- ---- places of needs

fit_by : (n p : ℕ) (b : Bool) → cond b (Some n) None ≡ Some p → Some n ≡ Some p
fit_by n p true e = e
fit_by n p false e = (cc)

fit_is : (o : Option ℕ) (p : ℕ) → option_and_then fitting o ≡ Some p → o ≡ Some p
fit_is None p e = (cc)
fit_is (Some n) p e = fit_by n p (nat_lt n 4294967296) e

-- a need of an instance that stands at a place
pub record IsAt (order : List Instance) (x : Fact) (p : ℕ) : Type 0 where
  pub instance : Instance
  pub feature : List ℕ
  pub is : x ≡ need (inst instance) feature
  pub at : slice_get order p ≡ Some instance

pub place_is : (order : List Instance) (x : Fact) (p : ℕ) → place_of order x ≡ Some p → IsAt order x p
place_is order (need (root t) f) p e = (cc)
place_is order (need (inst i) f) p e =
    let r = position-Some (same_instance i) order p i (fit_is (position (same_instance i) order) p e) in
    let same : i ≡ get_or order p i = (same_instance-Decides i (get_or order p i)).0 r.1 in
    record { instance = i; feature = f; is = refl; at = slice_get-get_or order p i r.0 ∙ ap Some (sym same) }
place_is order (floor q a) p e = (cc)
place_is order (visit i f a) p e = (cc)

place_there : (order : List Instance) → NoRepeats order → length order < 4294967296 → (p : ℕ) (i : Instance) (f : List ℕ) → slice_get order p ≡ Some i → place_of order (need (inst i) f) ≡ Some p
place_there order distinct small p i f at =
    let within : p < length order = slice_get_within order p i at in
    let found : position_or_len (same_instance i) order ≡ p =
    position_or_len_is (same_instance i) order p i (omega (arith, within))
    (λ k below. no_is_false (same_instance i (get_or order k i)) (λ h. (
    let there : slice_get order k ≡ Some i = slice_get-get_or order k i (omega (arith, within, below)) ∙ ap Some (sym ((same_instance-Decides i (get_or order k i)).0 h)) in
    let same : k ≡ p = one_place order distinct k p i there at in
    absurd (omega (arith, same, below))
    )))
    (λ h. (same_instance-Decides i (get_or order p i)).1 (sym (get_or_from_slice_get order p i i at))) in
    ap (λ n. option_and_then fitting (cond (nat_lt n (length order)) (Some n) None)) found
    ∙ ap (λ b. option_and_then fitting (cond b (Some p) None)) (lt-ltb p (length order) within)
    ∙ ap (λ b. cond b (Some p) None) (lt-ltb p 4294967296 (omega (arith, within, small)))

table_by : (order : List Instance) (p : ℕ) (o : Option Fact) → place_in (option_map (place_of order) o) ≡ Some p → (x : Fact) × (o ≡ Some x) × (place_of order x ≡ Some p)
table_by order p None e = (cc)
table_by order p (Some x) e = (x, refl, e)

table_is : (order : List Instance) (needs : List Fact) (n p : ℕ) → place_in (slice_get (map (place_of order) needs) n) ≡ Some p → (x : Fact) × (slice_get needs n ≡ Some x) × (place_of order x ≡ Some p)
table_is order needs n p e = table_by order p (slice_get needs n) (ap place_in (sym (slice_map (place_of order) needs n)) ∙ e)

table_there : (order : List Instance) (needs : List Fact) (n p : ℕ) (x : Fact) → slice_get needs n ≡ Some x → place_of order x ≡ Some p → place_in (slice_get (map (place_of order) needs) n) ≡ Some p
table_there order needs n p x at e = ap place_in (slice_map (place_of order) needs n) ∙ ap (λ o. place_in (option_map (place_of order) o)) at ∙ e

-- ---- links

link_by : (m n p q : ℕ) (b : Bool) → (m == n) ≡ b → cond {A = Option (ℕ × ℕ)} b None (Some (m, n)) ≡ Some (p, q) → (Some m ≡ Some p) × (Some n ≡ Some q) × (p ≡ q → ⊥)
link_by m n p q true at e = (cc)
link_by m n p q false at e =
    let one : m ≡ p = ap (λ (o : Option (ℕ × ℕ)). (unwrap_or {T = ℕ × ℕ} o (m, n)).0) e in
    let other : n ≡ q = ap (λ (o : Option (ℕ × ℕ)). (unwrap_or {T = ℕ × ℕ} o (m, n)).1) e in
    (ap Some one, ap Some other, λ same. true_false (m == n) ((Decides-eqb m n).1 (one ∙ same ∙ sym other)) at)

link_is : (a b : Option ℕ) (p q : ℕ) → link a b ≡ Some (p, q) → (a ≡ Some p) × (b ≡ Some q) × (p ≡ q → ⊥)
link_is None b p q e = (cc)
link_is (Some m) None p q e = (cc)
link_is (Some m) (Some n) p q e = link_by m n p q (m == n) refl e

link_there : (a b : Option ℕ) (p q : ℕ) → a ≡ Some p → b ≡ Some q → (p ≡ q → ⊥) → link a b ≡ Some (p, q)
link_there a b p q one two other = ap₂ link one two ∙ ap (λ c. cond {A = Option (ℕ × ℕ)} c None (Some (p, q))) (no_is_false (p == q) (λ h. other ((Decides-eqb p q).0 h)))

at_link_by : (p q : ℕ) (pair : ℕ × ℕ) (b : Bool) → (p == pair.0) ≡ b → Contains (cond b (pair.1 ∷ []) []) q → Some pair ≡ Some (p, q)
at_link_by p q pair true at h = ap₂ (λ (m : ℕ) (n : ℕ). Some (m, n)) (sym ((Decides-eqb p pair.0).0 at)) (contains_single pair.1 q h)
at_link_by p q pair false at h = absurd (contains_nothing q h)

at_link_is : (p q : ℕ) (o : Option (ℕ × ℕ)) → Contains (at_link p o) q → o ≡ Some (p, q)
at_link_is p q None h = absurd (contains_nothing q h)
at_link_is p q (Some pair) h = at_link_by p q pair (p == pair.0) refl h

here : {X : Type 0} (p : ℕ) (xs : List X) (x : X) → Contains xs x → Contains (at_place p p xs) x
here p xs x h = subst (λ b. Contains (cond b xs []) x) (sym ((Decides-eqb p p).1 refl)) h

at_link_there : (p q : ℕ) (o : Option (ℕ × ℕ)) → o ≡ Some (p, q) → Contains (at_link p o) q
at_link_there p q o e = subst (λ o. Contains (at_link p o) q) (sym e) (here p (q ∷ []) q (contains_first q []))

-- an edge that leads from one place to another
pub record IsLinked (order : List Instance) (needs : List Fact) (edges : List (ℕ × ℕ)) (p q : ℕ) : Type 0 where
  pub m : ℕ
  pub n : ℕ
  pub x : Fact
  pub y : Fact
  pub edge : Contains edges (m, n)
  pub one : slice_get needs m ≡ Some x
  pub two : slice_get needs n ≡ Some y
  pub from : place_of order x ≡ Some p
  pub to : place_of order y ≡ Some q
  pub other : p ≡ q → ⊥

pub linked_is : (order : List Instance) (needs : List Fact) (edges : List (ℕ × ℕ)) (p q : ℕ) → Contains (seated_needs (map (place_of order) needs) edges p) q → IsLinked order needs edges p q
linked_is order needs edges p q h =
    let places : List (Option ℕ) = map (place_of order) needs in
    let r = contains-flat_map (λ e. at_link p (link_of places e)) edges q h in
    let l = link_is (place_in (slice_get places r.0.0)) (place_in (slice_get places r.0.1)) p q (at_link_is p q (link_of places r.0) r.2) in
    let a = table_is order needs r.0.0 p l.0 in
    let b = table_is order needs r.0.1 q l.1 in
    record { m = r.0.0; n = r.0.1; x = a.0; y = b.0; edge = r.1; one = a.1; two = b.1; from = a.2; to = b.2; other = l.2 }

-- ---- features and needs of a place, as they are planned

given_by : {X : Type 0} (p m : ℕ) (xs : List X) (x : X) (b : Bool) → (p == m) ≡ b → Contains (cond b xs []) x → (m ≡ p) × Contains xs x
given_by p m xs x true at h = (sym ((Decides-eqb p m).0 at), h)
given_by p m xs x false at h = absurd (contains_nothing x h)

given_is : {X : Type 0} (p : ℕ) (o : Option ℕ) (xs : List X) (x : X) → Contains (at_given p o xs) x → (o ≡ Some p) × Contains xs x
given_is p None xs x h = absurd (contains_nothing x h)
given_is p (Some m) xs x h = let r = given_by p m xs x (p == m) refl h in (ap Some r.0, r.1)

listed_by : (i : Instance) (g f : List ℕ) (b : Bool) → Contains (cond b [] (g ∷ [])) f → Contains (cond (same_instance i i && not b) (g ∷ []) []) f
listed_by i g f true h = absurd (contains_nothing f h)
listed_by i g f false h = subst (λ c. Contains (cond (c && true) (g ∷ []) []) f) (sym ((same_instance-Decides i i).1 refl)) h

in_by : (i j : Instance) (g f : List ℕ) (a b : Bool) → same_instance j i ≡ a → Contains (cond (a && not b) (g ∷ []) []) f → (j ≡ i) × Contains (cond b [] (g ∷ [])) f
in_by i j g f true true at h = absurd (contains_nothing f h)
in_by i j g f true false at h = ((same_instance-Decides j i).0 at, h)
in_by i j g f false b at h = absurd (contains_nothing f h)

record NeedsFeature (i : Instance) (x : Fact) (f : List ℕ) : Type 0 where
  pub feature : List ℕ
  pub is : x ≡ need (inst i) feature
  pub named : Contains (listed feature) f

feature_is : (i : Instance) (x : Fact) (f : List ℕ) → Contains (feature_in i x) f → NeedsFeature i x f
feature_is i (need (root t) g) f h = absurd (contains_nothing f h)
feature_is i (need (inst j) g) f h =
    let r = in_by i j g f (same_instance j i) (bytes_eq g default) refl h in
    record { feature = g; is = ap (λ k. need (inst k) g) r.0; named = r.1 }
feature_is i (floor p a) f h = absurd (contains_nothing f h)
feature_is i (visit j g a) f h = absurd (contains_nothing f h)

number_less : (m n : ℕ) → m < n → key_cmp (number_key m) (number_key n) ≡ Less
number_less m n h = number_order m n ∙ sym (nat_cmp_is m n Less h)

places_ascend : {X : Type 0} (m : ℕ) (test : X → Bool) (xs : List X) → Ascends number_key (places_from m test xs)
places_ascend m test [] = tt
places_ascend m test (x ∷ xs) = by (test x) (places_ascend (m + 1) test xs)
  where
    by : (b : Bool) → Ascends number_key (places_from (m + 1) test xs) → Ascends number_key (cond b (m ∷ places_from (m + 1) test xs) (places_from (m + 1) test xs))
    by true rest = ((λ n h. (let r = place_passes (m + 1) n test xs h in number_less m n (omega (arith, r.2)))), rest)
    by false rest = rest

listed_first : (b : Bool) (m : ℕ) (rest : List ℕ) → b ≡ true → Contains (cond b (m ∷ rest) rest) m
listed_first true m rest e = contains_first m rest
listed_first false m rest e = (cc)

listed_later : (b : Bool) (m n : ℕ) (rest : List ℕ) → Contains rest n → Contains (cond b (m ∷ rest) rest) n
listed_later true m n rest h = contains_later m n rest h
listed_later false m n rest h = h

place_listed : {X : Type 0} (m k : ℕ) (test : X → Bool) (xs : List X) (y : X) → slice_get xs k ≡ Some y → test y ≡ true → Contains (places_from m test xs) (m + k)
place_listed m k test [] y at e = (cc)
place_listed m zero test (x ∷ xs) y at e =
    let same : m ≡ m + 0 = omega arith in
    subst (Contains (places_from m test (x ∷ xs))) same (listed_first (test x) m (places_from (m + 1) test xs) (ap test (some_is x y at) ∙ e))
place_listed m (suc k) test (x ∷ xs) y at e =
    let same : (m + 1) + k ≡ m + suc k = omega arith in
    listed_later (test x) m (m + suc k) (places_from (m + 1) test xs) (subst (Contains (places_from (m + 1) test xs)) same (place_listed (m + 1) k test xs y at e))

module _ (inputs : Inputs) (facts planned needs : List Fact) (edges : List (ℕ × ℕ)) (graph : IsGraph inputs facts planned needs edges) (order : List Instance) (distinct : NoRepeats order) (small : length order < 4294967296) (p : ℕ) (i : Instance) (at : slice_get order p ≡ Some i) where
  -- the features of a place are those that are planned of its instance
  features_same : HaveSame (seated_features order needs p) (flat_map (feature_in i) planned)
  features_same = record {
    to = λ f h. (
        let r = contains-flat_map (λ x. at_given p (place_of order x) (listed_in (feature_of x))) needs f h in
        let g = given_is p (place_of order r.0) (listed_in (feature_of r.0)) f r.2 in
        let a = place_is order r.0 p g.0 in
        let same : a.instance ≡ i = some_is a.instance i (sym a.at ∙ at) in
        let x_is : r.0 ≡ need (inst i) a.feature = a.is ∙ ap (λ k. need (inst k) a.feature) same in
        let named : Contains (listed a.feature) f = subst (λ x. Contains (listed_in (feature_of x)) f) x_is g.1 in
        flat_map-contains (feature_in i) planned (need (inst i) a.feature) f (subst (Contains planned) x_is ((graph.all r.0).0 r.1).0) (listed_by i a.feature f (bytes_eq a.feature default) named)
        );
    from = λ f h. (
        let r = contains-flat_map (feature_in i) planned f h in
        let n = feature_is i r.0 f r.2 in
        let needed : Contains needs (need (inst i) n.feature) = (graph.all (need (inst i) n.feature)).1 (subst (Contains planned) n.is r.1, refl) in
        flat_map-contains (λ x. at_given p (place_of order x) (listed_in (feature_of x))) needs (need (inst i) n.feature) f needed
        (subst (λ o. Contains (at_given p o (listed n.feature)) f) (sym (place_there order distinct small p i n.feature at)) (here p (listed n.feature) f n.named))
        );
  }

  pub features_are : (fs : List (List ℕ)) → HaveSame fs (seated_features order needs p) → in_order feature_key fs ≡ features_of planned i
  features_are fs same = order_one feature_key feature_key-IsKey fs (flat_map (feature_in i) planned) (record {
    to = λ f h. features_same.to f (same.to f h);
    from = λ f h. same.from f (features_same.from f h);
  })

  needs_to : (q : ℕ) → Contains (seated_needs (map (place_of order) needs) edges p) q → (j : Instance) × (slice_get order q ≡ Some j) × Contains (targets_of inputs planned i) j
  needs_to q h =
      let l = linked_is order needs edges p q h in
      let a = place_is order l.x p l.from in
      let b = place_is order l.y q l.to in
      let same : a.instance ≡ i = some_is a.instance i (sym a.at ∙ at) in
      let x_is : l.x ≡ need (inst i) a.feature = a.is ∙ ap (λ k. need (inst k) a.feature) same in
      let lead = graph.lead l.m l.n l.edge in
      let from_is : lead.0 ≡ need (inst i) a.feature = some_is lead.0 l.x (sym lead.2 ∙ l.one) ∙ x_is in
      let to_is : lead.1 ≡ need (inst b.instance) b.feature = some_is lead.1 l.y (sym lead.3 ∙ l.two) ∙ b.is in
      let asked : Contains (asked_by_need inputs facts (need (inst i) a.feature)) (need (inst b.instance) b.feature) =
      subst (Contains (asked_by_need inputs facts (need (inst i) a.feature))) to_is (subst (λ x. Contains (asked_by_need inputs facts x) lead.1) from_is lead.4) in
      let needed : Contains planned (need (inst i) a.feature) = subst (Contains planned) x_is ((graph.all l.x).0 (get_contains needs l.m l.x l.one)).0 in
      let apart : i ≡ b.instance → ⊥ = λ one. l.other (one_place order distinct p q i at (b.at ∙ ap Some (sym one))) in
      (b.instance, b.at, asked_target inputs facts planned graph.is_planned i a.feature b.instance b.feature apart needed asked)

  needs_from : (q : ℕ) (j : Instance) → slice_get order q ≡ Some j → Contains (targets_of inputs planned i) j → Contains (seated_needs (map (place_of order) needs) edges p) q
  needs_from q j there h =
      let t = target_asked inputs facts planned graph.is_planned i j h in
      let x : Fact = need (inst i) t.feature in
      let m = place_of_member needs x ((graph.all x).1 (t.needed, refl)) in
      let e = graph.complete m.0 x (need (inst j) core) m.1 t.asked in
      let apart : p ≡ q → ⊥ = λ same. t.other (some_is i j (sym at ∙ ap (slice_get order) same ∙ there)) in
      let places : List (Option ℕ) = map (place_of order) needs in
      flat_map-contains (λ k. at_link p (link_of places k)) edges (m.0, e.0) q e.2
      (at_link_there p q (link_of places (m.0, e.0)) (link_there (place_in (slice_get places m.0)) (place_in (slice_get places e.0)) p q
      (table_there order needs m.0 p x m.1 (place_there order distinct small p i t.feature at)) (table_there order needs e.0 q (need (inst j) core) e.1 (place_there order distinct small q j core there)) apart))

  -- and so are its needs
  pub needs_are : (ns : List ℕ) → HaveSame ns (seated_needs (map (place_of order) needs) edges p) → in_order number_key ns ≡ places_from 0 (λ j. list_any (same_instance j) (targets_of inputs planned i)) order
  needs_are ns same =
      let test : Instance → Bool = λ j. list_any (same_instance j) (targets_of inputs planned i) in
      sym (ascending_is number_key number_key-IsKey (places_from 0 test order) ns (places_ascend 0 test order) (record {
        to = λ q h. (
            let r = place_passes 0 q test order h in
            let t = any_contains (same_instance r.1) (targets_of inputs planned i) r.4 in
            let is : r.1 ≡ t.0 = (same_instance-Decides r.1 t.0).0 t.2 in
            let q_is : r.0 ≡ q = sym (r.2 ∙ zero-add r.0) in
            same.from q (needs_from q t.0 (ap (slice_get order) (sym q_is) ∙ r.3 ∙ ap Some is) t.1)
            );
        from = λ q h. (
            let r = needs_to q (same.to q h) in
            subst (Contains (places_from 0 test order)) (zero-add q) (place_listed 0 q test order r.0 r.1 (contains_any (same_instance r.0) (targets_of inputs planned i) r.0 r.2 ((same_instance-Decides r.0 r.0).1 refl)))
            );
      }))
