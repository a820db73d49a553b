-- The greatest floor and the first tops, as floors come.
use Rattle.std.proofs.Common.{◌≡◌, ◌<◌, ◌≤◌, ◌+◌, take, get_or, arith, ℕ, zero, suc, Bool, true, false, not, List, [], ◌∷◌, ◌++◌, length, inl, inr, refl, ap, sym, ◌∙◌, subst}
use Rattle.std.specs.Prelude.{Option, Some, None, slice_get, ◌&&◌}
use Rattle.std.specs.declared.cmp.Ordering.{Ordering}
use Rattle.std.specs.declared.cmp.Ordering.TheVariants.{Less, Equal, Greater}
use Rattle.std.specs.Ordering.{is_lt}
use Rattle.std.specs.List.{Contains, list_all, list_any}
use Rattle.std.specs.List.Sorted.{IsPermutation}
use Rattle.std.proofs.lemmas.List.Sorted.{Contains-permutation, IsPermutation-sym}
use Rattle.std.proofs.lemmas.List.{take_more, length-take-le}
use Rattle.std.proofs.lemmas.List.Elements.{Contains-push, Contains-push_cases, Contains-append_left}
use Rattle.vk_spec.specs.Versions.{Version, ask_of}
use Rattle.vk_spec.proofs.ListLemmas.{contains_first, contains_later}
use Rattle.vk_version.specs.Orders.{at_most}
use Rattle.vk_version.proofs.TestLemmas.{at_most-IsOrder}
use Rattle.vk_spec.proofs.FileLemmas.{path_total}
use Rattle.vk_resolution.specs.Keys.{Key, key_cmp}
use Rattle.vk_resolution.proofs.Orders.{before_itself}
use Rattle.vk_resolution.proofs.Members.{true_false, both_true, and_true, no_is_false, contains_single, all_contains, not_all, true_or_false, any_contains, contains_any}
use Rattle.vk_choices.specs.declared.floors.Floor.{Floor}
use Rattle.vk_resolution.specs.Faults as plain
use Rattle.vk_choices.specs.Settling.{TellsTwo}
use Rattle.vk_choices.specs.Tops.{IsAboveAll, IsGreatest, IsHighest, is_below, is_sooner, is_after, is_ahead, is_later_top, IsFirst, AreFirstTwo, floor_version, ask_key}

-- ---- places

pub got : {X : Type 0} (xs : List X) (n : ℕ) (x : X) → slice_get xs n ≡ Some x → Contains xs x
got [] zero x e = (cc)
got [] (suc n) x e = (cc)
got (y ∷ ys) zero x e = let same : y ≡ x = (cc) in subst (Contains (y ∷ ys)) same (contains_first y ys)
got (y ∷ ys) (suc n) x e = contains_later y x ys (got ys n x e)

got_stays : {X : Type 0} (xs : List X) (y x : X) (n : ℕ) → slice_get xs n ≡ Some x → slice_get (xs ++ y ∷ []) n ≡ Some x
got_stays [] y x zero e = (cc)
got_stays [] y x (suc n) e = (cc)
got_stays (z ∷ xs) y x zero e = e
got_stays (z ∷ xs) y x (suc n) e = got_stays xs y x n e

got_last : {X : Type 0} (xs : List X) (y : X) → slice_get (xs ++ y ∷ []) (length xs) ≡ Some y
got_last [] y = refl
got_last (x ∷ xs) y = got_last xs y

got_at : {X : Type 0} (xs : List X) (n k : ℕ) (x d : X) → slice_get (take n xs) k ≡ Some x → get_or xs k d ≡ x
got_at xs zero zero x d e = (cc)
got_at xs zero (suc k) x d e = (cc)
got_at [] (suc n) zero x d e = (cc)
got_at [] (suc n) (suc k) x d e = (cc)
got_at (y ∷ ys) (suc n) zero x d e = (cc)
got_at (y ∷ ys) (suc n) (suc k) x d e = got_at ys n k x d e

pub got_whole : {X : Type 0} (xs : List X) (k : ℕ) (x d : X) → slice_get xs k ≡ Some x → get_or xs k d ≡ x
got_whole [] zero x d e = (cc)
got_whole [] (suc k) x d e = (cc)
got_whole (y ∷ ys) zero x d e = (cc)
got_whole (y ∷ ys) (suc k) x d e = got_whole ys k x d e

pub whole : {X : Type 0} (xs : List X) (i : ℕ) → length xs ≤ i → take i xs ≡ xs
whole [] zero h = refl
whole [] (suc i) h = refl
whole (x ∷ xs) zero h = absurd (omega (arith, h))
whole (x ∷ xs) (suc i) h = ap (λ l. x ∷ l) (whole xs i (omega (arith, h)))

-- ---- the greatest

pub first_highest : (x : Floor) → IsHighest (x ∷ []) 0
first_highest x = record {
  floor = x;
  at = refl;
  highest = λ f h above. subst (λ (g : Floor). at_most g.version x.version ≡ true) (contains_single x f h) (at_most-IsOrder.reflexive x.version);
}

above_front : (front : List Floor) (n : Floor) (v : Version) → IsAboveAll (front ++ n ∷ []) v → IsAboveAll front v
above_front front n v above f h = above f (Contains-append_left front (n ∷ []) f h)

rises : (front : List Floor) (n : Floor) (best : ℕ) (is : IsHighest front best) → at_most is.floor.version n.version ≡ true → IsHighest (front ++ n ∷ []) (length front)
rises front n best is rise = record {
  floor = n;
  at = got_last front n;
  highest = λ f h above. elim (Contains-push_cases front n f h) [
    | inl was ↦ at_most-IsOrder.transitive f.version is.floor.version n.version (is.highest f was (above_front front n f.version above)) rise
    | inr same ↦ subst (λ (g : Floor). at_most g.version n.version ≡ true) same (at_most-IsOrder.reflexive n.version)
  ];
}

keeps : (front : List Floor) (n : Floor) (best : ℕ) (is : IsHighest front best) → at_most is.floor.version n.version ≡ false → IsHighest (front ++ n ∷ []) best
keeps front n best is none = record {
  floor = is.floor;
  at = got_stays front n is.floor best is.at;
  highest = λ f h above. elim (Contains-push_cases front n f h) [
    | inl was ↦ is.highest f was (above_front front n f.version above)
    | inr same ↦ absurd (true_false (at_most is.floor.version n.version) (subst (λ (g : Floor). at_most is.floor.version g.version ≡ true) (sym same) (above is.floor (Contains-append_left front (n ∷ []) is.floor (got front best is.floor is.at)))) none)
  ];
}

module _ (floors : List Floor) (i best : ℕ) (d e : Floor) (within : i < length floors) (is : IsHighest (take i floors) best) where
  candidate : is.floor ≡ get_or floors best d
  candidate = sym (got_at floors i best is.floor d is.at)

  pub new_highest : at_most (get_or floors best d).version (get_or floors i e).version ≡ true → IsHighest (take (i + 1) floors) i
  new_highest rise =
      subst (λ (l : List Floor). IsHighest l i) (sym (take_more floors i e within))
      (subst (λ k. IsHighest (take i floors ++ get_or floors i e ∷ []) k) (length-take-le i floors (omega (arith, within)))
      (rises (take i floors) (get_or floors i e) best is (subst (λ (x : Floor). at_most x.version (get_or floors i e).version ≡ true) (sym candidate) rise)))

  pub same_highest : at_most (get_or floors best d).version (get_or floors i e).version ≡ false → IsHighest (take (i + 1) floors) best
  same_highest none =
      subst (λ (l : List Floor). IsHighest l best) (sym (take_more floors i e within))
      (keeps (take i floors) (get_or floors i e) best is (subst (λ (x : Floor). at_most x.version (get_or floors i e).version ≡ false) (sym candidate) none))

pub highest_of_one : (floors : List Floor) → 0 < length floors → IsHighest (take 1 floors) 0
highest_of_one [] h = absurd (omega (arith, h))
highest_of_one (x ∷ xs) h = first_highest x

module _ (floors : List Floor) (best : ℕ) (d : Floor) (is : IsHighest floors best) where
  is_candidate : is.floor ≡ get_or floors best d
  is_candidate = sym (got_whole floors best is.floor d is.at)

  pub is_greatest : list_all (λ f. at_most f.version (get_or floors best d).version) floors ≡ true → IsGreatest floors (Some best)
  is_greatest all = (is.floor, is.at, λ f h. subst (λ (x : Floor). at_most f.version x.version ≡ true) (sym is_candidate) (all_contains (λ f. at_most f.version (get_or floors best d).version) floors all f h))

  pub none_greatest : list_all (λ f. at_most f.version (get_or floors best d).version) floors ≡ false → IsGreatest floors None
  none_greatest not_above f h above =
      let g = not_all (λ f. at_most f.version (get_or floors best d).version) floors not_above in
      let up : at_most f.version (get_or floors best d).version ≡ true = subst (λ (x : Floor). at_most f.version x.version ≡ true) is_candidate (is.highest f h above) in
      true_false (at_most g.0.version (get_or floors best d).version) (at_most-IsOrder.transitive g.0.version f.version (get_or floors best d).version (above g.0 g.1) up) g.2

-- ---- the first

is_less : (o : Ordering) → is_lt o ≡ true → o ≡ Less
is_less Less e = refl
is_less Equal e = (cc)
is_less Greater e = (cc)

abbrev key_of : Version → Key
key_of v = ask_key (ask_of v)

pub sooner_less : (u v : Version) → is_sooner u v ≡ true → key_cmp (key_of u) (key_of v) ≡ Less
sooner_less u v e = is_less (key_cmp (key_of u) (key_of v)) e

pub sooner_then : (u v w : Version) → is_sooner u v ≡ true → is_sooner v w ≡ true → is_sooner u w ≡ true
sooner_then u v w e f = ap is_lt (path_total.trans (key_of u) (key_of v) (key_of w) (sooner_less u v e) (sooner_less v w f))

pub sooner_itself : (v : Version) → is_sooner v v ≡ false
sooner_itself v = no_is_false (is_sooner v v) (λ e. before_itself (key_of v) (sooner_less v v e))

module _ (test : Floor → Bool) (front : List Floor) (x : Floor) where
  new_by : (best : Option Floor) → is_ahead best x ≡ true → test x ≡ true → IsFirst test front best → IsFirst test (front ++ x ∷ []) (Some x)
  new_by best ahead passes is = (
    Contains-push front x,
    passes,
    λ f h ok. elim (Contains-push_cases front x f h) [
      | inl was ↦ before best ahead is f was ok
      | inr same ↦ subst (λ (g : Floor). is_sooner g.version x.version ≡ false) same (sooner_itself x.version)
    ],
  )
    where
      before : (o : Option Floor) → is_ahead o x ≡ true → IsFirst test front o → (f : Floor) → Contains front f → test f ≡ true → is_sooner f.version x.version ≡ false
      before None ahead is f was ok = absurd (true_false (test f) ok (is f was))
      before (Some g) ahead is f was ok = no_is_false (is_sooner f.version x.version) (λ e. true_false (is_sooner f.version g.version) (sooner_then f.version x.version g.version e ahead) (is.2 f was ok))

  same_by : (best : Option Floor) → (is_ahead best x && test x) ≡ false → IsFirst test front best → IsFirst test (front ++ x ∷ []) best
  same_by None e is = λ f h. elim (Contains-push_cases front x f h) [ inl was ↦ is f was | inr same ↦ subst (λ (g : Floor). test g ≡ false) same e ]
  same_by (Some g) e is = (
    Contains-append_left front (x ∷ []) g is.0,
    is.1,
    λ f h ok. elim (Contains-push_cases front x f h) [
      | inl was ↦ is.2 f was ok
      | inr same ↦ no_is_false (is_sooner f.version g.version) (λ sooner. true_false (is_sooner x.version g.version && test x)
          (and_true (is_sooner x.version g.version) (test x) (subst (λ (y : Floor). is_sooner y.version g.version ≡ true) (sym same) sooner) (subst (λ (y : Floor). test y ≡ true) (sym same) ok)) e)
    ],
  )

module _ (test : Floor → Bool) (floors : List Floor) (i : ℕ) (x : Floor) (best : Option Floor) (within : i < length floors) (at_i : x ≡ get_or floors i x) (is : IsFirst test (take i floors) best) where
  one_longer : take (i + 1) floors ≡ take i floors ++ x ∷ []
  one_longer = take_more floors i x within ∙ ap (λ (y : Floor). take i floors ++ y ∷ []) (sym at_i)

  pub new_first : (is_ahead best x && test x) ≡ true → IsFirst test (take (i + 1) floors) (Some x)
  new_first next = let p = both_true (is_ahead best x) (test x) next in subst (λ (l : List Floor). IsFirst test l (Some x)) (sym one_longer) (new_by test (take i floors) x best p.0 p.1 is)

  pub same_first : (is_ahead best x && test x) ≡ false → IsFirst test (take (i + 1) floors) best
  same_first other = subst (λ (l : List Floor). IsFirst test l best) (sym one_longer) (same_by test (take i floors) x best other is)

-- ---- the first two, in another order

any_moved : (p : Floor → Bool) (xs ys : List Floor) → ((f : Floor) → Contains xs f → Contains ys f) → list_any p xs ≡ true → list_any p ys ≡ true
any_moved p xs ys to e = let r = any_contains p xs e in contains_any p ys r.0 (to r.0 r.1) r.2

any_same : (p : Floor → Bool) (xs ys : List Floor) → ((f : Floor) → Contains xs f → Contains ys f) → ((f : Floor) → Contains ys f → Contains xs f) → list_any p xs ≡ list_any p ys
any_same p xs ys to from = elim (true_or_false (list_any p xs)) [
  | inl e ↦ e ∙ sym (any_moved p xs ys to e)
  | inr e ↦ e ∙ sym (no_is_false (list_any p ys) (λ h. true_false (list_any p xs) (any_moved p ys xs from h) e))
]

first_moved : (one other : Floor → Bool) (xs ys : List Floor) → ((f : Floor) → one f ≡ other f) → ((f : Floor) → Contains xs f → Contains ys f) → ((f : Floor) → Contains ys f → Contains xs f) → (o : Option Floor) → IsFirst one xs o → IsFirst other ys o
first_moved one other xs ys same to from None is = λ f h. sym (same f) ∙ is f (from f h)
first_moved one other xs ys same to from (Some g) is = (to g is.0, sym (same g) ∙ is.1, λ f h ok. is.2 f (from f h) (same f ∙ ok))

module _ (floors sorted : List Floor) (moved : IsPermutation floors sorted) where
  goes : (f : Floor) → Contains sorted f → Contains floors f
  goes f h = Contains-permutation sorted floors f (IsPermutation-sym floors sorted moved) h

  comes : (f : Floor) → Contains floors f → Contains sorted f
  comes f h = Contains-permutation floors sorted f moved h

  tops_same : (after : Option Version) (f : Floor) → is_later_top sorted after f ≡ is_later_top floors after f
  tops_same after f = ap (λ b. is_after after f.version && not b) (any_same (λ g. is_below f.version g.version) sorted floors goes comes)

  pub two_moved : (two : Option (Floor × Floor)) → AreFirstTwo sorted two → AreFirstTwo floors two
  two_moved two are = record {
    first = are.first;
    is_first = first_moved (is_later_top sorted None) (is_later_top floors None) sorted floors (tops_same None) goes comes are.first are.is_first;
    second = are.second;
    is_second = first_moved (is_later_top sorted (floor_version are.first)) (is_later_top floors (floor_version are.first)) sorted floors (tops_same (floor_version are.first)) goes comes are.second are.is_second;
    told = are.told;
  }

  pub tells_moved : (p : List ℕ) (old new : List plain.Fault) → TellsTwo p sorted old new → TellsTwo p floors old new
  tells_moved p old new is = record { two = is.two; are = two_moved is.two is.are; told = is.told }
