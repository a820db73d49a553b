-- What lists contain, through filters, maps and tests.
use Rattle.std.proofs.Common.{◌≡◌, ◌⊎◌, Bool, true, false, cond, ◌&&◌, ◌||◌, not, List, [], ◌∷◌, map, filter, inl, inr, refl, ap, sym, ◌∙◌, subst}
use Rattle.std.specs.Prelude.{Option, Some, None, filter_map, option_to_list}
use Rattle.std.specs.List.{Contains, list_any, list_all, cons_option, find}
use Rattle.vk_spec.proofs.ListLemmas.{contains_nothing, contains_first, contains_later, contains_cases}

pub true_or_false : (b : Bool) → (b ≡ true) ⊎ (b ≡ false)
true_or_false true = inl refl
true_or_false false = inr refl

pub both_true : (a b : Bool) → (a && b) ≡ true → (a ≡ true) × (b ≡ true)
both_true true true e = (refl, refl)
both_true true false e = (cc)
both_true false true e = (cc)
both_true false false e = (cc)

pub and_true : (a b : Bool) → a ≡ true → b ≡ true → (a && b) ≡ true
and_true true true e h = refl
and_true true false e h = (cc)
and_true false true e h = (cc)
and_true false false e h = (cc)

pub or_true : (a b : Bool) → (a || b) ≡ true → (a ≡ true) ⊎ (b ≡ true)
or_true true b e = inl refl
or_true false true e = inr refl
or_true false false e = (cc)

pub or_left : (a b : Bool) → a ≡ true → (a || b) ≡ true
or_left true b e = refl
or_left false true e = refl
or_left false false e = (cc)

pub or_right : (a b : Bool) → b ≡ true → (a || b) ≡ true
or_right true b e = refl
or_right false true e = refl
or_right false false e = (cc)

pub not_true : (b : Bool) → not b ≡ true → b ≡ false
not_true true e = (cc)
not_true false e = refl

pub not_false : (b : Bool) → b ≡ false → not b ≡ true
not_false true e = (cc)
not_false false e = refl

pub true_false : (b : Bool) → b ≡ true → b ≡ false → ⊥
true_false b e h = let clash : true ≡ false = sym e ∙ h in (cc)

pub no_is_false : (b : Bool) → (b ≡ true → ⊥) → b ≡ false
no_is_false true no_way = absurd (no_way refl)
no_is_false false no_way = refl

module _ {X : Type 0} where
  pub contains_single : (x y : X) → Contains (x ∷ []) y → x ≡ y
  contains_single x y h = elim (contains_cases x y [] h) [ inl same ↦ same | inr later ↦ absurd (contains_nothing y later) ]

  filter_step : (test : X → Bool) (x y : X) (xs : List X) (b : Bool) → test x ≡ b → (Contains (filter test xs) y → Contains xs y × (test y ≡ true)) → Contains (cond b (x ∷ filter test xs) (filter test xs)) y → Contains (x ∷ xs) y × (test y ≡ true)
  filter_step test x y xs true e rest h =
      elim (contains_cases x y (filter test xs) h) [
        | inl same ↦ (subst (Contains (x ∷ xs)) same (contains_first x xs), subst (λ z. test z ≡ true) same e)
        | inr later ↦ (contains_later x y xs (rest later).0, (rest later).1)
      ]
  filter_step test x y xs false e rest h = (contains_later x y xs (rest h).0, (rest h).1)

  pub contains_filter : (test : X → Bool) (xs : List X) (y : X) → Contains (filter test xs) y → Contains xs y × (test y ≡ true)
  contains_filter test [] y h = absurd (contains_nothing y h)
  contains_filter test (x ∷ xs) y h = filter_step test x y xs (test x) refl (contains_filter test xs y) h

  keep_step : (test : X → Bool) (x y : X) (xs : List X) (b : Bool) → test x ≡ b → (x ≡ y) ⊎ Contains (filter test xs) y → test y ≡ true → Contains (cond b (x ∷ filter test xs) (filter test xs)) y
  keep_step test x y xs true e (inl same) passes = subst (Contains (x ∷ filter test xs)) same (contains_first x (filter test xs))
  keep_step test x y xs true e (inr later) passes = contains_later x y (filter test xs) later
  keep_step test x y xs false e (inl same) passes = absurd (true_false (test y) passes (subst (λ z. test z ≡ false) same e))
  keep_step test x y xs false e (inr later) passes = later

  pub filter_contains : (test : X → Bool) (xs : List X) (y : X) → Contains xs y → test y ≡ true → Contains (filter test xs) y
  filter_contains test [] y h passes = absurd (contains_nothing y h)
  filter_contains test (x ∷ xs) y h passes =
      keep_step test x y xs (test x) refl (elim (contains_cases x y xs h) [ inl same ↦ inl same | inr later ↦ inr (filter_contains test xs y later passes) ]) passes

  pub any_contains : (test : X → Bool) (xs : List X) → list_any test xs ≡ true → (y : X) × Contains xs y × (test y ≡ true)
  any_contains test [] e = (cc)
  any_contains test (x ∷ xs) e =
      elim (or_true (test x) (list_any test xs) e) [
        | inl here ↦ (x, contains_first x xs, here)
        | inr later ↦ (let r = any_contains test xs later in (r.0, contains_later x r.0 xs r.1, r.2))
      ]

  pub contains_any : (test : X → Bool) (xs : List X) (y : X) → Contains xs y → test y ≡ true → list_any test xs ≡ true
  contains_any test [] y h passes = absurd (contains_nothing y h)
  contains_any test (x ∷ xs) y h passes =
      elim (contains_cases x y xs h) [
        | inl same ↦ or_left (test x) (list_any test xs) (subst (λ z. test z ≡ true) (sym same) passes)
        | inr later ↦ or_right (test x) (list_any test xs) (contains_any test xs y later passes)
      ]

  pub all_contains : (test : X → Bool) (xs : List X) → list_all test xs ≡ true → (y : X) → Contains xs y → test y ≡ true
  all_contains test [] e y h = absurd (contains_nothing y h)
  all_contains test (x ∷ xs) e y h =
      let parts = both_true (test x) (list_all test xs) e in
      elim (contains_cases x y xs h) [
        | inl same ↦ subst (λ z. test z ≡ true) same parts.0
        | inr later ↦ all_contains test xs parts.1 y later
      ]

  pub contains_all : (test : X → Bool) (xs : List X) → ((y : X) → Contains xs y → test y ≡ true) → list_all test xs ≡ true
  contains_all test [] each = refl
  contains_all test (x ∷ xs) each = and_true (test x) (list_all test xs) (each x (contains_first x xs)) (contains_all test xs (λ y h. each y (contains_later x y xs h)))

  some_step : (test : X → Bool) (x : X) (xs : List X) (b : Bool) → test x ≡ b → (list_all test xs ≡ false → (y : X) × Contains xs y × (test y ≡ false)) → (b && list_all test xs) ≡ false → (y : X) × Contains (x ∷ xs) y × (test y ≡ false)
  some_step test x xs true e rest h = let r = rest h in (r.0, contains_later x r.0 xs r.1, r.2)
  some_step test x xs false e rest h = (x, contains_first x xs, e)

  -- where not all pass, one doesn't
  pub not_all : (test : X → Bool) (xs : List X) → list_all test xs ≡ false → (y : X) × Contains xs y × (test y ≡ false)
  not_all test [] e = (cc)
  not_all test (x ∷ xs) e = some_step test x xs (test x) refl (not_all test xs) e

  -- what is found is in the list and passes
  find_step : (test : X → Bool) (x y : X) (xs : List X) (b : Bool) → test x ≡ b → (find test xs ≡ Some y → Contains xs y × (test y ≡ true)) → cond b (Some x) (find test xs) ≡ Some y → Contains (x ∷ xs) y × (test y ≡ true)
  find_step test x y xs true e rest h = let same : x ≡ y = (cc) in (subst (Contains (x ∷ xs)) same (contains_first x xs), subst (λ z. test z ≡ true) same e)
  find_step test x y xs false e rest h = (contains_later x y xs (rest h).0, (rest h).1)

  pub found_contains : (test : X → Bool) (xs : List X) (y : X) → find test xs ≡ Some y → Contains xs y × (test y ≡ true)
  found_contains test [] y e = (cc)
  found_contains test (x ∷ xs) y e = find_step test x y xs (test x) refl (found_contains test xs y) e

  found_step : (test : X → Bool) (x : X) (xs : List X) (b : Bool) → test x ≡ b → (find test xs ≡ None → (y : X) → Contains xs y → test y ≡ false) → cond b (Some x) (find test xs) ≡ None → (y : X) → Contains (x ∷ xs) y → test y ≡ false
  found_step test x xs true e rest h y at = (cc)
  found_step test x xs false e rest h y at = elim (contains_cases x y xs at) [ inl same ↦ subst (λ z. test z ≡ false) same e | inr later ↦ rest h y later ]

  pub nothing_found : (test : X → Bool) (xs : List X) → find test xs ≡ None → (y : X) → Contains xs y → test y ≡ false
  nothing_found test [] e y h = absurd (contains_nothing y h)
  nothing_found test (x ∷ xs) e y h = found_step test x xs (test x) refl (nothing_found test xs) e y h

  pub option_contains : (o : Option X) (x : X) → Contains (option_to_list o) x → o ≡ Some x
  option_contains None x h = absurd (contains_nothing x h)
  option_contains (Some y) x h = ap Some (contains_single y x h)

  pub contains_option : (o : Option X) (x : X) → o ≡ Some x → Contains (option_to_list o) x
  contains_option None x e = (cc)
  contains_option (Some y) x e = let same : y ≡ x = (cc) in subst (Contains (y ∷ [])) same (contains_first y [])

  -- a list that contains nothing is empty
  pub empty_is : (xs : List X) → ((x : X) → Contains xs x → ⊥) → xs ≡ []
  empty_is [] none = refl
  empty_is (x ∷ xs) none = absurd (none x (contains_first x xs))

keeps_first : {Y : Type 0} (o : Option Y) (y : Y) (ys : List Y) → o ≡ Some y → Contains (cons_option o ys) y
keeps_first None y ys e = (cc)
keeps_first (Some k) y ys e = let same : k ≡ y = (cc) in subst (Contains (k ∷ ys)) same (contains_first k ys)

keeps_later : {Y : Type 0} (o : Option Y) (y : Y) (ys : List Y) → Contains ys y → Contains (cons_option o ys) y
keeps_later None y ys h = h
keeps_later (Some k) y ys h = contains_later k y ys h

module _ {X Y : Type 0} where
  pub contains_map : (f : X → Y) (xs : List X) (y : Y) → Contains (map f xs) y → (x : X) × Contains xs x × (f x ≡ y)
  contains_map f [] y h = absurd (contains_nothing y h)
  contains_map f (x ∷ xs) y h =
      elim (contains_cases (f x) y (map f xs) h) [
        | inl same ↦ (x, contains_first x xs, same)
        | inr later ↦ (let r = contains_map f xs y later in (r.0, contains_later x r.0 xs r.1, r.2))
      ]

  pub map_contains : (f : X → Y) (xs : List X) (x : X) → Contains xs x → Contains (map f xs) (f x)
  map_contains f [] x h = absurd (contains_nothing x h)
  map_contains f (z ∷ xs) x h =
      elim (contains_cases z x xs h) [
        | inl same ↦ subst (λ k. Contains (map f (z ∷ xs)) (f k)) same (contains_first (f z) (map f xs))
        | inr later ↦ contains_later (f z) (f x) (map f xs) (map_contains f xs x later)
      ]

  kept_step : (f : X → Option Y) (x : X) (y : Y) (xs : List X) (o : Option Y) → f x ≡ o → (Contains (filter_map f xs) y → (z : X) × Contains xs z × (f z ≡ Some y)) → Contains (cons_option o (filter_map f xs)) y → (z : X) × Contains (x ∷ xs) z × (f z ≡ Some y)
  kept_step f x y xs None e rest h = let r = rest h in (r.0, contains_later x r.0 xs r.1, r.2)
  kept_step f x y xs (Some k) e rest h =
      elim (contains_cases k y (filter_map f xs) h) [
        | inl same ↦ (x, contains_first x xs, e ∙ ap Some same)
        | inr later ↦ (let r = rest later in (r.0, contains_later x r.0 xs r.1, r.2))
      ]

  pub contains-filter_map : (f : X → Option Y) (xs : List X) (y : Y) → Contains (filter_map f xs) y → (x : X) × Contains xs x × (f x ≡ Some y)
  contains-filter_map f [] y h = absurd (contains_nothing y h)
  contains-filter_map f (x ∷ xs) y h = kept_step f x y xs (f x) refl (contains-filter_map f xs y) h

  pub filter_map-contains : (f : X → Option Y) (xs : List X) (x : X) (y : Y) → Contains xs x → f x ≡ Some y → Contains (filter_map f xs) y
  filter_map-contains f [] x y h e = absurd (contains_nothing x h)
  filter_map-contains f (z ∷ xs) x y h e =
      elim (contains_cases z x xs h) [
        | inl same ↦ keeps_first (f z) y (filter_map f xs) (ap f same ∙ e)
        | inr later ↦ keeps_later (f z) y (filter_map f xs) (filter_map-contains f xs x y later e)
      ]
