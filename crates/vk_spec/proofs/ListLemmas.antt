-- What a list contains, and that it has no repeats.
use Rattle.std.proofs.Common.{◌≡◌, ◌<◌, ◌⊎◌, ◌||◌, ℕ, Bool, true, false, cond, map, List, [], ◌∷◌, ◌++◌, length, take, get_or, ◌+◌, inl, inr, refl, ap, ◌∙◌, arith}
use Rattle.std.proofs.lemmas.List.{take_more, append-nil}
use Rattle.std.proofs.lemmas.Grind.{flat_map-append}
use Rattle.std.specs.Prelude.{Option, Some, option_map}
use Rattle.std.specs.List.{Contains, flat_map, list_any, find}
use Rattle.std.proofs.lemmas.List.Elements.{Contains-append_left, Contains-append_right, Contains-append_cases, Contains-push_cases}
use Rattle.vk_spec.specs.Lists.{NoRepeats}

pub contains_nothing : {X : Type 0} (x : X) → Contains [] x → ⊥
contains_nothing x h = let no : h.0 < 0 = h.1 in absurd (omega arith)

pub contains_first : {X : Type 0} (x : X) (xs : List X) → Contains (x ∷ xs) x
contains_first x xs = (0, omega arith, refl)

pub contains_later : {X : Type 0} (y x : X) (xs : List X) → Contains xs x → Contains (y ∷ xs) x
contains_later y x xs h = Contains-append_right (y ∷ []) xs x h

pub contains_cases : {X : Type 0} (y x : X) (xs : List X) → Contains (y ∷ xs) x → (y ≡ x) ⊎ Contains xs x
contains_cases y x xs h =
    elim (Contains-append_cases (y ∷ []) xs x h) [
      | inl first ↦ elim (Contains-push_cases [] y x first) [ inl none ↦ absurd (contains_nothing x none) | inr same ↦ inl same ]
      | inr later ↦ inr later
    ]

pub no_repeats_push : {X : Type 0} (xs : List X) (y : X) → NoRepeats xs → (Contains xs y → ⊥) → NoRepeats (xs ++ y ∷ [])
no_repeats_push [] y each new = (contains_nothing y, tt)
no_repeats_push (x ∷ xs) y each new = (
  (λ h. elim (Contains-push_cases xs y x h) [
    | inl old ↦ each.0 old
    | inr same ↦ new (rw same (contains_first x xs))
  ]),
  no_repeats_push xs y each.1 (λ h. new (contains_later x y xs h)),
)

-- two lists with no repeats and nothing in common
pub no_repeats_append : {X : Type 0} (xs ys : List X) → NoRepeats xs → NoRepeats ys → ((x : X) → Contains xs x → Contains ys x → ⊥) → NoRepeats (xs ++ ys)
no_repeats_append [] ys left right apart = right
no_repeats_append (x ∷ xs) ys left right apart = (
  (λ h. elim (Contains-append_cases xs ys x h) [
    | inl old ↦ left.0 old
    | inr new ↦ apart x (contains_first x xs) new
  ]),
  no_repeats_append xs ys left.1 right (λ y in_xs in_ys. apart y (contains_later x y xs in_xs) in_ys),
)

-- from a flat_map and back
pub contains-flat_map : {X Y : Type 0} (f : X → List Y) (xs : List X) (y : Y) → Contains (flat_map f xs) y → (x : X) × Contains xs x × Contains (f x) y
contains-flat_map f [] y h = absurd (contains_nothing y h)
contains-flat_map f (x ∷ xs) y h =
    elim (Contains-append_cases (f x) (flat_map f xs) y h) [
      | inl here ↦ (x, contains_first x xs, here)
      | inr later ↦ (let r = contains-flat_map f xs y later in (r.0, contains_later x r.0 xs r.1, r.2))
    ]

pub flat_map-contains : {X Y : Type 0} (f : X → List Y) (xs : List X) (x : X) (y : Y) → Contains xs x → Contains (f x) y → Contains (flat_map f xs) y
flat_map-contains f [] x y at asked = absurd (contains_nothing x at)
flat_map-contains f (z ∷ xs) x y at asked =
    elim (contains_cases z x xs at) [
      | inl same ↦ Contains-append_left (f z) (flat_map f xs) y (rw same asked)
      | inr later ↦ Contains-append_right (f z) (flat_map f xs) y (flat_map-contains f xs x y later asked)
    ]

pub flat_map-take_more : {X Y : Type 0} (f : X → List Y) (xs : List X) (i : ℕ) (d : X) → i < length xs → flat_map f (take (i + 1) xs) ≡ flat_map f (take i xs) ++ f (get_or xs i d)
flat_map-take_more f xs i d within =
    ap (flat_map f) (take_more xs i d within) ∙ flat_map-append f (take i xs) (get_or xs i d ∷ []) ∙ ap (λ l. flat_map f (take i xs) ++ l) (append-nil (f (get_or xs i d)))

-- a test of what things are seen as is a test of the things
pub any_by : {X Y : Type 0} (f : X → Y) (p : Y → Bool) (xs : List X) → list_any p (map f xs) ≡ list_any (λ x. p (f x)) xs
any_by f p [] = refl
any_by f p (x ∷ xs) = ap (λ b. p (f x) || b) (any_by f p xs)

cond_map : {X Y : Type 0} (f : X → Y) (b : Bool) (x : X) (o : Option X) → cond b (Some (f x)) (option_map f o) ≡ option_map f (cond b (Some x) o)
cond_map f true x o = refl
cond_map f false x o = refl

-- and what is found among them is what is found of the things
pub find_by : {X Y : Type 0} (f : X → Y) (p : Y → Bool) (xs : List X) → find p (map f xs) ≡ option_map f (find (λ x. p (f x)) xs)
find_by f p [] = refl
find_by f p (x ∷ xs) = ap (cond (p (f x)) (Some (f x))) (find_by f p xs) ∙ cond_map f (p (f x)) x (find (λ y. p (f y)) xs)
