-- What lists hold, and their sums.
use Rattle.std.proofs.Common.{◌≡◌, ◌≤◌, ◌+◌, inl, inr, ℕ, List, [], ◌∷◌, ◌++◌, map, ap, sym, subst, arith}
use Rattle.std.specs.List.{Contains, sum_by}
use Rattle.std.proofs.lemmas.List.Elements.{Contains-append_left}
use Rattle.std.proofs.lemmas.List.Sums.{sum_by-append, sum_by-cons}
use Rattle.vk_spec.specs.Lists.{NoRepeats, IsWithin}
use Rattle.vk_spec.proofs.ListLemmas.{contains_nothing, contains_first, contains_later, contains_cases}

pub contains_mapped : {X Y : Type 0} (g : X → Y) (xs : List X) (x : X) → Contains xs x → Contains (map g xs) (g x)
contains_mapped g [] x at = absurd (contains_nothing x at)
contains_mapped g (y ∷ xs) x at = elim (contains_cases y x xs at) [
  | inl same ↦ subst (λ z. Contains (g y ∷ map g xs) (g z)) same (contains_first (g y) (map g xs))
  | inr later ↦ contains_later (g y) (g x) (map g xs) (contains_mapped g xs x later)
]

pub mapped_from : {X Y : Type 0} (g : X → Y) (xs : List X) (y : Y) → Contains (map g xs) y → (x : X) × Contains xs x × (g x ≡ y)
mapped_from g [] y at = absurd (contains_nothing y at)
mapped_from g (x ∷ xs) y at = elim (contains_cases (g x) y (map g xs) at) [
  | inl same ↦ (x, contains_first x xs, same)
  | inr later ↦ (let r = mapped_from g xs y later in (r.0, contains_later x r.0 xs r.1, r.2))
]

-- where no two have one value, none stands twice
pub mapped_once : {X Y : Type 0} (g : X → Y) (xs : List X) (rest : List Y) → NoRepeats (map g xs ++ rest) → NoRepeats xs
mapped_once g [] rest once = tt
mapped_once g (x ∷ xs) rest once = (
  (λ at. once.0 (Contains-append_left (map g xs) rest (g x) (contains_mapped g xs x at))),
  mapped_once g xs rest once.1,
)

-- what stands before an item of a list, and after it
split_at : {X : Type 0} (xs : List X) (x : X) → Contains xs x → (front : List X) × (back : List X) × (xs ≡ front ++ x ∷ back)
split_at [] x at = absurd (contains_nothing x at)
split_at (y ∷ xs) x at = elim (contains_cases y x xs at) [
  | inl same ↦ ([], xs, ap (λ z. z ∷ xs) same)
  | inr later ↦ (let r = split_at xs x later in (y ∷ r.0, r.1, ap (λ l. y ∷ l) r.2))
]

kept_beside : {X : Type 0} (front back : List X) (x y : X) → (x ≡ y → ⊥) → Contains (front ++ x ∷ back) y → Contains (front ++ back) y
kept_beside [] back x y other at = elim (contains_cases x y back at) [ inl same ↦ absurd (other same) | inr later ↦ later ]
kept_beside (z ∷ front) back x y other at = elim (contains_cases z y (front ++ x ∷ back) at) [
  | inl same ↦ subst (Contains (z ∷ front ++ back)) same (contains_first z (front ++ back))
  | inr later ↦ contains_later z y (front ++ back) (kept_beside front back x y other later)
]

sum_beside : {X : Type 0} (w : X → ℕ) (front back : List X) (x : X) → sum_by w (front ++ x ∷ back) ≡ w x + sum_by w (front ++ back)
sum_beside w front back x = omega (arith, sum_by-append w front (x ∷ back), sum_by-append w front back, sum_by-cons w x back)

-- a part of a list, each item once, has no greater sum
pub part_sum : {X : Type 0} (w : X → ℕ) (xs ys : List X) → NoRepeats xs → IsWithin xs ys → sum_by w xs ≤ sum_by w ys
part_sum w [] ys once within = omega arith
part_sum w (x ∷ xs) ys once within =
    let r = split_at ys x (within x (contains_first x xs)) in
    let rest : sum_by w xs ≤ sum_by w (r.0 ++ r.1) = part_sum w xs (r.0 ++ r.1) once.1
    (λ y at. kept_beside r.0 r.1 x y (λ same. once.0 (subst (Contains xs) (sym same) at)) (subst (λ l. Contains l y) r.2 (within y (contains_later x y xs at)))) in
    omega (arith, rest, sum_by-cons w x xs, ap (sum_by w) r.2, sum_beside w r.0 r.1 x)
