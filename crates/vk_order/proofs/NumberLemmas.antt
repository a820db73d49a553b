-- Numbers that are known of places.
use Rattle.std.proofs.Common.{◌≡◌, ◌≢◌, ◌<◌, ◌≤◌, ◌⊎◌, ◌+◌, ◌==◌, eq-eqb, ℕ, cond, Bool, true, false, List, [], ◌∷◌, length, set, get_or, inl, inr, refl, ap, sym, ◌∙◌, subst, add-zero, arith}
use Rattle.std.specs.Prelude.{Option, Some, None, is_some}
use Rattle.std.proofs.lemmas.List.{get_or-set_same, get_or-set_other, get_or_past, length-map}
use Rattle.std.proofs.lemmas.List.Sums.{sum_by-set, count_by-le-length}
use Rattle.std.specs.List.{Contains}
use Rattle.std.proofs.lemmas.List.Elements.{Contains-get_or}
use Rattle.std.proofs.lemmas.Bool.{cases_lt}
use Rattle.std.proofs.lemmas.Bool.Decides.{Decides-eqb}
use Rattle.vk_spec.proofs.ListLemmas.{contains_nothing}
use Rattle.vk_order.specs.Needs.{known_at, known_in, listed_at, needs_of, AreUsers}
use Rattle.vk_model.specs.declared.plans.Item.{Item}

pub same_or : (m n : ℕ) → (m ≡ n) ⊎ (m ≢ n)
same_or m n = elim (cases_lt m n) [
  | inl below ↦ (let other : m ≢ n = omega arith in inr other)
  | inr up ↦ elim (cases_lt n m) [
    | inl above ↦ (let other : m ≢ n = omega arith in inr other)
    | inr down ↦ (let same : m ≡ n = omega arith in inl same)
  ]
]

pub some_none : {X : Type 0} (o : Option X) (x : X) → o ≡ Some x → o ≡ None → ⊥
some_none o x one other = let clash : Some x ≡ None = sym one ∙ other in (cc)

pub some_same : {X : Type 0} (o : Option X) (x y : X) → o ≡ Some x → o ≡ Some y → x ≡ y
some_same o x y one other = let both : Some x ≡ Some y = sym one ∙ other in (cc)

-- what is known is known of a place
pub known_within : (numbers : List (Option ℕ)) (k m : ℕ) → known_at numbers k ≡ Some m → k < length numbers
known_within numbers k m known = elim (cases_lt k (length numbers)) [
  | inl within ↦ within
  | inr past ↦ absurd (some_none (known_at numbers k) m known (get_or_past numbers k None past))
]

module _ (numbers : List (Option ℕ)) (k h : ℕ) where
  pub known_here : k < length numbers → known_at (set numbers k (Some h)) k ≡ Some h
  known_here within = get_or-set_same numbers k (Some h) None within

  pub known_other : (j : ℕ) → j ≢ k → known_at (set numbers k (Some h)) j ≡ known_at numbers j
  known_other j other = get_or-set_other numbers k j (Some h) None other

  -- what was known stays so
  pub known_kept : known_at numbers k ≡ None → (j m : ℕ) → known_at numbers j ≡ Some m → known_at (set numbers k (Some h)) j ≡ Some m
  known_kept new j m known = elim (same_or j k) [
    | inl same ↦ absurd (some_none (known_at numbers j) m known (subst (λ i. known_at numbers i ≡ None) (sym same) new))
    | inr other ↦ known_other j other ∙ known
  ]

  -- what is known now is new, or was known
  pub known_cases : k < length numbers → (j m : ℕ) → known_at (set numbers k (Some h)) j ≡ Some m → ((j ≡ k) × (m ≡ h)) ⊎ (known_at numbers j ≡ Some m)
  known_cases within j m known = elim (same_or j k) [
    | inl same ↦ inl (same, some_same (known_at (set numbers k (Some h)) k) m h (subst (λ i. known_at (set numbers k (Some h)) i ≡ Some m) same known) (known_here within))
    | inr other ↦ inr (sym (known_other j other) ∙ known)
  ]

  -- one more is known
  pub known_more : k < length numbers → known_at numbers k ≡ None → known_in (set numbers k (Some h)) ≡ known_in numbers + 1
  known_more within new =
      let none : known_in (set numbers k (Some h)) + cond (is_some (known_at numbers k)) 1 0 ≡ known_in (set numbers k (Some h)) = ap (λ o. known_in (set numbers k (Some h)) + cond (is_some o) 1 0) new ∙ add-zero (known_in (set numbers k (Some h))) in
      sym none ∙ sum_by-set (λ o. cond (is_some o) 1 0) numbers k (Some h) None within

pub known_few : (numbers : List (Option ℕ)) → known_in numbers ≤ length numbers
known_few numbers = count_by-le-length is_some numbers

abbrev nothing : Option ℕ
nothing = None

-- what is needed at a place is below the count of places
pub below_at : (needs : List (List ℕ)) (k count : ℕ) (named : List ℕ) → named ≡ listed_at needs k → ((i n : ℕ) → Contains (listed_at needs i) n → n < length needs) → length needs ≡ count → (i d : ℕ) → i < length named → get_or named i d < count
below_at needs k count named is places long i d within =
    subst (λ m. get_or named i d < m) long (places k (get_or named i d) (subst (λ l. Contains l (get_or named i d)) is (Contains-get_or named i d within)))

-- users are places
pub users_below : (needs users : List (List ℕ)) → AreUsers needs users → (k n : ℕ) → Contains (listed_at users n) k → k < length users
users_below needs users are k n h = elim (cases_lt k (length needs)) [
  | inl within ↦ (let e : length users ≡ length needs = are.long in omega arith)
  | inr past ↦ absurd (contains_nothing n (subst (λ l. Contains l n) (get_or_past needs k [] past) (are.from k n h)))
]

pub needs_long : (items : List Item) → length (needs_of items) ≡ length items
needs_long items = length-map items (λ (item : Item). item.needs)

pub users_at_below : (needs users : List (List ℕ)) → AreUsers needs users → (k count : ℕ) (named : List ℕ) → named ≡ listed_at users k → length needs ≡ count → (i d : ℕ) → i < length named → get_or named i d < count
users_at_below needs users are k count named is long i d within =
    let below : get_or named i d < length users = users_below needs users are (get_or named i d) k (subst (λ l. Contains l (get_or named i d)) is (Contains-get_or named i d within)) in
    let e : length users ≡ length needs = are.long in
    omega arith

pub none_from : (o : Option ℕ) (t : Bool) → t ≡ is_some o → t ≡ false → o ≡ None
none_from None t e f = refl
none_from (Some x) t e f = let clash : true ≡ false = sym e ∙ f in (cc)

pub some_from : (o : Option ℕ) (t : Bool) → t ≡ is_some o → t ≡ true → (m : ℕ) × (o ≡ Some m)
some_from None t e f = let clash : false ≡ true = sym e ∙ f in (cc)
some_from (Some x) t e f = (x, refl)

-- what a vector's test for emptiness says
pub some_items : (xs : List ℕ) (n : ℕ) (t : Bool) → n ≡ length xs → t ≡ (n == 0) → t ≡ false → 0 < length xs
some_items [] n t size test filled = let e : (n == 0) ≡ true = eq-eqb n 0 size in let clash : true ≡ false = sym e ∙ sym test ∙ filled in (cc)
some_items (x ∷ xs) n t size test filled = omega arith

pub no_items : (xs : List ℕ) (n : ℕ) (t : Bool) → n ≡ length xs → t ≡ (n == 0) → t ≡ true → length xs ≡ 0
no_items xs n t size test empty = sym size ∙ (Decides-eqb n 0).0 (sym test ∙ empty)
