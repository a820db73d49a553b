-- Free names and those that are taken.
use Rattle.std.proofs.Common.{◌≡◌, ◌<◌, ◌≤◌, ◌⊎◌, inl, inr, ◌+◌, ◌-◌, ◌||◌, ◌++◌, ℕ, zero, suc, List, [], ◌∷◌, true, false, cond, refl, ap, sym, ◌∙◌, arith}
use Rattle.std.specs.Prelude.{Bool, Option, Some, None, is_some, nat_lt, not, length, drop, take}
use Rattle.std.specs.List.{Contains, list_any, position, position_or_len}
use Rattle.std.specs.Str.{bytes_eq}
use Rattle.std.proofs.lemmas.Bool.{cases_lt}
use Rattle.std.proofs.lemmas.Bool.Decides.{nat_tests}
use Rattle.std.proofs.lemmas.List.{take-append-drop}
use Rattle.std.proofs.lemmas.List.Folds.{list_any-append}
use Rattle.std.proofs.lemmas.Slice.Eq.{bytes_eq-Decides}
use Rattle.vk_spec.specs.Standing.{Entry}
use Rattle.vk_spec.proofs.ListLemmas.{contains_nothing, contains_first, contains_later, contains_cases, any_by}
use Rattle.vk_tree.specs.Answers.{entry_of, entries_of}
use Rattle.vk_tree.specs.declared.trees.Listed.{Listed}
use Rattle.vk_places.specs.Places.{agent_name}
use Rattle.vk_publish.specs.Names.{is_taken, least_from}

pub least_more : (agent : List ℕ) (es : List Entry) (most n : ℕ) → n < most → is_taken es (agent_name agent n) ≡ true → least_from agent es (most - n) n ≡ least_from agent es (most - (n + 1)) (n + 1)
least_more agent es most n within taken =
    let e : most - n ≡ suc (most - (n + 1)) = omega (arith, within) in
    rw e (ap (λ b. cond b (least_from agent es (most - (n + 1)) (n + 1)) (Some n)) taken)

-- ---- what a name that is taken, or free, says of the entries

either : (a b : Bool) → (a || b) ≡ true → (a ≡ true) ⊎ (b ≡ true)
either true b e = inl refl
either false b e = inr e

neither : (a b : Bool) → (a || b) ≡ false → (a ≡ false) × (b ≡ false)
neither true b e = (cc)
neither false b e = (refl, e)

pub not_taken : (es : List Entry) (name : List ℕ) → is_taken es name ≡ false → (e : Entry) → Contains es e → e.name ≡ name → ⊥
not_taken [] name is e has same = contains_nothing e has
not_taken (x ∷ xs) name is e has same =
    let both = neither (bytes_eq x.name name) (is_taken xs name) is in
    elim (contains_cases x e xs has) [
      | inl one ↦ (let yes_is : bytes_eq x.name name ≡ true = (bytes_eq-Decides x.name name).1 (ap (λ y. y.name) one ∙ same) in (cc))
      | inr later ↦ not_taken xs name both.1 e later same
    ]

pub some_taken : (es : List Entry) (name : List ℕ) → is_taken es name ≡ true → (e : Entry) × Contains es e × (e.name ≡ name)
some_taken [] name is = (cc)
some_taken (x ∷ xs) name is = elim (either (bytes_eq x.name name) (is_taken xs name) is) [
  | inl here ↦ (x, contains_first x xs, (bytes_eq-Decides x.name name).0 here)
  | inr there ↦ (let e = some_taken xs name there in (e.0, contains_later x e.0 xs e.1, e.2))
]

-- ---- where an entry with the name stands

or_true : (b : Bool) → (b || true) ≡ true
or_true true = refl
or_true false = refl

or_false : (b : Bool) → (b || false) ≡ b
or_false true = refl
or_false false = refl

some_if : (b : Bool) (n : ℕ) → is_some (cond b (Some n) None) ≡ b
some_if true n = refl
some_if false n = refl

within_any : {X : Type 0} (p : X → Bool) (xs : List X) → nat_lt (position_or_len p xs) (length xs) ≡ list_any p xs
within_any p [] = refl
within_any p (x ∷ xs) = by (p x) (position_or_len p xs) (within_any p xs)
  where
    by : (b : Bool) (n : ℕ) → nat_lt n (length xs) ≡ list_any p xs → nat_lt (cond (not b) (1 + n) 0) (suc (length xs)) ≡ (b || list_any p xs)
    by true n rest = grind (arith, nat_tests)
    by false n rest = (let same : nat_lt (1 + n) (suc (length xs)) ≡ nat_lt n (length xs) = grind (arith, nat_tests) in same ∙ rest)

is_some-position : {X : Type 0} (p : X → Bool) (xs : List X) → is_some (position p xs) ≡ list_any p xs
is_some-position p xs = some_if (nat_lt (position_or_len p xs) (length xs)) (position_or_len p xs) ∙ within_any p xs

module _ (listed : List Listed) (name : List ℕ) (n : ℕ) (front back : List Listed) (front_is : front ≡ take n listed) (back_is : back ≡ drop n listed) where
  abbrev has_name : Listed → Bool
  has_name l = bytes_eq l.name name

  in_two : is_taken (entries_of listed) name ≡ (is_some (position has_name front) || is_some (position has_name back))
  in_two =
      any_by entry_of (λ e. bytes_eq e.name name) listed
      ∙ ap (list_any has_name) (sym (take-append-drop n listed) ∙ ap (λ l. l ++ drop n listed) (sym front_is) ∙ ap (λ l. front ++ l) (sym back_is))
      ∙ list_any-append has_name front back
      ∙ ap (λ b. b || list_any has_name back) (sym (is_some-position has_name front))
      ∙ ap (λ b. is_some (position has_name front) || b) (sym (is_some-position has_name back))

  pub taken_behind : (r : Option ℕ) (place : ℕ) → r ≡ position has_name back → r ≡ Some place → true ≡ is_taken (entries_of listed) name
  taken_behind r place found is =
      sym (in_two ∙ ap (λ b. is_some (position has_name front) || b) (ap (λ o. is_some o) (sym found ∙ is)) ∙ or_true (is_some (position has_name front)))

  pub taken_before : (r s : Option ℕ) (b : Bool) → r ≡ position has_name back → r ≡ None → s ≡ position has_name front → b ≡ is_some s → b ≡ is_taken (entries_of listed) name
  taken_before r s b none is found same =
      same ∙ ap (λ o. is_some o) found ∙ sym (in_two ∙ ap (λ b. is_some (position has_name front) || b) (ap (λ o. is_some o) (sym none ∙ is)) ∙ or_false (is_some (position has_name front)))

-- ---- the least number

-- what is found: it is within bounds, its name is free, and those of the lower numbers are taken
pub record IsFound (agent : List ℕ) (es : List Entry) (k n m : ℕ) : Type 0 where
  pub from : n ≤ m
  pub within : m < k + n
  pub free : is_taken es (agent_name agent m) ≡ false
  pub lower : (i : ℕ) → n ≤ i → i < m → is_taken es (agent_name agent i) ≡ true

here_or_later : (n i : ℕ) → n ≤ i → (i ≡ n) ⊎ (n + 1 ≤ i)
here_or_later n i low = elim (cases_lt n i) [
  | inl less ↦ inr (omega (arith, less))
  | inr not_less ↦ inl (omega (arith, not_less, low))
]

pub least_found : (agent : List ℕ) (es : List Entry) (k n m : ℕ) → least_from agent es k n ≡ Some m → IsFound agent es k n m
least_found agent es zero n m is = (cc)
least_found agent es (suc k) n m is =
    elim (is_taken es (agent_name agent n)) as (λ b. is_taken es (agent_name agent n) ≡ b → cond b (least_from agent es k (n + 1)) (Some n) ≡ Some m → IsFound agent es (suc k) n m) [
      | true ↦ λ t found. (let r = least_found agent es k (n + 1) m found in
          record {
            from = omega (arith, r.from);
            within = omega (arith, r.within);
            free = r.free;
            lower = λ i low high. elim (here_or_later n i low) [
              | inl one ↦ ap (λ j. is_taken es (agent_name agent j)) one ∙ t
              | inr later ↦ r.lower i later high
            ];
          })
      | false ↦ λ t found. (let one : n ≡ m = (cc) in
          record { from = omega (arith, one); within = omega (arith, one); free = ap (λ j. is_taken es (agent_name agent j)) (sym one) ∙ t; lower = λ i low high. absurd (omega (arith, one, low, high)) })
    ] refl is

pub all_taken : (agent : List ℕ) (es : List Entry) (k n : ℕ) → least_from agent es k n ≡ None → (i : ℕ) → n ≤ i → i < k + n → is_taken es (agent_name agent i) ≡ true
all_taken agent es zero n is i low high = absurd (omega (arith, low, high))
all_taken agent es (suc k) n is i low high =
    elim (is_taken es (agent_name agent n)) as (λ b. is_taken es (agent_name agent n) ≡ b → cond b (least_from agent es k (n + 1)) (Some n) ≡ None → is_taken es (agent_name agent i) ≡ true) [
      | true ↦ λ t none. elim (here_or_later n i low) [
        | inl one ↦ ap (λ j. is_taken es (agent_name agent j)) one ∙ t
        | inr later ↦ all_taken agent es k (n + 1) none i later (omega (arith, high))
      ]
      | false ↦ λ t none. (cc)
    ] refl is
