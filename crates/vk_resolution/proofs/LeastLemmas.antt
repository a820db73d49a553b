-- Closed lists, least lists, ranks.
use Rattle.std.proofs.Common.{◌≡◌, ◌<◌, ◌≤◌, ◌⊎◌, ℕ, zero, suc, ◌+◌, ◌-◌, List, [], ◌∷◌, ◌++◌, length, inl, inr, refl, ap, sym, ◌∙◌, subst, arith, zero-add}
use Rattle.std.specs.List.{Contains}
use Rattle.std.proofs.lemmas.List.Elements.{Contains-push_cases}
use Rattle.vk_spec.specs.Lists.{NoRepeats, IsWithin}
use Rattle.vk_spec.proofs.ListLemmas.{contains_nothing, contains_first, contains_later, contains_cases}
use Rattle.vk_resolution.specs.Least.{Rules, FollowsFrom, from_one, from_two, IsClosed, IsLeast, IsReached, HasRank, IsDerived}

module _ {X : Type 0} where
  -- what follows from fewer facts follows from more
  pub follows_more : {rules : Rules X} {P Q : X → Type 0} {x : X} → ((y : X) → P y → Q y) → FollowsFrom rules P x → FollowsFrom rules Q x
  follows_more more (from_one a holds asked) = from_one a (more a holds) asked
  follows_more more (from_two a b one other asked) = from_two a b (more a one) (more b other) asked

module _ {X : Type 0} (rules : Rules X) where
  -- a closed list holds all that is reached
  pub reached_within : (other : List X) → IsClosed rules other → (n : ℕ) (x : X) → IsReached rules n x → Contains other x
  reached_within other closed zero x h = closed.roots x h
  reached_within other closed (suc n) x (inl before) = reached_within other closed n x before
  reached_within other closed (suc n) x (inr follows) = closed.steps x (follows_more (reached_within other closed n) follows)

  pub roots_stay : (n : ℕ) (x : X) → Contains rules.roots x → IsReached rules n x
  roots_stay zero x h = h
  roots_stay (suc n) x h = inl (roots_stay n x h)

  pub reached_by : (m k : ℕ) (x : X) → IsReached rules m x → IsReached rules (k + m) x
  reached_by m zero x h = subst (λ n. IsReached rules n x) (sym (zero-add m)) h
  reached_by m (suc k) x h =
      let more : suc k + m ≡ suc (k + m) = omega arith in
      subst (λ n. IsReached rules n x) (sym more) (inl (reached_by m k x h))

  pub reached_up : (m n : ℕ) (x : X) → m ≤ n → IsReached rules m x → IsReached rules n x
  reached_up m n x below h =
      let up : (n - m) + m ≡ n = omega arith in
      subst (λ k. IsReached rules k x) up (reached_by m (n - m) x h)

  -- a fact has at most one rank
  pub one_rank : (m n : ℕ) (x : X) → HasRank rules m x → HasRank rules n x → m ≡ n
  one_rank m n x one other =
      let not_less : m < n → ⊥ = λ lower. other.no_lower m lower one.reached in
      let not_more : n < m → ⊥ = λ lower. one.no_lower n lower other.reached in
      omega arith

  -- two least lists have the same members
  pub least_same : (one other : List X) → IsLeast rules one → IsLeast rules other → IsWithin one other
  least_same one other is is_other = is.forced.within other is_other.closed

  derived_from : (other : List X) → IsClosed rules other → (before facts : List X) → IsWithin before other → IsDerived rules before facts → IsWithin facts other
  derived_from other closed before [] old derived x h = absurd (contains_nothing x h)
  derived_from other closed before (y ∷ ys) old derived x h =
      let here : Contains other y = elim derived.0 [ inl root ↦ closed.roots y root | inr follows ↦ closed.steps y (follows_more old follows) ] in
      elim (contains_cases y x ys h) [
        | inl same ↦ subst (Contains other) same here
        | inr later ↦ derived_from other closed (before ++ y ∷ []) ys
            (λ z held. elim (Contains-push_cases before y z held) [ inl was ↦ old z was | inr same ↦ subst (Contains other) same here ]) derived.1 x later
      ]

  -- a closed list without repeats that is derived is the least
  pub derived_least : (facts : List X) → IsClosed rules facts → NoRepeats facts → IsDerived rules [] facts → IsLeast rules facts
  derived_least facts closed distinct derived = record {
    closed = closed;
    forced = record { distinct = distinct; within = λ other other_closed x h. derived_from other other_closed [] facts (λ y none. absurd (contains_nothing y none)) derived x h };
  }

-- a list without repeats is no longer than one that has all its members
module _ {X : Type 0} where
  -- a list without one of its elements
  without : (xs : List X) (x : X) → Contains xs x → (ys : List X) × (length xs ≡ suc (length ys)) × ((y : X) → Contains xs y → (x ≡ y) ⊎ Contains ys y)
  without [] x h = absurd (contains_nothing x h)
  without (z ∷ xs) x h =
      elim (contains_cases z x xs h) [
        | inl same ↦ (xs, refl, λ y at. elim (contains_cases z y xs at) [ inl e ↦ inl (sym same ∙ e) | inr later ↦ inr later ])
        | inr later ↦ (let r = without xs x later in (
          z ∷ r.0,
          ap suc r.1,
          λ y at. elim (contains_cases z y xs at) [
            | inl e ↦ inr (subst (Contains (z ∷ r.0)) e (contains_first z r.0))
            | inr in_xs ↦ elim (r.2 y in_xs) [ inl e ↦ inl e | inr left ↦ inr (contains_later z y r.0 left) ]
          ],
        ))
      ]

  pub no_longer : (xs ys : List X) → NoRepeats xs → IsWithin xs ys → length xs ≤ length ys
  no_longer [] ys distinct within = omega arith
  no_longer (x ∷ xs) ys distinct within =
      let r = without ys x (within x (contains_first x xs)) in
      let rest : length xs ≤ length r.0 = no_longer xs r.0 distinct.1
      (λ y h. elim (r.2 y (within y (contains_later x y xs h))) [ inl same ↦ absurd (distinct.0 (subst (Contains xs) (sym same) h)) | inr left ↦ left ]) in
      let long : length ys ≡ suc (length r.0) = r.1 in
      omega arith
