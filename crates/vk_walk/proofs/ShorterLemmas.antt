-- A list without repeats is no longer than one that has all its members.
use Rattle.std.proofs.Common.{◌≡◌, ◌≤◌, ◌⊎◌, suc, List, [], ◌∷◌, length, inl, inr, refl, ap, sym, ◌∙◌, subst, arith}
use Rattle.std.specs.List.{Contains}
use Rattle.vk_spec.specs.Lists.{NoRepeats, IsWithin}
use Rattle.vk_spec.proofs.ListLemmas.{contains_nothing, contains_first, contains_later, contains_cases}

module _ {X : Type 0} where
  -- a list without one of its elements
  without : (xs : List X) (x : X) → Contains xs x → (ys : List X) × (length xs ≡ suc (length ys)) × ((y : X) → Contains xs y → (x ≡ y) ⊎ Contains ys y)
  without [] x h = absurd (contains_nothing x h)
  without (z ∷ xs) x h =
      elim (contains_cases z x xs h) [
        | inl same ↦ (xs, refl, λ y at. elim (contains_cases z y xs at) [ inl e ↦ inl (sym same ∙ e) | inr later ↦ inr later ])
        | inr later ↦ (let r = without xs x later in (
          z ∷ r.0,
          ap suc r.1,
          λ y at. elim (contains_cases z y xs at) [
            | inl e ↦ inr (subst (Contains (z ∷ r.0)) e (contains_first z r.0))
            | inr in_xs ↦ elim (r.2 y in_xs) [ inl e ↦ inl e | inr left ↦ inr (contains_later z y r.0 left) ]
          ],
        ))
      ]

  pub no_longer : (xs ys : List X) → NoRepeats xs → IsWithin xs ys → length xs ≤ length ys
  no_longer [] ys distinct within = omega arith
  no_longer (x ∷ xs) ys distinct within =
      let r = without ys x (within x (contains_first x xs)) in
      let rest : length xs ≤ length r.0 = no_longer xs r.0 distinct.1
      (λ y h. elim (r.2 y (within y (contains_later x y xs h))) [ inl same ↦ absurd (distinct.0 (subst (Contains xs) (sym same) h)) | inr left ↦ left ]) in
      let long : length ys ≡ suc (length r.0) = r.1 in
      omega arith
