-- The order of paths in one folder.
use Rattle.std.proofs.Common.{◌≡◌, ◌⊎◌, inl, inr, ℕ, false, List, [], ◌∷◌, ◌++◌, refl, ap, sym, ◌∙◌}
use Rattle.std.specs.declared.cmp.Ordering.{Ordering}
use Rattle.std.specs.declared.cmp.Ordering.TheVariants.{Less, Equal, Greater}
use Rattle.std.specs.Ordering.{is_lt, nat_cmp, ordering_then, ordering_reverse}
use Rattle.std.specs.Cmp.{IsTotalOrder, nat_cmp_total, tied_itself}
use Rattle.std.specs.Cmp.Lexicographic.{slice_cmp, lists_total}
use Rattle.vk_spec.specs.Paths.{Path, path_cmp, Begins}
use Rattle.vk_spec.proofs.OrderLemmas.{begun_between, no_gt, at_most_turned}

pub part_total : IsTotalOrder (slice_cmp nat_cmp)
part_total = lists_total nat_cmp_total

-- what two paths have in front doesn't count
pub same_front : (p x y : Path) → path_cmp (p ++ x) (p ++ y) ≡ path_cmp x y
same_front [] x y = refl
same_front (n ∷ p) x y = ap (λ o. ordering_then o (path_cmp (p ++ x) (p ++ y))) (tied_itself part_total n) ∙ same_front p x y

-- a lower name, and all below it, is before a higher one
pub lower_name : (p : Path) (low high : List ℕ) (rest : Path) → slice_cmp nat_cmp low high ≡ Less → path_cmp (p ++ low ∷ rest) (p ++ high ∷ []) ≡ Less
lower_name p low high rest less = same_front p (low ∷ rest) (high ∷ []) ∙ ap (λ o. ordering_then o (path_cmp rest [])) less

rest_not_less : (rest : Path) → path_cmp rest [] ≡ Less → ⊥
rest_not_less [] h = (cc)
rest_not_less (n ∷ rest) h = (cc)

turned : (o : Ordering) → o ≡ Less → ordering_reverse o ≡ Greater
turned o e = ap ordering_reverse e

-- what lies at or below a name isn't before it
pub name_not_below : (p : Path) (name : List ℕ) (rest : Path) → path_cmp (p ++ name ∷ rest) (p ++ name ∷ []) ≡ Less → ⊥
name_not_below p name rest h =
    rest_not_less rest (sym (ap (λ o. ordering_then o (path_cmp rest [])) (tied_itself part_total name)) ∙ sym (same_front p (name ∷ rest) (name ∷ [])) ∙ h)

-- what lies at or below a higher name isn't before the lower
pub higher_not_before : (p : Path) (low high : List ℕ) (rest : Path) → slice_cmp nat_cmp low high ≡ Less → path_cmp (p ++ high ∷ rest) (p ++ low ∷ []) ≡ Less → ⊥
higher_not_before p low high rest less h =
    let rev : slice_cmp nat_cmp high low ≡ Greater = part_total.antisymm high low ∙ ap ordering_reverse less in
    let clash : Greater ≡ Less = sym (ap (λ o. ordering_then o (path_cmp rest [])) rev) ∙ sym (same_front p (high ∷ rest) (low ∷ [])) ∙ h in
    (cc)

less_or_not : (o : Ordering) → (o ≡ Less) ⊎ (is_lt o ≡ false)
less_or_not Less = inl refl
less_or_not Equal = inr refl
less_or_not Greater = inr refl

-- what is before a name in a folder is before the folder, or the folder begins it
pub before_name : (p : Path) (name : List ℕ) (q : Path) → path_cmp q (p ++ name ∷ []) ≡ Less → (path_cmp q p ≡ Less) ⊎ Begins p q
before_name p name q h =
    elim (less_or_not (path_cmp q p)) [
      | inl less ↦ inl less
      | inr not ↦ inr (begun_between p q (p ++ name ∷ []) (name ∷ [], refl) (at_most_turned q p not) (no_gt (path_cmp q (p ++ name ∷ [])) h))
    ]

-- what a path begins isn't before it
pub not_before_own : (p rest : Path) → path_cmp (p ++ rest) p ≡ Less → ⊥
not_before_own [] [] h = (cc)
not_before_own [] (n ∷ rest) h = (cc)
not_before_own (n ∷ p) rest h = not_before_own p rest (sym (ap (λ o. ordering_then o (path_cmp (p ++ rest) p)) (tied_itself part_total n)) ∙ h)

-- what two paths have in front may be taken away
pub cancel : (p x y : Path) → p ++ x ≡ p ++ y → x ≡ y
cancel [] x y e = e
cancel (n ∷ p) x y e = cancel p x y (cc)
