-- The order of paths: what begins with a path stands together, right after it.
use Rattle.std.proofs.Common.{◌≡◌, ℕ, true, false, List, [], ◌∷◌, ◌++◌, refl, ap, sym, ◌∙◌}
use Rattle.std.proofs.lemmas.List.{append-nil}
use Rattle.std.specs.Prelude.{Option, Some, None, IsSome}
use Rattle.std.specs.declared.cmp.Ordering.{Ordering}
use Rattle.std.specs.declared.cmp.Ordering.TheVariants.{Less, Equal, Greater}
use Rattle.std.specs.Ordering.{is_gt, is_lt, nat_cmp, ordering_then, ordering_reverse}
use Rattle.std.specs.Cmp.{IsTotalOrder, nat_cmp_total, tied_itself}
use Rattle.std.specs.Cmp.Lexicographic.{slice_cmp, lists_total}
use Rattle.std.specs.FinMap.{slice_cmp-IsAntisymmetric, nat_cmp-IsAntisymmetric}
use Rattle.vk_spec.specs.Paths.{Path, path_cmp, Begins}
use Rattle.vk_spec.proofs.FileLemmas.{path_total}

part_total : IsTotalOrder (slice_cmp nat_cmp)
part_total = lists_total nat_cmp_total

-- a path is before those below it
pub less_below : (p : Path) (part : List ℕ) (rest : Path) → path_cmp p (p ++ part ∷ rest) ≡ Less
less_below [] part rest = refl
less_below (x ∷ p) part rest = ap (λ o. ordering_then o (path_cmp p (p ++ part ∷ rest))) (tied_itself part_total x) ∙ less_below p part rest

pub no_gt : (o : Ordering) → o ≡ Less → is_gt o ≡ false
no_gt o e = ap is_gt e

lt_turned : (o : Ordering) → is_lt o ≡ false → is_gt (ordering_reverse o) ≡ false
lt_turned Less h = (cc)
lt_turned Equal h = refl
lt_turned Greater h = refl

-- not after, seen from the other side
pub at_most_turned : (p q : Path) → is_lt (path_cmp p q) ≡ false → is_gt (path_cmp q p) ≡ false
at_most_turned p q h = ap is_gt (path_total.antisymm q p) ∙ lt_turned (path_cmp p q) h

both_tied : (o a b : Ordering) → is_gt (ordering_then o a) ≡ false → is_gt (ordering_then (ordering_reverse o) b) ≡ false → (o ≡ Equal) × (is_gt a ≡ false) × (is_gt b ≡ false)
both_tied Less a b h k = let clash : true ≡ false = k in (cc)
both_tied Equal a b h k = (refl, h, k)
both_tied Greater a b h k = let clash : true ≡ false = h in (cc)

-- what stands between a path and one that it begins, it begins too
pub begun_between : (p h k : Path) → Begins p k → is_gt (path_cmp p h) ≡ false → is_gt (path_cmp h k) ≡ false → Begins p h
begun_between [] h k begins low high = (h, refl)
begun_between (x ∷ p) [] k begins low high = let clash : true ≡ false = low in (cc)
begun_between (x ∷ p) (y ∷ h) [] begins low high = let clash : [] ≡ x ∷ (p ++ begins.0) = begins.1 in (cc)
begun_between (x ∷ p) (y ∷ h) (z ∷ k) begins low high =
    let split : z ∷ k ≡ x ∷ (p ++ begins.0) = begins.1 in
    let first : z ≡ x = (cc) in
    let later : k ≡ p ++ begins.0 = (cc) in
    let turned : is_gt (ordering_then (ordering_reverse (slice_cmp nat_cmp x y)) (path_cmp h k)) ≡ false
    = ap (λ o. is_gt (ordering_then o (path_cmp h k))) (sym (part_total.antisymm y x) ∙ ap (slice_cmp nat_cmp y) (sym first)) ∙ high in
    let tied = both_tied (slice_cmp nat_cmp x y) (path_cmp p h) (path_cmp h k) low turned in
    let same : x ≡ y = slice_cmp-IsAntisymmetric nat_cmp-IsAntisymmetric x y tied.0 in
    let rest = begun_between p h k (begins.0, later) tied.1 tied.2 in
    (rest.0, ap (λ l. y ∷ l) rest.1 ∙ ap (λ w. w ∷ (p ++ rest.0)) (sym same))

pub none_where : {X : Type 0} (o : Option X) → (IsSome o → ⊥) → o ≡ None
none_where None h = refl
none_where (Some x) h = absurd (h refl)

not_itself : (p : Path) → path_cmp p p ≡ Less → ⊥
not_itself p less = let clash : Equal ≡ Less = sym (tied_itself path_total p) ∙ less in (cc)

-- a path that begins a later one has it below
pub below_from : (h p : Path) → path_cmp h p ≡ Less → Begins h p → (part : List ℕ) × (rest : Path) × (p ≡ h ++ part ∷ rest)
below_from h p less ([], e) = absurd (not_itself h (ap (path_cmp h) (sym (e ∙ append-nil h)) ∙ less))
below_from h p less (part ∷ rest, e) = (part, rest, e)
