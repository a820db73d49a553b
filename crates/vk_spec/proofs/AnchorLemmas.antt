-- The order of anchors is that of what they say.
use Rattle.std.proofs.Common.{◌≡◌, ◌==◌, ℕ, zero, suc, true, false, ◌<◌, refl, ap, ◌∙◌, arith}
use Rattle.std.proofs.lemmas.Bool.Decides.{nat_tests}
use Rattle.std.specs.Ordering.{nat_cmp, MatchOrdering}
use Rattle.std.specs.Cmp.{ranks, nat_cmp_is}
use Rattle.std.specs.declared.cmp.Ordering.{Ordering}
use Rattle.std.specs.declared.cmp.Ordering.TheVariants.{Less, Equal, Greater}
use Rattle.std.specs.Cmp.Lexicographic.{slice_cmp, pointwise}
use Rattle.vk_spec.specs.Paths.{steps_up, anchor}

next_rank : (m n : ℕ) (r : Ordering) → MatchOrdering r (m < n) (m ≡ n) (n < m) → MatchOrdering r (suc m < suc n) (suc m ≡ suc n) (suc n < suc m)
next_rank m n Less h = omega (arith, h)
next_rank m n Equal h = ap suc h
next_rank m n Greater h = omega (arith, h)

next_cmp : (m n : ℕ) → nat_cmp m n ≡ nat_cmp (suc m) (suc n)
next_cmp m n = nat_cmp_is (suc m) (suc n) (nat_cmp m n) (next_rank m n (nat_cmp m n) (ranks m n))

pub steps_order : (m n : ℕ) → slice_cmp nat_cmp (steps_up m) (steps_up n) ≡ nat_cmp m n
steps_order zero zero = refl
steps_order zero (suc n) = nat_cmp_is zero (suc n) Less (omega arith)
steps_order (suc m) zero = nat_cmp_is (suc m) zero Greater (omega arith)
steps_order (suc m) (suc n) = steps_order m n ∙ next_cmp m n

-- of two paths that aren't rooted
pub ups_order : (m n : ℕ) → slice_cmp nat_cmp (anchor false m) (anchor false n) ≡ nat_cmp m n
ups_order zero zero = refl
ups_order zero (suc zero) = refl
ups_order zero (suc (suc n)) = nat_cmp_is zero (suc (suc n)) Less (omega arith)
ups_order (suc zero) zero = refl
ups_order (suc (suc m)) zero = nat_cmp_is (suc (suc m)) zero Greater (omega arith)
ups_order (suc m) (suc n) = steps_order m n ∙ next_cmp m n

-- a rooted path comes after those that aren't
pub rooted_after : (m n : ℕ) → slice_cmp nat_cmp (anchor true m) (anchor false n) ≡ Greater
rooted_after m zero = refl
rooted_after m (suc zero) = refl
rooted_after m (suc (suc n)) = refl

pub rooted_before : (m n : ℕ) → slice_cmp nat_cmp (anchor false n) (anchor true m) ≡ Less
rooted_before m zero = refl
rooted_before m (suc zero) = refl
rooted_before m (suc (suc n)) = refl

-- whether anchors are the same: so many steps up
next_same : (m n : ℕ) → (m == n) ≡ (suc m == suc n)
next_same m n = grind (arith, nat_tests)

steps_same : (m n : ℕ) → pointwise ◌==◌ (steps_up m) (steps_up n) ≡ (m == n)
steps_same zero zero = refl
steps_same zero (suc n) = grind (arith, nat_tests)
steps_same (suc m) zero = grind (arith, nat_tests)
steps_same (suc m) (suc n) = steps_same m n ∙ next_same m n

pub ups_same : (m n : ℕ) → pointwise ◌==◌ (anchor false m) (anchor false n) ≡ (m == n)
ups_same zero zero = refl
ups_same zero (suc zero) = refl
ups_same zero (suc (suc n)) = grind (arith, nat_tests)
ups_same (suc zero) zero = refl
ups_same (suc (suc m)) zero = grind (arith, nat_tests)
ups_same (suc m) (suc n) = steps_same m n ∙ next_same m n

-- none that is rooted is one that isn't
pub rooted_apart : (m n : ℕ) → pointwise ◌==◌ (anchor true m) (anchor false n) ≡ false
rooted_apart m zero = refl
rooted_apart m (suc zero) = refl
rooted_apart m (suc (suc n)) = refl

pub apart_rooted : (m n : ℕ) → pointwise ◌==◌ (anchor false n) (anchor true m) ≡ false
apart_rooted m zero = refl
apart_rooted m (suc zero) = refl
apart_rooted m (suc (suc n)) = refl
