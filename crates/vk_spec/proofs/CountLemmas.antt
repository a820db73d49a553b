-- What a count says of a failure, and a failure of a count.
use Rattle.std.proofs.Common.{◌≡◌, subst, ℕ, true, false, refl, arith}
use Rattle.std.specs.Prelude.{Bool}
use Rattle.vk_spec.specs.Counts.{Counted, MayHaveRisen, Rose}

pub counted_then : (failed : Bool) (a b c : ℕ) → b ≡ a → Counted failed b c → Counted failed a c
counted_then failed a b c e h = rw (← e) h

-- a failure comes only where the count may have increased
pub counted_risen : {failed : Bool} (a b : ℕ) → Counted failed a b → failed ≡ true → MayHaveRisen a b
counted_risen a b h e = (subst (λ f. Counted f a b) e h).1

-- a count that rose tells a failure
pub counted_rose : {failed : Bool} (a b : ℕ) → Counted failed a b → Rose a b → failed ≡ true
counted_rose {failed = true} a b h rose = refl
counted_rose {failed = false} a b h rose = absurd (omega (arith, rose, h))
