-- How many steps there are.
use Rattle.std.proofs.Common.{◌≡◌, ◌≤◌, ◌+◌, ℕ, zero, suc, List, [], ◌∷◌, ◌++◌, length, take, ap, ◌∙◌, arith}
use Rattle.vk_resolution.specs.Settings as who
use Rattle.vk_resolution.specs.Asking.{Fact, need, floor, visit}
use Rattle.vk_worklist.specs.Ticks.{tick_of, ticks}

pub ticks_more : (xs : List Fact) (y : Fact) → ticks (xs ++ y ∷ []) ≡ ticks xs + tick_of y
ticks_more [] y = omega arith
ticks_more (x ∷ xs) y = let rest : ticks (xs ++ y ∷ []) ≡ ticks xs + tick_of y = ticks_more xs y in omega (arith, rest)

tick_few : (x : Fact) → tick_of x ≤ 1
tick_few (need (who.root t) f) = omega arith
tick_few (need (who.inst i) f) = omega arith
tick_few (floor p a) = omega arith
tick_few (visit i f a) = omega arith

pub ticks_few : (xs : List Fact) → ticks xs ≤ length xs
ticks_few [] = omega arith
ticks_few (x ∷ xs) = let rest : ticks xs ≤ length xs = ticks_few xs in omega (arith, rest, tick_few x)

pub ticks_take : (n : ℕ) (xs : List Fact) → ticks (take n xs) ≤ ticks xs
ticks_take zero xs = omega arith
ticks_take (suc n) [] = omega arith
ticks_take (suc n) (x ∷ xs) = let rest : ticks (take n xs) ≤ ticks xs = ticks_take n xs in omega (arith, rest)

pub tick_step : (facts : List Fact) (n : ℕ) (y : Fact) (old new : ℕ) → take (n + 1) facts ≡ take n facts ++ y ∷ [] → new ≤ old + tick_of y → new + ticks (take n facts) ≤ old + ticks (take (n + 1) facts)
tick_step facts n y old new at ticked =
    let more : ticks (take (n + 1) facts) ≡ ticks (take n facts) + tick_of y = ap ticks at ∙ ticks_more (take n facts) y in
    omega (arith, more, ticked)

pub ticks_within : (facts : List Fact) (most old now n : ℕ) → length facts ≤ most → n ≤ old + ticks (take now facts) → (after : ℕ) → after + ticks (take now facts) ≤ n + ticks facts → after ≤ old + most
ticks_within facts most old now n few before after more = let long = ticks_few facts in omega (arith, few, before, more, long)
