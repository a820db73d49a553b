-- Reading gives a value or the first fault.
use Rattle.std.specs.Prelude.{◌≡◌, ◌+◌, ◌++◌, ℕ, List, [], ◌∷◌, Option, Some, None, Result, Ok, Err}

-- then: the next step reads on, unless there is a fault already
infixl 10 ◌>>=◌
abbrev pub ◌>>=◌ : {A B F : Type 0} → Result A F → (A → Result B F) → Result B F
(Ok x) >>= f = f x
(Err e) >>= f = Err e

-- what must be there, or this is the fault
abbrev pub or_fault : {A F : Type 0} → F → Option A → Result A F
or_fault fault None = Err fault
or_fault fault (Some x) = Ok x

-- the members of a list in order, each read by f with its number, from the number n on
unfoldable pub read_each : {X A F : Type 0} → (ℕ → X → Result A F) → ℕ → List X → Result (List A) F
read_each f n [] = Ok []
read_each f n (x ∷ xs) = f n x >>= λ y. read_each f (n + 1) xs >>= λ ys. Ok (y ∷ ys)

-- a call that failed told the fault that reading has; one without a fault to tell lacked memory
abbrev pub Fails : {Y F : Type 0} → Option F → Result Y F → Type 0
Fails None read = Unit {0}
Fails (Some fault) read = read ≡ Err fault

-- what a reader answers is what reading gives, unless memory ran out
abbrev pub Gives : {X Y E F : Type 0} → (X → Y) → (E → Option F) → Result X E → Result Y F → Type 0
Gives view fault_of (Ok x) read = read ≡ Ok (view x)
Gives view fault_of (Err e) read = Fails (fault_of e) read

-- the members of a list in order, each read by f with those that were read before it and its number
unfoldable pub read_after : {X A F : Type 0} → (List A → ℕ → X → Result A F) → List A → ℕ → List X → Result (List A) F
read_after f earlier n [] = Ok earlier
read_after f earlier n (x ∷ xs) = f earlier n x >>= λ y. read_after f (earlier ++ y ∷ []) (n + 1) xs
