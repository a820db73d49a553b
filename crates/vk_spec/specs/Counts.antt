-- Counts that never fall: when one may have increased, and when it rose.
use Rattle.std.specs.Prelude.{◌≡◌, ◌+◌, ◌-◌, ◌^◌, ◌≤◌, ◌<◌, ℕ, Bool, true, false, min}

-- the next value of a count, which stays at its last one
abbrev pub counted_up : ℕ → ℕ
counted_up n = min (n + 1) (2 ^ 64 - 1)

-- the count may have increased: it did, or it stands at its last value
abbrev pub MayHaveRisen : ℕ → ℕ → Type 0
MayHaveRisen before now = counted_up before ≤ now

-- the count rose
abbrev pub Rose : ℕ → ℕ → Type 0
Rose before now = before < now

-- a call that failed has a count that may have increased; any other leaves it as it was
abbrev pub Counted : Bool → ℕ → ℕ → Type 0
Counted true before now = (before ≤ now) × MayHaveRisen before now
Counted false before now = now ≡ before
