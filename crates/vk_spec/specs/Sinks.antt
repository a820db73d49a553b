-- What is known of a sink of bytes, and what it does with a piece.
use Rattle.std.specs.Prelude.{◌≡◌, ◌≤◌, ◌<◌, ◌+◌, ◌++◌, ◌==◌, ◌&&◌, ℕ, Bool, true, false, not, List, length, take, Option, Some, None, Result, Ok, Err, is_err}
use Rattle.vk_spec.specs.Counts.{Counted}

pub record SinkState : Type 0 where
  -- what it took, where it tells it
  pub taken : Option (List ℕ)
  -- how many calls failed, or took nothing of a piece that isn't empty
  pub faults : ℕ
  -- how many of these failed
  pub failures : ℕ
  -- how many more bytes it is sure to take
  pub room : ℕ

-- these bytes were taken besides
abbrev pub Taken : Option (List ℕ) → List ℕ → Option (List ℕ) → Type 0
Taken None bytes now = now ≡ None
Taken (Some before) bytes now = now ≡ Some (before ++ bytes)

-- how much of a piece was taken, where the call didn't fail
abbrev pub count_taken : Option ℕ → ℕ
count_taken None = 0
count_taken (Some n) = n

-- the call failed, or took nothing of a piece that isn't empty
abbrev pub is_stopped : List ℕ → Option ℕ → Bool
is_stopped piece None = true
is_stopped piece (Some n) = (n == 0) && not (length piece == 0)

-- the call failed
abbrev pub put_failed : Option ℕ → Bool
put_failed None = true
put_failed (Some n) = false

-- the first part of the piece is taken; `None` is a call that failed
pub record Puts (piece : List ℕ) (answer : Option ℕ) (before after : SinkState) : Type 0 where
  pub within : count_taken answer ≤ length piece
  pub taken : Taken before.taken (take (count_taken answer) piece) after.taken
  pub faults : Counted (is_stopped piece answer) before.faults after.faults
  pub failures : Counted (put_failed answer) before.failures after.failures
  pub room : before.room ≤ after.room + count_taken answer
  pub safe : 0 < before.room → is_stopped piece answer ≡ false

-- the first part of the bytes was taken, and the rest was not
pub record TookFront (before : Option (List ℕ)) (bytes rest : List ℕ) (now : Option (List ℕ)) : Type 0 where
  pub front : List ℕ
  pub split : bytes ≡ front ++ rest
  pub taken : Taken before front now

-- the bytes were taken whole, or the first part of them where a call stopped
abbrev pub Went : Bool → Option (List ℕ) → List ℕ → Option (List ℕ) → Type 0
Went false before bytes now = Taken before bytes now
Went true before bytes now = (rest : List ℕ) × TookFront before bytes rest now

-- bytes were sent, and whether a call stopped, the last; a sink that is sure to have room for them stops at none
pub record Sent (bytes : List ℕ) (stopped : Bool) (before after : SinkState) : Type 0 where
  pub taken : Went stopped before.taken bytes after.taken
  pub faults : Counted stopped before.faults after.faults
  pub room : before.room ≤ after.room + length bytes
  pub safe : length bytes ≤ before.room → stopped ≡ false

-- why bytes weren't sent whole: a call failed, or the sink took nothing after so many bytes
pub data Stop : Type 0 where
  failed : Stop
  nothing : ℕ → Stop

-- what was taken where the sink took nothing more
abbrev pub TookUpTo : Result (Unit {0}) Stop → List ℕ → Option (List ℕ) → Option (List ℕ) → Type 0
TookUpTo (Ok x) bytes before now = Unit {0}
TookUpTo (Err failed) bytes before now = Unit {0}
TookUpTo (Err (nothing at)) bytes before now = (at < length bytes) × Taken before (take at bytes) now

-- a call of the sink failed
abbrev pub send_failed : Result (Unit {0}) Stop → Bool
send_failed (Ok x) = false
send_failed (Err failed) = true
send_failed (Err (nothing at)) = false

-- bytes are sent whole, or the answer says why not: a call that failed is told as one, and none else
pub record Sends (bytes : List ℕ) (answer : Result (Unit {0}) Stop) (before after : SinkState) : Type 0 where
  pub sent : Sent bytes (is_err answer) before after
  pub place : TookUpTo answer bytes before.taken after.taken
  pub failures : Counted (send_failed answer) before.failures after.failures
