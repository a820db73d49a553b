-- Which calls of a fake are to go wrong, by their numbers counted from 1.
use Rattle.std.specs.Prelude.{◌==◌, ◌&&◌, ◌-◌, ◌^◌, ℕ, Bool, true, false, List, length}
use Rattle.std.specs.Prelude.{if◌then◌else◌, nat_le, nat_lt}
use Rattle.std.specs.List.{list_any}
use Rattle.vk_spec.specs.Counts.{counted_up}
use Rattle.vk_base.specs.declared.schedules.Schedule.{Schedule}
use Rattle.vk_base.specs.declared.schedules.Turn.{Turn}
use Rattle.vk_base.specs.declared.schedules.Turn.TheVariants.{Listed, Stopped, Free}

-- the last number of all, which stops nothing
abbrev pub no_stop : ℕ
no_stop = 2 ^ 64 - 1

-- a call is one of those that are listed
abbrev pub is_listed : ℕ → List ℕ → Bool
is_listed call calls = list_any (λ n. n == call) calls

-- a call is at or after the one where the fake stops
abbrev pub is_after : ℕ → ℕ → Bool
is_after call from = nat_le from call && nat_lt from no_stop

-- how the next call goes
abbrev pub turn_of : Schedule → Turn
turn_of s =
    if is_listed (counted_up s.calls) s.listed then Listed else
    if is_after (counted_up s.calls) s.from then Stopped else
    Free

-- a call goes wrong
abbrev pub is_wrong : Turn → Bool
is_wrong Listed = true
is_wrong Stopped = true
is_wrong Free = false

-- no call is to go wrong
abbrev pub is_calm : Schedule → Bool
is_calm s = (length s.listed == 0) && (s.from == no_stop)

-- one call more was made
abbrev pub with_call : Schedule → Schedule
with_call s = record s { calls = counted_up s.calls }

-- these calls are listed
abbrev pub with_listed : List ℕ → Schedule → Schedule
with_listed calls s = record s { listed = calls }

-- the fake stops at this call
abbrev pub with_stop : ℕ → Schedule → Schedule
with_stop call s = record s { from = call }

-- a count of faults after a call that went wrong or didn't
abbrev pub raised : Bool → ℕ → ℕ
raised true n = counted_up n
raised false n = n
