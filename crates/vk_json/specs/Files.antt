-- A file that is read: it may be absent, or too long.
use Rattle.std.specs.Prelude.{ℕ, List, length, nat_lt, Option, Some, None, Result, Err}
use Rattle.std.specs.Prelude.{if◌then◌else◌}
use Rattle.vk_json.specs.declared.faults.FileFault.{FileFault}
use Rattle.vk_json.specs.Places.{here}
use Rattle.vk_json.specs.declared.faults.Why.TheVariants as why

-- what bytes mean, where a file of at most so many bytes is there
abbrev pub file_of : {A : Type 0}
    → ℕ → (List ℕ → Result A FileFault) → Option (List ℕ) → Result A FileFault
file_of most reading None = Err (here why.Absent)
file_of most reading (Some bytes) =
    if nat_lt most (length bytes) then Err (here why.Large) else reading bytes
