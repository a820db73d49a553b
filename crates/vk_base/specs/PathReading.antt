-- Which path a text says, and what is wrong with every other text.
use Rattle.std.specs.Prelude.{◌||◌, ◌==◌, ◌++◌, ℕ, Bool, nat_lt, List, [], ◌∷◌, length, slice_index}
use Rattle.std.specs.Prelude.{Option, Some, None, Result, Ok, Err, if◌then◌else◌}
use Rattle.std.specs.List.{position, slice_split}
use Rattle.std.specs.Str.{bytes_eq}
use Rattle.vk_spec.specs.Paths.{Path, anchor}
use Rattle.vk_spec.specs.Reading.{◌>>=◌}
use Rattle.vk_base.specs.Paths.{climbed}
use Rattle.vk_base.specs.declared.paths.PathFault.{PathFault}
use Rattle.vk_base.specs.declared.paths.PathFault.TheVariants as fault

-- a byte 0, at the first place that has one
abbrev pub zero_fault : Option ℕ → Result (Unit {0}) PathFault
zero_fault None = Ok tt
zero_fault (Some at) = Err (fault.Zero at)

-- a text has bytes, at most 4,096 of them, and no byte 0
abbrev pub checked : List ℕ → Result (Unit {0}) PathFault
checked text =
    if length text == 0 then Err fault.Empty else
    if nat_lt 4096 (length text) then Err fault.TooLong else
    zero_fault (position (λ b. b == 0) text)

-- what stands between one `/` and the next
abbrev pub segments : List ℕ → List (List ℕ)
segments text = slice_split (λ b. b == 47) text

-- nothing and `.` stay where they are
abbrev pub stays : List ℕ → Bool
stays segment = (length segment == 0) || bytes_eq segment (46 ∷ [])

abbrev pub climbs : List ℕ → Bool
climbs segment = bytes_eq segment (46 ∷ 46 ∷ [])

-- the path and then a segment
abbrev pub with_segment : Path → List ℕ → Path
with_segment key segment = if stays segment then key else if climbs segment then climbed key 1 else key ++ segment ∷ []

-- the path and then these segments
unfoldable pub walked : Path → List (List ℕ) → Path
walked key [] = key
walked key (segment ∷ more) = walked (with_segment key segment) more

-- a text that begins with `/` begins there, any other here
abbrev pub start_of : List ℕ → Path
start_of text = anchor (slice_index text 0 == 47) 0 ∷ []

abbrev pub path_of : List ℕ → Result Path PathFault
path_of text = checked text >>= λ u. Ok (walked (start_of text) (segments text))
