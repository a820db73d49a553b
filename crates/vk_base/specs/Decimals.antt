-- How a text of digits begins.
use Rattle.std.specs.Prelude.{◌==◌, ◌&&◌, ◌||◌, ℕ, Bool, nat_lt, List, length, slice_index}

-- with a plus, or with a zero that isn't alone
abbrev pub is_padded : List ℕ → Bool
is_padded text = slice_index text 0 == 43 || slice_index text 0 == 48 && nat_lt 1 (length text)
