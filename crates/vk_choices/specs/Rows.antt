-- Ports, each with what is listed of it.
use Rattle.std.specs.Prelude.{◌≡◌, ◌++◌, ℕ, List, [], ◌∷◌, Option, Some, None, bytes_eq, if◌then◌else◌}
use Rattle.std.specs.Ordering.{nat_cmp}
use Rattle.std.specs.Cmp.Lexicographic.{slice_cmp}
use Rattle.std.specs.Map.{lookup, keys_of}
use Rattle.std.specs.List.Sorted.{IsStrictlySortedBy}

-- ports with lists
abbrev pub Rows : Type 0 → Type 0
Rows T = List (List ℕ × List T)

-- the row of a port
abbrev pub row_of : {T : Type 0} → Rows T → List ℕ → Option (List T)
row_of rows p = lookup (bytes_eq p) rows

-- what a row lists, nothing where there is none
abbrev pub in_row : {T : Type 0} → Option (List T) → List T
in_row None = []
in_row (Some xs) = xs

-- what is listed of a port
abbrev pub listed_of : {T : Type 0} → Rows T → List ℕ → List T
listed_of rows p = in_row (row_of rows p)

-- a port of which nothing is listed has no row
abbrev pub NoneIsEmpty : {T : Type 0} → Rows T → Type 0
NoneIsEmpty rows = (p : List ℕ) → listed_of rows p ≡ [] → row_of rows p ≡ None

-- the ports ascend
abbrev pub AreInOrder : {T : Type 0} → Rows T → Type 0
AreInOrder rows = IsStrictlySortedBy (slice_cmp nat_cmp) (keys_of rows)

-- one thing more is listed of a port, and of all others what was
pub record HasOneMore {T : Type 0} (port : List ℕ) (x : T) (old new : Rows T) : Type 0 where
  pub listed : (p : List ℕ) → listed_of new p ≡ listed_of old p ++ (if bytes_eq port p then x ∷ [] else [])
  pub some : NoneIsEmpty old → NoneIsEmpty new
