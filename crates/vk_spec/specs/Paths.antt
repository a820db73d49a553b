-- Paths of a tree: an anchor, then parts.
use Rattle.std.specs.Prelude.{◌≡◌, ◌++◌, ℕ, zero, suc, Bool, true, false, List, [], ◌∷◌}
use Rattle.std.specs.declared.cmp.Ordering.{Ordering}
use Rattle.std.specs.Ordering.{nat_cmp}
use Rattle.std.specs.Cmp.Lexicographic.{slice_cmp}

-- `..`, `../..`, and so on: one more step up than the number
abbrev pub steps_up : ℕ → List ℕ
steps_up zero = 46 ∷ 46 ∷ []
steps_up (suc n) = 46 ∷ 46 ∷ 47 ∷ steps_up n

-- where a path begins: `/`, `.`, or so many steps up
abbrev pub anchor : Bool → ℕ → List ℕ
anchor true ups = 47 ∷ []
anchor false zero = 46 ∷ []
anchor false (suc n) = steps_up n

-- a path's key: its anchor as one part, then its parts, each the bytes of a text
abbrev pub Path : Type 0
Path = List (List ℕ)

abbrev pub path_cmp : Path → Path → Ordering
path_cmp = slice_cmp (slice_cmp nat_cmp)

-- the one path begins the other
abbrev pub Begins : Path → Path → Type 0
Begins p q = (rest : Path) × (q ≡ p ++ rest)

-- every path but this
abbrev pub IsOther : Path → Path → Type 0
IsOther p q = p ≡ q → ⊥

-- neither at the path nor below it
abbrev pub IsApart : Path → Path → Type 0
IsApart p q = Begins p q → ⊥
