-- Lists as sets: what they hold, and that nothing stands twice.
use Rattle.std.specs.Prelude.{List, [], ◌∷◌}
use Rattle.std.specs.List.{Contains}

-- no element stands twice
abbrev pub NoRepeats : {X : Type 0} → List X → Type 0
NoRepeats [] = Unit {0}
NoRepeats (x ∷ xs) = (Contains xs x → ⊥) × NoRepeats xs

-- each element of the one list is in the other
abbrev pub IsWithin : {X : Type 0} → List X → List X → Type 0
IsWithin {X} xs ys = (x : X) → Contains xs x → Contains ys x
