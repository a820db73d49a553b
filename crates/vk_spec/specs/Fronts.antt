-- What is left of bytes after their first part.
use Rattle.std.specs.Prelude.{◌==◌, ℕ, List, [], ◌∷◌, Option, Some, None, if◌then◌else◌}

-- the rest, where the bytes begin with the front
abbrev pub after : List ℕ → List ℕ → Option (List ℕ)
after [] bytes = Some bytes
after (f ∷ fs) [] = None
after (f ∷ fs) (b ∷ bs) = if f == b then after fs bs else None
