-- What files make a tree.
use Rattle.std.specs.Prelude.{◌≡◌, ◌++◌, ◌∷◌, ℕ, List, None, IsSome}
use Rattle.vk_spec.specs.Paths.{Path}
use Rattle.vk_spec.specs.Standing.{Disk}

-- no file lies below a file
abbrev pub IsTreeDisk : Disk → Type 0
IsTreeDisk d = (p : Path) (part : List ℕ) (rest : Path) → IsSome (d p) → d (p ++ part ∷ rest) ≡ None
