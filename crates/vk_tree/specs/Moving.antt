-- Where a path is moved.
use Rattle.std.specs.Prelude.{◌≡◌, ◌⊎◌, ◌++◌}
use Rattle.vk_spec.specs.Paths.{Path, Begins}

-- what begins with the one path then begins with the other, and any other path stays
abbrev pub IsMovedTo : Path → Path → Path → Path → Type 0
IsMovedTo from to path moved = ((rest : Path) × (path ≡ from ++ rest) × (moved ≡ to ++ rest)) ⊎ ((Begins from path → ⊥) × (moved ≡ path))
