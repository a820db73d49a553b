-- What a tree of files holds: bytes at paths.
use Rattle.std.specs.Prelude.{◌≡◌, ◌++◌, ◌∷◌, ℕ, List, None, IsSome}
use Rattle.std.specs.FinMap as map
use Rattle.std.specs.Coded.{Coded, coded_list, coded_ℕ}
use Rattle.vk_spec.specs.Paths.{Path, path_cmp}

-- the bytes at each path
abbrev pub Files : Type 0
Files = map.FinMap path_cmp (List ℕ)

abbrev pub coded_files : Coded Files
coded_files = map.code (coded_list (coded_list coded_ℕ)) (coded_list coded_ℕ)

-- no file lies below a file
abbrev pub IsTree : Files → Type 0
IsTree files = (p : Path) (part : List ℕ) (rest : Path) → IsSome (map.get files p) → map.get files (p ++ part ∷ rest) ≡ None

-- both hold the same at each path of which the test holds
abbrev pub AgreeWhere : (Path → Type 0) → Files → Files → Type 0
AgreeWhere test before after = (q : Path) → test q → map.get after q ≡ map.get before q

-- no file stands above the path
abbrev pub IsFreeAbove : Path → Files → Type 0
IsFreeAbove p files = (q : Path) (part : List ℕ) (rest : Path) → p ≡ q ++ part ∷ rest → map.get files q ≡ None

-- no file stands below the path
abbrev pub IsFreeBelow : Path → Files → Type 0
IsFreeBelow p files = (part : List ℕ) (rest : Path) → map.get files (p ++ part ∷ rest) ≡ None

-- no file stands above the path or below it
pub record HasRoomFor (p : Path) (files : Files) : Type 0 where
  pub above : IsFreeAbove p files
  pub below : IsFreeBelow p files
