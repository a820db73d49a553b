-- How far a walk has come: all places of a cut are dealt with.
use Rattle.std.specs.Prelude.{◌≡◌, ◌⊎◌, ◌++◌, [], ◌∷◌, List}
use Rattle.std.specs.List.{Contains}
use Rattle.std.specs.declared.cmp.Ordering.TheVariants.{Less}
use Rattle.vk_spec.specs.Paths.{Path, path_cmp, Begins}
use Rattle.vk_spec.specs.Standing.{Disk, IsFile, Entry}
use Rattle.vk_tree.specs.Listing.{IsAscending}
use Rattle.vk_walk.specs.Walks.{Limits, Limit, Passes}

-- the files found are those of the cut, and no limit is passed in it
pub record Upto (most : Limits) (d : Disk) (folder : Path) (cut : Path → Type 0) (found : List Path) : Type 0 where
  pub order : IsAscending found
  pub sound : (q : Path) → Contains found q → IsFile d q × Begins folder q × cut q
  pub all : (q : Path) → IsFile d q → Begins folder q → cut q → Contains found q
  pub calm : (q : Path) (other : Limit) → cut q → Passes most d folder q other → ⊥

-- before a path
abbrev pub Before : Path → Path → Type 0
Before p q = path_cmp q p ≡ Less

-- before a path, or at or below it
abbrev pub Through : Path → Path → Type 0
Through p q = (path_cmp q p ≡ Less) ⊎ Begins p q

-- the same, but for what lies at or below these entries
abbrev pub Until : Path → List Entry → Path → Type 0
Until p rest q = Through p q × ((e : Entry) → Contains rest e → Begins (p ++ e.name ∷ []) q → ⊥)
