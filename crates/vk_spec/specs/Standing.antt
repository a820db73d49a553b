-- What stands at a path of a tree, and what a folder has in it.
use Rattle.std.specs.Prelude.{◌≡◌, ◌++◌, [], ◌∷◌, ℕ, List, Bool, true, false, Option, Some, None, IfSome, IsSome, cond}
use Rattle.std.specs.List.{Contains}
use Rattle.std.specs.declared.cmp.Ordering.TheVariants.{Less}
use Rattle.std.specs.Ordering.{nat_cmp, eq_by_cmp}
use Rattle.std.specs.Cmp.Lexicographic.{slice_cmp}
use Rattle.std.specs.FinMap as map
use Rattle.vk_spec.specs.Paths.{Path, path_cmp}
use Rattle.vk_spec.specs.Files.{Files}
use Rattle.vk_spec.specs.States.{State}

-- the bytes at each path
abbrev pub Disk : Type 0
Disk = Path → Option (List ℕ)

abbrev pub disk_of : Files → Disk
disk_of f = λ p. map.get f p

-- where the files are told, this holds of them
abbrev pub OnFiles : (Disk → Type 0) → State → Type 0
OnFiles P s = IfSome s.told (λ t. P (disk_of t.files))

-- what stands below a path, by what follows it
abbrev pub under : Path → Disk → Disk
under a d = λ r. d (a ++ r)

abbrev pub bare : Disk
bare = λ p. None

-- the same but for one path, where these bytes stand, or nothing
abbrev pub put : Path → List ℕ → Disk → Disk
put p bytes d = λ q. cond (eq_by_cmp path_cmp q p) (Some bytes) (d q)

abbrev pub drop_at : Path → Disk → Disk
drop_at p d = λ q. cond (eq_by_cmp path_cmp q p) None (d q)

abbrev pub Same : Disk → Disk → Type 0
Same d e = (p : Path) → e p ≡ d p

-- the same but at these paths
abbrev pub Else : (Path → Type 0) → Disk → Disk → Type 0
Else P d e = (p : Path) → (P p → ⊥) → e p ≡ d p

-- a file stands there
abbrev pub IsFile : Disk → Path → Type 0
IsFile d p = IsSome (d p)

-- a folder stands there: a file lies below
abbrev pub IsFolder : Disk → Path → Type 0
IsFolder d p = (part : List ℕ) × (rest : Path) × IsSome (d (p ++ part ∷ rest))

-- something stands there or below
abbrev pub Stands : Disk → Path → Type 0
Stands d p = (rest : Path) × IsSome (d (p ++ rest))

-- a name in a folder, and whether it is a folder itself
pub record Entry : Type 0 where
  pub name : List ℕ
  pub folder : Bool

-- what stands there is what the entry says
abbrev pub IsAs : Disk → Path → Bool → Type 0
IsAs d p true = IsFolder d p
IsAs d p false = IsFile d p

-- each name before the later ones, by their bytes
abbrev pub ByName : List Entry → Type 0
ByName [] = Unit {0}
ByName (e ∷ es) = ((f : Entry) → Contains es f → slice_cmp nat_cmp e.name f.name ≡ Less) × ByName es

-- some entries of a folder, each once and in order
pub record AreEntries (d : Disk) (folder : Path) (entries : List Entry) : Type 0 where
  pub order : ByName entries
  pub sound : (e : Entry) → Contains entries e → IsAs d (folder ++ e.name ∷ []) e.folder

-- all entries of a folder: each name at which, or below which, something stands, once and in order
pub record IsListing (d : Disk) (folder : Path) (entries : List Entry) : Type 0 where
  pub entries_of : AreEntries d folder entries
  pub all : (name : List ℕ) (rest : Path) → IsSome (d (folder ++ name ∷ rest)) → (e : Entry) × Contains entries e × (e.name ≡ name)
