-- A folder's entries, found in the files after the folder in the order of their paths.
use Rattle.std.specs.Prelude.{◌≡◌, ◌≤◌, ◌<◌, ◌⊎◌, ◌++◌, ◌∷◌, [], ℕ, List, length, IsSome, Bool, true, false, Result, Ok, Err}
use Rattle.std.specs.List.{Contains}
use Rattle.std.specs.declared.cmp.Ordering.TheVariants.{Less}
use Rattle.std.specs.Ordering.{nat_cmp}
use Rattle.std.specs.Cmp.Lexicographic.{slice_cmp}
use Rattle.vk_spec.specs.Paths.{Path, path_cmp}
use Rattle.vk_spec.specs.Standing.{Disk, Entry, IsAs, ByName}
use Rattle.vk_base.specs.declared.stops.Stop.{Stop}
use Rattle.vk_base.specs.declared.stops.Stop.TheVariants.{Fault, Failed, Memory}
use Rattle.vk_tree.specs.declared.trees.ListFault.{ListFault}
use Rattle.vk_tree.specs.declared.trees.ListFault.TheVariants.{Missing, Many}

-- each path before the later ones
abbrev pub IsAscending : List Path → Type 0
IsAscending [] = Unit {0}
IsAscending (p ∷ ps) = ((q : Path) → Contains ps q → path_cmp p q ≡ Less) × IsAscending ps

-- what lies at or below a name lies below it
abbrev pub is_more : Path → Bool
is_more [] = false
is_more (part ∷ rest) = true

-- the name is that of the last entry
abbrev pub IsLastName : List Entry → List ℕ → Type 0
IsLastName found name = (front : List Entry) × (e : Entry) × (found ≡ front ++ e ∷ []) × (e.name ≡ name)

-- an entry is added where its name isn't that of the last one, unless there are as many as may be
abbrev pub Added : ℕ → List Entry → Entry → Result (Unit {0}) (Stop ListFault) → List Entry → Type 0
Added most old entry (Ok x) new = (IsLastName old entry.name × (new ≡ old)) ⊎ ((IsLastName old entry.name → ⊥) × (length old < most) × (new ≡ old ++ entry ∷ []))
Added most old entry (Err (Fault Many)) new = (IsLastName old entry.name → ⊥) × (most ≤ length old)
Added most old entry (Err (Fault Missing)) new = ⊥
Added most old entry (Err Failed) new = ⊥
Added most old entry (Err (Memory m)) new = Unit {0}

-- the entries found so far, while these files are left
pub record Lists (d : Disk) (dir : Path) (left : List Path) (found : List Entry) : Type 0 where
  pub order : ByName found
  pub sound : (e : Entry) → Contains found e → IsAs d (dir ++ e.name ∷ []) e.folder
  -- each name was found, or a file of it is left
  pub all : (name : List ℕ) (more : Path) → IsSome (d (dir ++ name ∷ more)) → ((e : Entry) × Contains found e × (e.name ≡ name)) ⊎ Contains left (dir ++ name ∷ more)
  -- what is left has a later name than those found, or the last one's
  pub ahead : (e : Entry) → Contains found e → (name : List ℕ) (more : Path) → Contains left (dir ++ name ∷ more) → (slice_cmp nat_cmp e.name name ≡ Less) ⊎ IsLastName found name
  -- the files that are left
  pub ascending : IsAscending left
  pub after : (q : Path) → Contains left q → path_cmp dir q ≡ Less
  pub files : (q : Path) → Contains left q → IsSome (d q)
