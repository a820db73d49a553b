-- The rows of ports: on which lines their needs stand, and those of their floors that are visited.
use Rattle.std.specs.Prelude.{◌≡◌, ◌≤◌, ◌++◌, ℕ, suc, Bool, false, ◌&&◌, List, [], ◌∷◌, map, length, zip, Option, Some, None, bytes_eq, if◌then◌else◌}
use Rattle.std.specs.Map.{lookup}
use Rattle.vk_resolution.specs.Settings.{root, inst}
use Rattle.vk_resolution.specs.Asking.{Fact, need, floor, visit}
use Rattle.vk_resolution.specs.Consequences.{Inputs}
use Rattle.vk_worklist.specs.Alone.{joins}
use Rattle.vk_worklist.specs.declared.rows.Row.{Row}

abbrev pub needs_in : Option Row → List ℕ
needs_in None = []
needs_in (Some r) = r.needs.items

abbrev pub floors_in : Option Row → List ℕ
floors_in None = []
floors_in (Some r) = r.floors.items

abbrev pub needs_of : List (List ℕ × Row) → List ℕ → List ℕ
needs_of ports p = needs_in (lookup (bytes_eq p) ports)

abbrev pub floors_of : List (List ℕ × Row) → List ℕ → List ℕ
floors_of ports p = floors_in (lookup (bytes_eq p) ports)

-- a need of an instance of the port
abbrev pub is_need_of : List ℕ → Fact → Bool
is_need_of p (need (root t) f) = false
is_need_of p (need (inst i) f) = bytes_eq i.port p
is_need_of p (floor q a) = false
is_need_of p (visit i f a) = false

-- a floor of the port
abbrev pub is_floor_at : List ℕ → Fact → Bool
is_floor_at p (need who f) = false
is_floor_at p (floor q a) = bytes_eq q p
is_floor_at p (visit i f a) = false

-- a floor of the port whose version is visited
abbrev pub is_floor_of : Inputs → List ℕ → Fact → Bool
is_floor_of inputs p x = is_floor_at p x && joins inputs x

-- the lines of the facts that pass, counted from 1
abbrev pub lines_where : (Fact → Bool) → List Fact → List ℕ
lines_where test [] = []
lines_where test (x ∷ xs) = (if test x then 1 ∷ [] else []) ++ map suc (lines_where test xs)

-- the rows have the lines of each port's needs and of its visited floors
pub record HasLines (inputs : Inputs) (ports : List (List ℕ × Row)) (taken : List Fact) : Type 0 where
  pub needs : (p : List ℕ) → needs_of ports p ≡ lines_where (is_need_of p) taken
  pub floors : (p : List ℕ) → floors_of ports p ≡ lines_where (is_floor_of inputs p) taken

-- the rows stand at the places of ports, and have their lines
pub record AreRows (inputs : Inputs) (seats : List (List ℕ)) (rows : List Row) (taken : List Fact) : Type 0 where
  pub within : length rows ≤ length seats
  pub lines : HasLines inputs (zip seats rows) taken
