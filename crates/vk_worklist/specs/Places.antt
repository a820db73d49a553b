-- Where the entry of a key stands in a map that keeps its order, and which ports have places.
use Rattle.std.specs.Prelude.{◌≡◌, ◌<◌, ℕ, false, List, Some, slice_get, bytes_eq}
use Rattle.vk_resolution.specs.Settings.{root, inst}
use Rattle.vk_resolution.specs.Asking.{Fact, need, floor, visit}

pub record IsPlace {A : Type 0} (entries : List (List ℕ × A)) (key : List ℕ) (place : ℕ) : Type 0 where
  pub value : A
  pub at : slice_get entries place ≡ Some (key, value)

-- of the ports that have places, by their names, this is the place of one: the first where it stands
pub record IsSeat (seats : List (List ℕ)) (port : List ℕ) (place : ℕ) : Type 0 where
  pub at : slice_get seats place ≡ Some port
  pub first : (k : ℕ) (other : List ℕ) → k < place → slice_get seats k ≡ Some other → bytes_eq port other ≡ false

-- it is the place of the port by which the fact is joined: a need of an instance, or a floor
abbrev pub IsSeatOf : List (List ℕ) → Fact → ℕ → Type 0
IsSeatOf seats (need (root t) f) place = ⊥
IsSeatOf seats (need (inst i) f) place = IsSeat seats i.port place
IsSeatOf seats (floor p a) place = IsSeat seats p place
IsSeatOf seats (visit i f a) place = ⊥

-- each port that has a place keeps it
abbrev pub KeepsSeats : List (List ℕ) → List (List ℕ) → Type 0
KeepsSeats old new = (k : ℕ) (port : List ℕ) → slice_get old k ≡ Some port → slice_get new k ≡ Some port
