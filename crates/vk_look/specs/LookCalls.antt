-- Which calls a look makes.
use Rattle.std.specs.Prelude.{◌≡◌, ◌∷◌, List, Bool, Ok, Err}
use Rattle.std.specs.List.{Contains}
use Rattle.vk_spec.specs.Lists.{NoRepeats}
use Rattle.vk_spec.specs.Paths.{Path, Begins}
use Rattle.vk_spec.specs.States.{State, Looks}
use Rattle.vk_spec.specs.Calls.{Call, kind_of, read_of, piece_of, list_of, write_of, rename_of, remove_of, is_absent, Refusal}
use Rattle.vk_protocol.specs.Protocols.{Protocol, Reply, ends, asks}
use Rattle.vk_protocol.specs.Runs.{IsAtEnd}

-- it is asked first what stands at the path, and nothing more where nothing does
pub record AsksFirst {A : Type 0} (place : Path) (p : Protocol A) : Type 0 where
  pub next : Reply (kind_of place) → Protocol A
  pub first : p ≡ asks (kind_of place) next
  pub nothing : IsAtEnd (next (Ok is_absent))
  pub refused : (r : Refusal) → IsAtEnd (next (Err r))

-- whatever is replied, it comes to such an end
abbrev pub ComesTo : {A : Type 0} → (A → Type 0) → Protocol A → Type 0
ComesTo P (ends x) = P x
ComesTo P (asks call k) = (reply : Reply call) → ComesTo P (k reply)

-- ---- no path is read twice

-- a call reads none of these paths
abbrev pub ReadsNone : List Path → Call → Type 0
ReadsNone seen (kind_of p) = Unit {0}
ReadsNone seen (read_of p limit) = Contains seen p → ⊥
ReadsNone seen (piece_of p at most) = Contains seen p → ⊥
ReadsNone seen (list_of p) = Unit {0}
ReadsNone seen (write_of p bytes) = Unit {0}
ReadsNone seen (rename_of a b) = Unit {0}
ReadsNone seen (remove_of p) = Unit {0}

-- the paths that were read, with that of a call
abbrev pub with_read : Call → List Path → List Path
with_read (kind_of p) seen = seen
with_read (read_of p limit) seen = p ∷ seen
with_read (piece_of p at most) seen = p ∷ seen
with_read (list_of p) seen = seen
with_read (write_of p bytes) seen = seen
with_read (rename_of a b) seen = seen
with_read (remove_of p) seen = seen

-- whatever is replied: no path is read twice, and none of these at all
abbrev pub ReadsAnew : {A : Type 0} → List Path → Protocol A → Type 0
ReadsAnew seen (ends x) = Unit {0}
ReadsAnew seen (asks call k) = ReadsNone seen call × ((reply : Reply call) → ReadsAnew (with_read call seen) (k reply))

-- these paths were read, each at the place or below it and none twice, and nothing else was done
pub record ReadOnceBelow (place : Path) (failed : Bool) (before after : State) : Type 0 where
  pub asked : List Path
  pub looks : Looks asked failed before after
  pub below : (q : Path) → Contains asked q → Begins place q
  pub once : NoRepeats asked
