-- What stands at an entry is asked before anything is read or listed there.
use Rattle.std.specs.Prelude.{◌≡◌, ◌⊎◌, ℕ, List, Ok, Err}
use Rattle.std.specs.List.{Contains}
use Rattle.vk_spec.specs.Paths.{Path, Begins}
use Rattle.vk_spec.specs.Calls.{Call, kind_of, read_of, piece_of, list_of, write_of, rename_of, remove_of, is_file, is_folder, is_absent}
use Rattle.vk_protocol.specs.Protocols.{Protocol, Reply, ends, asks}
use Rattle.vk_publish.specs.Shared.{named_at}
use Rattle.vk_make.specs.Makes.{Task, Work, make_of}

-- a call reads or lists at the place or below it
abbrev pub LooksIn : Path → Call → Type 0
LooksIn place (kind_of p) = ⊥
LooksIn place (read_of p limit) = Begins place p
LooksIn place (piece_of p at most) = Begins place p
LooksIn place (list_of p) = Begins place p
LooksIn place (write_of p bytes) = ⊥
LooksIn place (rename_of a b) = ⊥
LooksIn place (remove_of p) = ⊥

-- it was asked what stands there, and something does
abbrev pub IsSeen : Path → (call : Call) → Reply call → Type 0
IsSeen place (kind_of p) (Ok is_file) = p ≡ place
IsSeen place (kind_of p) (Ok is_folder) = p ≡ place
IsSeen place (kind_of p) (Ok is_absent) = ⊥
IsSeen place (kind_of p) (Err r) = ⊥
IsSeen place (read_of p limit) reply = ⊥
IsSeen place (piece_of p at most) reply = ⊥
IsSeen place (list_of p) reply = ⊥
IsSeen place (write_of p bytes) reply = ⊥
IsSeen place (rename_of a b) reply = ⊥
IsSeen place (remove_of p) reply = ⊥

-- whatever is replied, nothing is read or listed there until then
abbrev pub IsSeenFirst : {A : Type 0} → Path → Protocol A → Type 0
IsSeenFirst place (ends x) = Unit {0}
IsSeenFirst place (asks call k) = (LooksIn place call → ⊥) × ((reply : Reply call) → IsSeen place call reply ⊎ IsSeenFirst place (k reply))

-- that holds of every name of an entry, where the cache is apart from the folders of the ports
abbrev pub MakesAsksFirst : Type 0
MakesAsksFirst =
    (w : Work) (tasks : List Task) (name : List ℕ)
    → ((t : Task) → Contains tasks t → Begins w.cache t.folder → ⊥)
    → ((t : Task) → Contains tasks t → Begins t.folder w.cache → ⊥)
    → IsSeenFirst (named_at w.cache name) (make_of w tasks)
