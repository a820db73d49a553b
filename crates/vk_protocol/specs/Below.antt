-- Calls that read in one place, and what they are told there.
use Rattle.vk_spec.specs.Paths.{Path, Begins}
use Rattle.vk_spec.specs.Calls.{Call, kind_of, read_of, piece_of, list_of, write_of, rename_of, remove_of}

-- a call that reads at a path or below it
abbrev pub ReadsBelow : Path → Call → Type 0
ReadsBelow place (kind_of p) = Begins place p
ReadsBelow place (read_of p limit) = Begins place p
ReadsBelow place (piece_of p at most) = Begins place p
ReadsBelow place (list_of p) = Begins place p
ReadsBelow place (write_of p bytes) = ⊥
ReadsBelow place (rename_of a b) = ⊥
ReadsBelow place (remove_of p) = ⊥
