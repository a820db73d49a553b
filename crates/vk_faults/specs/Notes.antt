-- Troubles that are noted with lines.
use Rattle.std.specs.Prelude.{◌≡◌, ◌⊎◌, ℕ, List, map, flat_map, Some}
use Rattle.std.specs.List.{Contains, list_any}
use Rattle.std.specs.List.Sorted.{IsStrictlySortedBy}
use Rattle.std.specs.Map.{keys_of}
use Rattle.vk_resolution.specs.Keys.{Key, key_cmp}
use Rattle.vk_resolution.specs.Asking.{Fact}
use Rattle.vk_resolution.specs.Reasons.{first_line}
use Rattle.vk_resolution.specs.Faults as plain
use Rattle.vk_resolution.specs.Faults.{Fault, troubled, trouble_key, same_trouble}
use Rattle.vk_faults.specs.declared.troubles.Trouble.{Trouble}
use Rattle.vk_faults.specs.Troubles.{trouble_view}

-- a trouble and a line
abbrev pub Note : Type 0
Note = plain.Trouble × ℕ

-- entries by keys, as they are noted
abbrev pub Entry : Type 0
Entry = Key × (Trouble × ℕ)

abbrev pub note_of : Entry → Note
note_of e = (trouble_view e.1.0, e.1.1)

abbrev pub noted : List Entry → List Note
noted es = map note_of es

abbrev pub fault_of : Note → Fault
fault_of note = troubled note.0 note.1

-- each stands by the key of its trouble, and the keys ascend
pub record AreKeyed (es : List Entry) : Type 0 where
  pub each : (e : Entry) → Contains es e → e.0 ≡ trouble_key (trouble_view e.1.0)
  pub ordered : IsStrictlySortedBy key_cmp (keys_of es)

-- the troubles are noted on the line, but for those that were noted before
pub record IsNoted (troubles : List plain.Trouble) (line : ℕ) (old new : List Note) : Type 0 where
  pub keeps : (note : Note) → Contains old note → Contains new note
  pub has : (t : plain.Trouble) → Contains troubles t → (n : ℕ) × Contains new (t, n)
  pub only : (note : Note) → Contains new note → Contains old note ⊎ ((note.1 ≡ line) × Contains troubles note.0 × ((n : ℕ) → Contains old (note.0, n) → ⊥))

-- what the facts meet is noted, with the first line that meets it
pub record HaveFirstLines (met : Fact → List plain.Trouble) (facts : List Fact) (notes : List Note) : Type 0 where
  pub first : (note : Note) → Contains notes note → first_line (λ x. list_any (same_trouble note.0) (met x)) facts ≡ Some note.1
  pub all : (t : plain.Trouble) → Contains (flat_map met facts) t → (n : ℕ) × Contains notes (t, n)
