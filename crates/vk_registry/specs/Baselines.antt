-- A baseline: what is asked for of each port where nothing else says so.
use Rattle.std.specs.Prelude.{◌==◌, ℕ, Bool, List, [], ◌∷◌, Option, Some, None, Result, Ok}
use Rattle.std.specs.Prelude.{codes, map, slice_index, if◌then◌else◌}
use Rattle.std.specs.List.{flat_map}
use Rattle.std.specs.List.Sorted.{IsStrictlySortedBy}
use Rattle.std.specs.Option.{option_to_list}
use Rattle.std.specs.Ordering.{nat_cmp}
use Rattle.std.specs.Cmp.Lexicographic.{slice_cmp}
use Rattle.std.specs.Str.{bytes_eq}
use Rattle.vk_spec.specs.Reading.{◌>>=◌}
use Rattle.vk_spec.specs.Versions.{Ask}
use Rattle.vk_base.specs.Names.{reads_name, port_rule}
use Rattle.vk_json.specs.Documents.{json_of}
use Rattle.vk_json.specs.declared.faults.FileFault.{FileFault}
use Rattle.vk_json.specs.Readings.{Reading, MemberReading, object_at, wanted, each_member}
use Rattle.vk_fields.specs.Saying.{said_here}
use Rattle.vk_fields.specs.Wording.{name_word}
use Rattle.vk_fields.specs.Versions.{ask_under}

-- a port, and what is asked for of it
pub record Entry : Type 0 where
  pub port : List ℕ
  pub ask : Ask

-- a key that begins with `$` is a note, which is passed over
abbrev pub is_note : List ℕ → Bool
is_note key = slice_index key 0 == 36

-- a member of a baseline, whose key is a port's name
unfoldable pub entry_at : MemberReading Entry
entry_at key d = do
  port ← said_here name_word (reads_name port_rule key)
  object ← object_at d
  ask ← ask_under (codes "baseline") d
  Ok (record { port = port; ask = ask })

-- an entry, or nothing where the member is a note
unfoldable pub entry_unless_note : MemberReading (Option Entry)
entry_unless_note key d =
    if is_note key then Ok None else (entry_at key d >>= λ entry. Ok (Some entry))

-- those that are there
abbrev pub those_there : {A : Type 0} → List (Option A) → List A
those_there found = flat_map option_to_list found

-- the entries of a baseline, in byte order of the ports
unfoldable pub entries_at : Reading (List Entry)
entries_at d = each_member entry_unless_note d >>= λ found. Ok (those_there found)

-- the baseline of this name in a baseline file
unfoldable pub baseline_at : List ℕ → Reading (List Entry)
baseline_at name d = object_at d >>= λ object. wanted entries_at name d

-- the baseline of this name, by the file's bytes
abbrev pub baseline_by : List ℕ → List ℕ → Result (List Entry) FileFault
baseline_by name bytes = json_of bytes >>= baseline_at name

-- ports ascend, so each stands once
abbrev pub IsInOrder : List Entry → Type 0
IsInOrder entries = IsStrictlySortedBy (slice_cmp nat_cmp) (map (λ entry. entry.port) entries)

-- what is asked for of a port, by its first entry
abbrev pub ask_for : List ℕ → List Entry → Option Ask
ask_for port [] = None
ask_for port (entry ∷ rest) = if bytes_eq entry.port port then Some entry.ask else ask_for port rest
