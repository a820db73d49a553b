-- Where the faults of a registry's files stand.
use Rattle.std.proofs.Common.{◌≡◌, ◌&&◌, ◌==◌, Bool, true, false, ℕ, List, not, ap, sym}
use Rattle.std.proofs.Common.{◌∙◌}
use Rattle.std.specs.Prelude.{Option, Some, None, Ok, Err, codes, if◌then◌else◌}
use Rattle.std.specs.List.{All, list_any}
use Rattle.serde_json.specs.Data.{Data}
use Rattle.vk_spec.specs.Paths.{Path}
use Rattle.vk_spec.specs.Reading.{◌>>=◌}
use Rattle.vk_spec.specs.Versions.{Ask, same_ask}
use Rattle.vk_spec.specs.Fronts.{after}
use Rattle.vk_base.specs.Names.{reads_name, port_rule}
use Rattle.vk_base.specs.Paths.{is_rooted, ups_of}
use Rattle.vk_base.specs.PathReading.{path_of}
use Rattle.vk_json.specs.Documents.{json_of}
use Rattle.vk_json.specs.Places.{here}
use Rattle.vk_json.specs.Standing.{StandsIn}
use Rattle.vk_json.specs.declared.faults.FileFault.{FileFault}
use Rattle.vk_json.specs.declared.faults.Why.TheVariants as why
use Rattle.vk_json.proofs.TellingLemmas.{Says, Reads, Anything, says_then, or_says, told_here}
use Rattle.vk_json.proofs.TellingLemmas.{text_says, object_says, wanted_says, each_member_says}
use Rattle.vk_json.proofs.TellingLemmas.{each_new_item_says, told_stands}
use Rattle.vk_fields.specs.Wording.{name_word, path_word}
use Rattle.vk_fields.proofs.TellingLemmas.{name_there, said_says}
use Rattle.vk_fields.proofs.TellingLemmas.{version_needed_says, ask_under_says}
use Rattle.vk_registry.specs.Baselines.{Entry, is_note, entry_at, entry_unless_note}
use Rattle.vk_registry.specs.Baselines.{entries_at, baseline_at, baseline_by}
use Rattle.vk_registry.specs.Folders.{unless_above, folder_of, folder_at}
use Rattle.vk_registry.specs.Tables.{ask_in, asks_of, row_at, new_ask, row_from, rows_at}
use Rattle.vk_registry.specs.Tables.{table_at, table_of}

-- ---- baselines

entry_says : (key : List ℕ) → Reads Anything (entry_at key)
unfolding entry_at
entry_says key d =
    says_then Anything Anything d _ _
    (said_says name_word Anything d (reads_name port_rule key) name_there (λ name e. tt))
    (λ port any.
    says_then Anything Anything d _ _ (object_says d) (λ object any.
    says_then Anything Anything d _ _ (ask_under_says d (codes "baseline")) (λ ask any. tt)))

unless_note_says : (key : List ℕ) → Reads Anything (entry_unless_note key)
unfolding entry_unless_note
unless_note_says key d = by (is_note key)
  where
    by : (note : Bool)
        → Says {A = Option Entry} Anything d
        (if note then Ok None else (entry_at key d >>= λ entry. Ok (Some entry)))
    by true = tt
    by false =
        says_then Anything Anything d (entry_at key d) (λ entry. Ok (Some entry)) (entry_says key d)
        (λ entry any. tt)

entries_says : Reads Anything entries_at
unfolding entries_at
entries_says d =
    says_then (All Anything) Anything d _ _
    (each_member_says Anything entry_unless_note unless_note_says d) (λ found each. tt)

baseline_says : (name : List ℕ) → Reads Anything (baseline_at name)
unfolding baseline_at
baseline_says name d =
    says_then Anything Anything d _ _ (object_says d)
    (λ object any. wanted_says Anything entries_at entries_says name d)

pub baseline_stands : (name bytes : List ℕ) (d : Data) (fault : FileFault) → json_of bytes ≡ Ok d
    → baseline_by name bytes ≡ Err fault → StandsIn d fault
baseline_stands name bytes d fault is told =
    told_stands Anything d (baseline_at name d) fault (baseline_says name d)
    (sym (ap (λ r. r >>= baseline_at name) is) ∙ told)

-- ---- versions files

above_says : (d : Data) (path : Path) → Says Anything d (unless_above path)
above_says d path = by (not (is_rooted path) && (ups_of path == 0))
  where
    by : (below : Bool)
        → Says {A = Path} Anything d (if below then Ok path else Err (here why.Path))
    by true = tt
    by false = told_here d why.Path (λ e. (cc))

folder_says : Reads Anything folder_at
unfolding folder_of
folder_says d =
    says_then Anything Anything d _ _ (text_says d) (λ text any.
    says_then Anything Anything d _ _ (or_says d why.Path (after (codes "$/") text) (λ e. (cc)))
    (λ rest any.
    says_then Anything Anything d _ _
    (said_says path_word Anything d (path_of rest) (λ wrong e. (cc)) (λ path e. tt))
    (λ path any. above_says d path)))

row_says : Reads Anything row_at
unfolding row_at
row_says d =
    says_then Anything Anything d _ _ (object_says d) (λ object any.
    says_then Anything Anything d _ _ (version_needed_says d) (λ version any.
    says_then Anything Anything d _ _ (wanted_says Anything folder_at folder_says (codes "path") d)
    (λ path any. tt)))

new_says : (d : Data) (asks : List Ask) (ask : Ask) → Says Anything d (new_ask asks ask)
new_says d asks ask = by (list_any (same_ask ask) asks)
  where
    by : (taken : Bool)
        → Says {A = Unit {0}} Anything d (if taken then Err (here why.Twice) else Ok tt)
    by true = told_here d why.Twice (λ e. (cc))
    by false = tt

row_from_says : (asks : List Ask) → Reads Anything (row_from asks)
unfolding row_from
row_from_says asks d =
    says_then Anything Anything d _ _ (row_says d) (λ row any.
    says_then Anything Anything d _ _ (new_says d asks (ask_in row)) (λ new any. tt))

rows_says : Reads Anything rows_at
rows_says =
    each_new_item_says Anything ask_in row_from (λ earlier any. row_from_says (asks_of earlier)) tt

table_says : Reads Anything table_at
unfolding table_at
table_says d =
    says_then Anything Anything d _ _ (object_says d)
    (λ object any. wanted_says Anything rows_at rows_says (codes "versions") d)

pub table_stands : (bytes : List ℕ) (d : Data) (fault : FileFault) → json_of bytes ≡ Ok d
    → table_of bytes ≡ Err fault → StandsIn d fault
table_stands bytes d fault is told =
    told_stands Anything d (table_at d) fault (table_says d)
    (sym (ap (λ r. r >>= table_at) is) ∙ told)
