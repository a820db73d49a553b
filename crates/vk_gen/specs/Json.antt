-- JSON without blanks, as the load's files have it.
use Rattle.std.specs.Prelude.{◌++◌, ℕ, List, codes}
use Rattle.std.specs.List.{join_by}

-- values or members with commas between
abbrev pub with_commas : List (List ℕ) → List ℕ
with_commas items = join_by (λ item. item) (codes ",") items

-- a text that needs no escapes
abbrev pub quoted : List ℕ → List ℕ
quoted text = codes "\"" ++ text ++ codes "\""

-- a member: its key and its value
abbrev pub member : List ℕ → List ℕ → List ℕ
member key value = quoted key ++ codes ":" ++ value

abbrev pub object : List (List ℕ) → List ℕ
object members = codes "{" ++ with_commas members ++ codes "}"

abbrev pub array : List (List ℕ) → List ℕ
array items = codes "[" ++ with_commas items ++ codes "]"
