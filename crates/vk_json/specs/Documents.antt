-- What bytes mean as JSON: what `serde_json` reads, after at most one byte order mark.
use Rattle.std.specs.Prelude.{◌==◌, ◌&&◌, ℕ, List, ◌∷◌, Option, None, Result, if◌then◌else◌}
use Rattle.std.specs.Str.{is_utf8}
use Rattle.serde_json.specs.Data.{Data}
use Rattle.serde_json.specs.Read.{read}
use Rattle.vk_spec.specs.Reading.{or_fault}
use Rattle.vk_json.specs.declared.faults.FileFault.{FileFault}
use Rattle.vk_json.specs.declared.faults.Why.TheVariants as why
use Rattle.vk_json.specs.Places.{here}

-- the bytes after a byte order mark, if they begin with one
abbrev pub without_mark : List ℕ → List ℕ
without_mark (a ∷ b ∷ c ∷ rest) =
    if a == 239 && b == 187 && c == 191 then rest else a ∷ b ∷ c ∷ rest
without_mark bytes = bytes

-- the value of bytes, where they have one
abbrev pub value_of : List ℕ → Option Data
value_of bytes = if is_utf8 bytes then read bytes else None

-- the document that bytes are, or its one fault: the whole is no JSON
unfoldable pub json_of : List ℕ → Result Data FileFault
json_of bytes = or_fault (here why.Json) (value_of (without_mark bytes))
