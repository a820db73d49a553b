-- Places in a document: JSON Pointers (RFC 6901).
use Rattle.std.specs.Prelude.{◌++◌, ◌==◌, ℕ, List, [], ◌∷◌, codes, decimal}
use Rattle.std.specs.Prelude.{Result, Ok, Err, if◌then◌else◌}
use Rattle.std.specs.List.{flat_map}
use Rattle.std.specs.Str.{chars}
use Rattle.std.specs.Char.{encode_utf8}
use Rattle.vk_spec.specs.Paths.{Path}
use Rattle.vk_base.specs.Tokens.{token_of}
use Rattle.vk_base.specs.Printed.{path_text}
use Rattle.vk_json.specs.declared.faults.FileFault.{FileFault}
use Rattle.vk_json.specs.declared.faults.Why.{Why}

-- a key's character in a pointer: `~` is `~0`, and `/` is `~1`
abbrev pub escaped_char : ℕ → List ℕ
escaped_char c = if c == 126 then codes "~0" else if c == 47 then codes "~1" else encode_utf8 c

-- a key in a pointer
abbrev pub escaped : List ℕ → List ℕ
escaped key = flat_map escaped_char (chars key)

-- from an object to its member
abbrev pub member_step : List ℕ → List ℕ
member_step key = codes "/" ++ escaped key

-- from a list to its item, counted from 0
abbrev pub item_step : ℕ → List ℕ
item_step n = codes "/" ++ decimal n

-- wrong is the value itself
abbrev pub here : Why → FileFault
here why = record { place = []; why = why }

-- a fault of a part, told from outside: the step to the part goes before its place
abbrev pub moved : List ℕ → FileFault → FileFault
moved step fault = record { place = step ++ fault.place; why = fault.why }

-- wrong is the member with this key
abbrev pub at_member : List ℕ → Why → FileFault
at_member key why = moved (member_step key) (here why)

-- what reading a part gives, told from outside
abbrev pub inside : {A : Type 0} → List ℕ → Result A FileFault → Result A FileFault
inside step (Ok x) = Ok x
inside step (Err fault) = Err (moved step fault)

-- a place as it is printed: its token, and `-` for the whole document
abbrev pub place_text : List ℕ → List ℕ
place_text [] = codes "-"
place_text (b ∷ bytes) = token_of (b ∷ bytes)

-- the line of a bad file: the file, the place in it, and the word for what is wrong there
abbrev pub file_line : Path → List ℕ → List ℕ → List ℕ
file_line path place word =
    codes "bad-file " ++ path_text path ++ codes " " ++ place_text place ++ codes " " ++ word
