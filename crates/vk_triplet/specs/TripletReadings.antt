-- What a triplet file sets, or its first fault.
use Rattle.std.specs.Prelude.{ℕ, Bool, List, [], ◌∷◌, Option, Result, Ok, Err, if◌then◌else◌}
use Rattle.std.specs.List.{filter, flat_map}
use Rattle.std.specs.Option.{option_to_list}
use Rattle.std.specs.Str.{is_utf8, bytes_eq}
use Rattle.vk_spec.specs.Reading.{◌>>=◌, or_fault, read_each}
use Rattle.vk_triplet.specs.Lines.{lines_of}
use Rattle.vk_triplet.specs.declared.triplets.Variable.{Variable}
use Rattle.vk_triplet.specs.LineReadings.{said_by}
use Rattle.vk_triplet.specs.declared.faults.TripletFault.{TripletFault}
use Rattle.vk_triplet.specs.declared.faults.TripletFault.TheVariants as fault

-- what the line with this number says
abbrev pub line_said : ℕ → List ℕ → Result (Option Variable) TripletFault
line_said n text = or_fault (fault.Line n) (said_by text)

-- the variables among what lines say, in order
abbrev pub variables_in : List (Option Variable) → List Variable
variables_in said = flat_map option_to_list said

-- the variables of these lines, the first of which has this number
abbrev pub variables_from : ℕ → List (List ℕ) → Result (List Variable) TripletFault
variables_from n lines = read_each line_said n lines >>= λ said. Ok (variables_in said)

-- the variables of a triplet file, in its order: first the bytes are UTF-8, then each line has a
-- reading
unfoldable pub reads_triplet : List ℕ → Result (List Variable) TripletFault
reads_triplet bytes = if is_utf8 bytes then variables_from 1 (lines_of bytes) else Err fault.NotText

-- the value of the last of these; empty where there is none
abbrev pub last_value : List Variable → List ℕ
last_value [] = []
last_value (s ∷ []) = s.value
last_value (s ∷ t ∷ more) = last_value (t ∷ more)

-- whether this line sets the variable of this name
abbrev pub sets : List ℕ → Variable → Bool
sets name s = bytes_eq s.name name

-- the value of a variable: the last line that sets it counts, and one that is never set is empty
abbrev pub value_of : List ℕ → List Variable → List ℕ
value_of name variables = last_value (filter (sets name) variables)

-- what a triplet is: its name, the file's bytes, and the variables in the file's order
pub record Triplet : Type 0 where
  pub name : List ℕ
  pub bytes : List ℕ
  pub variables : List Variable

-- a triplet of these
abbrev pub triplet_with : List ℕ → List ℕ → List Variable → Triplet
triplet_with name bytes variables = record { name = name; bytes = bytes; variables = variables }

-- the triplet that a file of this name is
abbrev pub triplet_of : List ℕ → List ℕ → Result Triplet TripletFault
triplet_of name bytes = reads_triplet bytes >>= λ variables. Ok (triplet_with name bytes variables)
