-- What it means that a triplet file has a reading, and which line is told where it has none.
use Rattle.std.specs.Prelude.{◌≡◌, ◌≢◌, ◌<◌, ◌≤◌, ◌+◌, ◌-◌, ◌++◌, ◌∷◌, [], ℕ, List, length, Option}
use Rattle.std.specs.Prelude.{slice_index_or}
use Rattle.std.specs.List.{All}
use Rattle.std.specs.Str.{IsUtf8}
use Rattle.vk_triplet.specs.Lines.{Says, lines_of}
use Rattle.vk_triplet.specs.declared.triplets.Variable.{Variable}
use Rattle.vk_triplet.specs.TripletReadings.{variables_in}

-- each line says what stands at its place
abbrev pub EachSays : List (List ℕ) → List (Option Variable) → Type 0
EachSays [] [] = Unit {0}
EachSays (line ∷ lines) (what ∷ more) = Says line what × EachSays lines more
EachSays lines said = ⊥

-- the bytes are UTF-8, each line says something, and these are the variables that were said
pub record HasVariables (bytes : List ℕ) (variables : List Variable) : Type 0 where
  pub text : IsUtf8 bytes
  pub said : List (Option Variable)
  pub each : EachSays (lines_of bytes) said
  pub kept : variables ≡ variables_in said

-- the line says nothing, or sets a variable
abbrev pub HasReading : List ℕ → Type 0
HasReading line = (said : Option Variable) × Says line said

-- the line with this number, counted from 1, is the first that has no reading
pub record IsFirstUnread (lines : List (List ℕ)) (n : ℕ) : Type 0 where
  pub counted : 0 < n
  pub within : n ≤ length lines
  pub before : (k : ℕ) → k + 1 < n → HasReading (slice_index_or lines k [])
  pub here : HasReading (slice_index_or lines (n - 1) []) → ⊥

-- none of these lines sets this variable
abbrev pub LeavesAlone : List ℕ → List Variable → Type 0
LeavesAlone name variables = All (λ s. s.name ≢ name) variables

-- a line sets this variable to this value, and no later one sets it
pub record IsSetLast (name value : List ℕ) (variables : List Variable) : Type 0 where
  pub front : List Variable
  pub back : List Variable
  pub split : variables ≡ front ++ record { name = name; value = value } ∷ back
  pub last : LeavesAlone name back
