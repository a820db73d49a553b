-- Platform conditions, and their truth over a list of marks.
use Rattle.std.specs.Prelude.{◌&&◌, ◌||◌, ℕ, Bool, true, false, not, List, [], ◌∷◌}
use Rattle.std.specs.Str.{bytes_eq}
use Rattle.std.specs.List.{list_any}

-- what an expression says, without boxes and vectors
mutual
  pub data Condition : Type 0 where
    always : Condition
    mark : List ℕ → Condition
    negation : Condition → Condition
    all : Conditions → Condition
    any : Conditions → Condition

  pub data Conditions : Type 0 where
    no_conditions : Conditions
    condition : Condition → Conditions → Conditions

-- the conditions of a list, in its order
abbrev pub conditions_of : List Condition → Conditions
conditions_of [] = no_conditions
conditions_of (t ∷ ts) = condition t (conditions_of ts)

-- whether it holds where these marks hold and no others: a mark is true where it is one of them
abbrev mutual
  pub holds : Condition → List (List ℕ) → Bool
  holds always marks = true
  holds (mark name) marks = list_any (bytes_eq name) marks
  holds (negation t) marks = not (holds t marks)
  holds (all ts) marks = all_hold ts marks
  holds (any ts) marks = any_holds ts marks

  pub all_hold : Conditions → List (List ℕ) → Bool
  all_hold no_conditions marks = true
  all_hold (condition t ts) marks = holds t marks && all_hold ts marks

  pub any_holds : Conditions → List (List ℕ) → Bool
  any_holds no_conditions marks = false
  any_holds (condition t ts) marks = holds t marks || any_holds ts marks
