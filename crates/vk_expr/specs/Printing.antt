-- How an expression is printed.
use Rattle.std.specs.Prelude.{◌++◌, ℕ, Bool, true, false, if◌then◌else◌, List, [], codes}
use Rattle.vk_spec.specs.Conditions.{Condition, Conditions, always, mark, negation, all, any}
use Rattle.vk_spec.specs.Conditions.{no_conditions, condition}

-- parentheses round a chain that is a member
abbrev pub opening : Bool → List ℕ
opening member = if member then codes "(" else []

abbrev pub closing : Bool → List ℕ
closing member = if member then codes ")" else []

-- an expression, told whether it is a member: `!` before a NOT's member, ` & ` or ` | ` between members,
-- parentheses round a member that is a chain
abbrev mutual
  pub printed_as : Bool → Condition → List ℕ
  printed_as member always = []
  printed_as member (mark name) = name
  printed_as member (negation t) = codes "!" ++ printed_as true t
  printed_as member (all ts) = opening member ++ (members_of (codes " & ") ts ++ closing member)
  printed_as member (any ts) = opening member ++ (members_of (codes " | ") ts ++ closing member)

  -- members with a sign between them
  pub members_of : List ℕ → Conditions → List ℕ
  members_of sign no_conditions = []
  members_of sign (condition t ts) = printed_as true t ++ others_of sign ts

  -- members, each after a sign
  pub others_of : List ℕ → Conditions → List ℕ
  others_of sign no_conditions = []
  others_of sign (condition t ts) = sign ++ (printed_as true t ++ others_of sign ts)

-- what an expression prints as
abbrev pub printed : Condition → List ℕ
printed t = printed_as false t
