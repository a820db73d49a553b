-- What a text reads as, or its first fault, from the left.
use Rattle.std.specs.Prelude.{◌++◌, if◌then◌else◌, ℕ, Bool, true, false, List, [], ◌∷◌, length}
use Rattle.std.specs.Prelude.{nat_lt, Result, Ok, Err}
use Rattle.std.specs.List.{list_all}
use Rattle.vk_spec.specs.Reading.{◌>>=◌}
use Rattle.vk_spec.specs.Conditions.{Condition, always, mark, negation}
use Rattle.vk_expr.specs.Tokens.{Joint, both, either, Token, token, name, negates, joins, opens}
use Rattle.vk_expr.specs.Tokens.{closes, stray, is_blank, tokens_of}
use Rattle.vk_expr.specs.Grammar.{joined_by}
use Rattle.vk_expr.specs.declared.faults.ExprFault.{ExprFault}
use Rattle.vk_expr.specs.declared.faults.ExprFault.TheVariants as fault

-- the members of a level that ended with an operator: none, or so many, which are joined in one way
pub data Chain : Type 0 where
  single : Chain
  joined : Joint → List Condition → Chain

-- what is pending: a NOT, or a parenthesis at a place, and the chain that it stands in
pub data Frame : Type 0 where
  pending : Frame
  around : ℕ → Chain → Frame

-- after some tokens a unary is wanted, or one has ended. What is pending begins with the innermost.
pub data State : Type 0 where
  wanted : List Frame → Chain → State
  ended : List Frame → Chain → Condition → State

-- the value of a level whose last member is t
abbrev pub value_of : Chain → Condition → Condition
value_of single t = t
value_of (joined joint ts) t = joined_by joint (ts ++ t ∷ [])

-- a unary means t: so many NOTs end with it
unfoldable pub settled : List Frame → Chain → Condition → State
settled [] c t = ended [] c t
settled (pending ∷ fs) c t = settled fs c (negation t)
settled (around at outer ∷ fs) c t = ended (around at outer ∷ fs) c t

abbrev pub same_joint : Joint → Joint → Bool
same_joint both both = true
same_joint either either = true
same_joint both either = false
same_joint either both = false

-- one more NOT or parenthesis, up to 64
abbrev pub deeper : List Frame → Frame → Chain → Result State ExprFault
deeper fs f c = if nat_lt (length fs) 64 then Ok (wanted (f ∷ fs) c) else Err fault.Deep

-- an operator after a unary goes on with the chain of its own kind alone
abbrev pub joined_on : ℕ → Joint → List Frame → Chain → Condition → Result State ExprFault
joined_on at joint fs single t = Ok (wanted fs (joined joint (t ∷ [])))
joined_on at joint fs (joined other ts) t = if same_joint joint other then Ok (wanted fs (joined other (ts ++ t ∷ []))) else Err (fault.Mixed at)

-- a closing parenthesis after a unary ends the innermost open one
abbrev pub closed_on : ℕ → List Frame → Chain → Condition → Result State ExprFault
closed_on at (around place outer ∷ fs) c t = Ok (settled fs outer (value_of c t))
closed_on at (pending ∷ fs) c t = Err (fault.Unexpected at)
closed_on at [] c t = Err (fault.Unexpected at)

-- what a token leads to
unfoldable pub step : State → Token → Result State ExprFault
step (wanted fs c) (token at (name word)) = Ok (settled fs c (mark word))
step (wanted fs c) (token at negates) = deeper fs pending c
step (wanted fs c) (token at opens) = deeper fs (around at c) single
step (wanted fs c) (token at (joins joint)) = Err (fault.Unexpected at)
step (wanted fs c) (token at closes) = Err (fault.Unexpected at)
step (wanted fs c) (token at stray) = Err (fault.Unexpected at)
step (ended fs c t) (token at (joins joint)) = joined_on at joint fs c t
step (ended fs c t) (token at closes) = closed_on at fs c t
step (ended fs c t) (token at (name word)) = Err (fault.Unexpected at)
step (ended fs c t) (token at negates) = Err (fault.Unexpected at)
step (ended fs c t) (token at opens) = Err (fault.Unexpected at)
step (ended fs c t) (token at stray) = Err (fault.Unexpected at)

-- what tokens lead to
unfoldable pub steps : State → List Token → Result State ExprFault
steps s [] = Ok s
steps s (t ∷ ts) = step s t >>= λ next. steps next ts

-- the fault of a text of this length that ends too early: its innermost open parenthesis, or its end
unfoldable pub cut_off : ℕ → List Frame → ExprFault
cut_off length [] = fault.Unexpected length
cut_off length (pending ∷ fs) = cut_off length fs
cut_off length (around at outer ∷ fs) = fault.Open at

-- what the end of a text of this length makes of it
unfoldable pub at_end : ℕ → State → Result Condition ExprFault
at_end length (ended [] c t) = Ok (value_of c t)
at_end length (ended (f ∷ fs) c t) = Err (cut_off length (f ∷ fs))
at_end length (wanted fs c) = Err (cut_off length fs)

abbrev pub start : State
start = wanted [] single

-- what a text reads as, or its first fault
unfoldable pub reading_of : List ℕ → Result Condition ExprFault
reading_of text = if list_all is_blank text then Ok always else steps start (tokens_of text) >>= at_end (length text)
