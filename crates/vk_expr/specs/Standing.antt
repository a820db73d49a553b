-- Where a text's first fault stands, in terms of which texts are readable.
use Rattle.std.specs.Prelude.{◌≡◌, ◌++◌, ℕ, List, [], ◌∷◌, length}
use Rattle.vk_spec.specs.Conditions.{Condition}
use Rattle.vk_expr.specs.Tokens.{Sign, Joint, both, either, Token, token, name, negates, joins}
use Rattle.vk_expr.specs.Tokens.{opens, closes, stray, tokens_of}
use Rattle.vk_expr.specs.Grammar.{Reads, CanGoOn}
use Rattle.vk_expr.specs.declared.faults.ExprFault.{ExprFault}
use Rattle.vk_expr.specs.declared.faults.ExprFault.TheVariants as fault

-- a readable text begins with these tokens and then this sign, wherever it stands
abbrev pub CanStandAfter : List Token → Sign → Type 0
CanStandAfter before sign = (at : ℕ) × CanGoOn (before ++ token at sign ∷ [])

-- the other operator
abbrev pub other_than : Joint → Joint
other_than both = either
other_than either = both

-- the sign is an operator, and the other one can stand in its place
abbrev pub IsMixed : List Token → Sign → Type 0
IsMixed before (joins joint) = CanStandAfter before (joins (other_than joint))
IsMixed before (name word) = ⊥
IsMixed before negates = ⊥
IsMixed before opens = ⊥
IsMixed before closes = ⊥
IsMixed before stray = ⊥

-- some name can stand after these tokens
abbrev pub WantsUnary : List Token → Type 0
WantsUnary before = (word : List ℕ) × CanStandAfter before (name word)

-- the sign is a NOT or an opening parenthesis, and a name can stand in its place
abbrev pub IsTooDeep : List Token → Sign → Type 0
IsTooDeep before negates = WantsUnary before
IsTooDeep before opens = WantsUnary before
IsTooDeep before (name word) = ⊥
IsTooDeep before (joins joint) = ⊥
IsTooDeep before closes = ⊥
IsTooDeep before stray = ⊥

-- what a token tells that can't stand after these tokens: `mixed` or `deep` where it is so, and else itself
pub data IsToldBy : List Token → Token → ExprFault → Type 0 where
  mixes : (before : List Token) (at : ℕ) (sign : Sign) → IsMixed before sign → IsToldBy before (token at sign) (fault.Mixed at)
  too_deep : (before : List Token) (at : ℕ) (sign : Sign) → IsTooDeep before sign → IsToldBy before (token at sign) fault.Deep
  misplaced : (before : List Token) (at : ℕ) (sign : Sign) → (IsMixed before sign → ⊥) → (IsTooDeep before sign → ⊥) → IsToldBy before (token at sign) (fault.Unexpected at)

-- a parenthesis is closed: the innermost one
abbrev pub without_first : List ℕ → List ℕ
without_first [] = []
without_first (p ∷ ps) = ps

-- the places of the parentheses that are open after a token, innermost first
abbrev pub open_after : List ℕ → Token → List ℕ
open_after ps (token at opens) = at ∷ ps
open_after ps (token at closes) = without_first ps
open_after ps (token at (name word)) = ps
open_after ps (token at negates) = ps
open_after ps (token at (joins joint)) = ps
open_after ps (token at stray) = ps

-- the same after some tokens
unfoldable pub open_places : List ℕ → List Token → List ℕ
open_places ps [] = ps
open_places ps (t ∷ ts) = open_places (open_after ps t) ts

-- what the end of a text, at this place, tells after these tokens: the innermost open parenthesis, or itself
pub data IsToldByEnd : ℕ → List Token → ExprFault → Type 0 where
  too_short : (end : ℕ) (tokens : List Token) → open_places [] tokens ≡ [] → IsToldByEnd end tokens (fault.Unexpected end)
  inside : (end at : ℕ) (outer : List ℕ) (tokens : List Token) → open_places [] tokens ≡ at ∷ outer → IsToldByEnd end tokens (fault.Open at)

-- the first fault of a text: at its first token such that no readable text begins with the tokens up
-- to it; or at the end of a text that isn't readable, where a readable text begins with all its tokens
pub data IsFirstFault : List ℕ → ExprFault → Type 0 where
  at_token : (text : List ℕ) (before after : List Token) (here : Token) (fault : ExprFault) → tokens_of text ≡ before ++ here ∷ after → CanGoOn before → (CanGoOn (before ++ here ∷ []) → ⊥) → IsToldBy before here fault → IsFirstFault text fault
  at_end : (text : List ℕ) (fault : ExprFault) → CanGoOn (tokens_of text) → ((t : Condition) → Reads text t → ⊥) → IsToldByEnd (length text) (tokens_of text) fault → IsFirstFault text fault
