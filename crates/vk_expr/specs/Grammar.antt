-- The grammar of platform expressions, as a relation between tokens and a tree.
use Rattle.std.specs.Prelude.{◌≡◌, ◌+◌, ◌++◌, ◌<◌, ℕ, List, [], ◌∷◌, true}
use Rattle.std.specs.List.{list_all}
use Rattle.vk_spec.specs.Conditions.{Condition, always, mark, negation, all, any, conditions_of}
use Rattle.vk_expr.specs.Tokens.{Joint, both, either, Token, token, name, negates, joins, opens}
use Rattle.vk_expr.specs.Tokens.{closes, is_blank, tokens_of}

-- the tree of members that are joined
abbrev pub joined_by : Joint → List Condition → Condition
joined_by both members = all (conditions_of members)
joined_by either members = any (conditions_of members)

-- In each relation: the first number is the depth, how many parentheses are open and NOTs pending;
-- the first tokens begin with the thing, the second follow it; last comes what it means.
mutual
  -- a name, a unary after a NOT, or an expression in parentheses
  pub data IsUnary : ℕ → List Token → List Token → Condition → Type 0 where
    named : (depth at : ℕ) (word : List ℕ) (rest : List Token) → IsUnary depth (token at (name word) ∷ rest) rest (mark word)
    negated : (depth at : ℕ) (from rest : List Token) (t : Condition) → depth < 64 → IsUnary (depth + 1) from rest t → IsUnary depth (token at negates ∷ from) rest (negation t)
    enclosed : (depth at end : ℕ) (from rest : List Token) (t : Condition) → depth < 64 → IsExpr (depth + 1) from (token end closes ∷ rest) t → IsUnary depth (token at opens ∷ from) rest t

  -- a unary alone, or two and more that are joined all in one way
  pub data IsExpr : ℕ → List Token → List Token → Condition → Type 0 where
    alone : (depth : ℕ) (from rest : List Token) (t : Condition) → IsUnary depth from rest t → IsExpr depth from rest t
    chain : (joint : Joint) (depth : ℕ) (from middle rest : List Token) (t next : Condition) (ts : List Condition) → IsUnary depth from middle t → IsTail joint depth middle rest (next ∷ ts) → IsExpr depth from rest (joined_by joint (t ∷ next ∷ ts))

  -- any number of unaries, each after the operator
  pub data IsTail : Joint → ℕ → List Token → List Token → List Condition → Type 0 where
    done : (joint : Joint) (depth : ℕ) (rest : List Token) → IsTail joint depth rest rest []
    more : (joint : Joint) (depth at : ℕ) (from middle rest : List Token) (t : Condition) (ts : List Condition) → IsUnary depth from middle t → IsTail joint depth middle rest ts → IsTail joint depth (token at (joins joint) ∷ from) rest (t ∷ ts)

-- a text and the tree that it reads as
pub data Reads : List ℕ → Condition → Type 0 where
  blank : (text : List ℕ) → list_all is_blank text ≡ true → Reads text always
  whole : (text : List ℕ) (t : Condition) → IsExpr 0 (tokens_of text) [] t → Reads text t

-- a readable text begins with these tokens
pub record CanGoOn (tokens : List Token) : Type 0 where
  pub text : List ℕ
  pub rest : List Token
  pub tree : Condition
  pub begins : tokens_of text ≡ tokens ++ rest
  pub reads : Reads text tree
