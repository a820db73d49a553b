-- What is read the grammar has: an expression stands over steps that lead to its tree.
use Rattle.std.proofs.Common.{◌≡◌, ◌+◌, ◌<◌, ℕ, List, [], ◌∷◌, ◌++◌, length, refl, ap, sym, append_assoc, subst, arith}
use Rattle.std.specs.Prelude.{Ok, Err, nat_lt, Bool, true, false, cond}
use Rattle.std.proofs.lemmas.Bool.Decides.{nat_tests}
use Rattle.vk_spec.specs.Reading.{◌>>=◌}
use Rattle.vk_spec.specs.Conditions.{Condition, mark, negation}
use Rattle.vk_expr.specs.Tokens.{Joint, both, either, Token, token, name, negates, joins, opens, closes, stray}
use Rattle.vk_expr.specs.Grammar.{IsUnary, IsExpr, IsTail, named, negated, enclosed, alone, chain, done, more, joined_by}
use Rattle.vk_expr.specs.Reading.{Chain, single, joined, Frame, pending, around, State, wanted, ended, value_of, settled, step, steps, at_end, start}
use Rattle.vk_expr.specs.declared.faults.ExprFault.TheVariants as fault

-- how a level goes on after its last member so far: with so many members more
data GoesOn : ℕ → Chain → Condition → List Token → List Token → Condition → Type 0 where
  stays : (depth : ℕ) (t : Condition) (rest : List Token) → GoesOn depth single t rest rest t
  begins : (joint : Joint) (depth : ℕ) (t next : Condition) (ts : List Condition) (from rest : List Token) → IsTail joint depth from rest (next ∷ ts) → GoesOn depth single t from rest (joined_by joint (t ∷ next ∷ ts))
  goes : (joint : Joint) (depth : ℕ) (xs : List Condition) (t : Condition) (ts : List Condition) (from rest : List Token) → IsTail joint depth from rest ts → GoesOn depth (joined joint xs) t from rest (joined_by joint (xs ++ t ∷ ts))

-- a level that goes on after its first unary is an expression
expr_of : (depth : ℕ) (from middle rest : List Token) (t v : Condition) → IsUnary depth from middle t → GoesOn depth single t middle rest v → IsExpr depth from rest v
expr_of depth from middle _ t _ one (stays _ _ rest) = alone depth from rest t one
expr_of depth from _ rest t _ one (begins joint _ _ next ts middle _ tail) = chain joint depth from middle rest t next ts one tail

-- one more member
joined_later : (joint : Joint) (depth at : ℕ) (xs : List Condition) (t u v : Condition) (from middle rest : List Token) → IsUnary depth from middle u → GoesOn depth (joined joint (xs ++ t ∷ [])) u middle rest v → GoesOn depth (joined joint xs) t (token at (joins joint) ∷ from) rest v
joined_later joint depth at xs t u _ from middle rest one (goes _ _ _ _ ts _ _ tail) =
    subst (λ v. GoesOn depth (joined joint xs) t (token at (joins joint) ∷ from) rest v) (ap (joined_by joint) (sym (append_assoc xs (t ∷ []) (u ∷ ts))))
    (goes joint depth xs t (u ∷ ts) (token at (joins joint) ∷ from) rest (more joint depth at from middle rest u ts one tail))

joined_first : (joint : Joint) (depth at : ℕ) (t u v : Condition) (from middle rest : List Token) → IsUnary depth from middle u → GoesOn depth (joined joint (t ∷ [])) u middle rest v → GoesOn depth single t (token at (joins joint) ∷ from) rest v
joined_first joint depth at t u _ from middle rest one (goes _ _ _ _ ts _ _ tail) =
    begins joint depth t u ts (token at (joins joint) ∷ from) rest (more joint depth at from middle rest u ts one tail)

-- how all levels go on to the end, after a unary that means t
abbrev IsLeft : List Frame → Chain → Condition → List Token → Condition → Type 0
IsLeft [] c t tokens v = GoesOn 0 c t tokens [] v
IsLeft (pending ∷ fs) c t tokens v = IsLeft fs c (negation t) tokens v
IsLeft (around at outer ∷ fs) c t tokens v = (end : ℕ) × (rest : List Token) × (u : Condition) × GoesOn (length (around at outer ∷ fs)) c t tokens (token end closes ∷ rest) u × IsLeft fs outer u rest v

-- what tokens are that lead from a state to the value v at the end
abbrev Fits : State → List Token → Condition → Type 0
Fits (wanted fs c) tokens v = (u : Condition) × (rest : List Token) × IsUnary (length fs) tokens rest u × IsLeft fs c u rest v
Fits (ended [] c t) tokens v = IsLeft [] c t tokens v
Fits (ended (pending ∷ fs) c t) tokens v = Unit {0}
Fits (ended (around at outer ∷ fs) c t) tokens v = IsLeft (around at outer ∷ fs) c t tokens v

from_settled : (fs : List Frame) (c : Chain) (t : Condition) (tokens : List Token) (v : Condition) → Fits (settled fs c t) tokens v → IsLeft fs c t tokens v
unfolding settled
from_settled [] c t tokens v fits = fits
from_settled (pending ∷ fs) c t tokens v fits = from_settled fs c (negation t) tokens v fits
from_settled (around at outer ∷ fs) c t tokens v fits = fits

-- the innermost level gets one more member
extends : (fs : List Frame) (c next : Chain) (t u v : Condition) (tokens middle : List Token) → ((rest : List Token) (w : Condition) → GoesOn (length fs) next u middle rest w → GoesOn (length fs) c t tokens rest w) → IsLeft fs next u middle v → Fits (ended fs c t) tokens v
extends [] c next t u v tokens middle f left = f [] v left
extends (pending ∷ fs) c next t u v tokens middle f left = tt
extends (around at outer ∷ fs) c next t u v tokens middle f left = (left.0, left.1, left.2, f (token left.0 closes ∷ left.1) left.2 left.3, left.4)

-- the end of the tokens ends the outermost level
ends_level : (c : Chain) (t v : Condition) → value_of c t ≡ v → GoesOn 0 c t [] [] v
ends_level single t v e = subst (λ v. GoesOn 0 single t [] [] v) e (stays 0 t [])
ends_level (joined joint xs) t v e = subst (λ v. GoesOn 0 (joined joint xs) t [] [] v) e (goes joint 0 xs t [] [] [] (done joint 0 []))

-- a parenthesis that is closed ends the innermost level
closes_level : (depth end : ℕ) (c : Chain) (t : Condition) (rest : List Token) → GoesOn depth c t (token end closes ∷ rest) (token end closes ∷ rest) (value_of c t)
closes_level depth end single t rest = stays depth t (token end closes ∷ rest)
closes_level depth end (joined joint xs) t rest = goes joint depth xs t [] (token end closes ∷ rest) (token end closes ∷ rest) (done joint depth (token end closes ∷ rest))

record Deepened (k : ℕ) (fs : List Frame) (f : Frame) (c : Chain) (ts : List Token) (v : Condition) : Type 0 where
  few : length fs < 64
  goes_on : (steps (wanted (f ∷ fs) c) ts >>= at_end k) ≡ Ok v

deepened_by : (k : ℕ) (fs : List Frame) (f : Frame) (c : Chain) (ts : List Token) (v : Condition) (b : Bool) → nat_lt (length fs) 64 ≡ b → ((cond b (Ok (wanted (f ∷ fs) c)) (Err fault.Deep) >>= λ next. steps next ts) >>= at_end k) ≡ Ok v → Deepened k fs f c ts v
deepened_by k fs f c ts v true p e = record { few = grind (arith, nat_tests); goes_on = e }
deepened_by k fs f c ts v false p e = cc

inside_from : (k : ℕ) (at : ℕ) (fs : List Frame) (c : Chain) (ts : List Token) (v : Condition) → length fs < 64 → Fits (wanted (around at c ∷ fs) single) ts v → Fits (wanted fs c) (token at opens ∷ ts) v
inside_from k at fs c ts v few fits =
    let deeper : length (around at c ∷ fs) ≡ length fs + 1 = omega arith in (
      fits.3.2,
      fits.3.1,
      enclosed (length fs) at fits.3.0 ts fits.3.1 fits.3.2 few
          (subst (λ d. IsExpr d ts (token fits.3.0 closes ∷ fits.3.1) fits.3.2) deeper (expr_of (length (around at c ∷ fs)) ts fits.1 (token fits.3.0 closes ∷ fits.3.1) fits.0 fits.3.2 fits.2 fits.3.3)),
      fits.3.4,
    )

not_from : (at : ℕ) (fs : List Frame) (c : Chain) (ts : List Token) (v : Condition) → length fs < 64 → Fits (wanted (pending ∷ fs) c) ts v → Fits (wanted fs c) (token at negates ∷ ts) v
not_from at fs c ts v few fits =
    let deeper : length (pending ∷ fs) ≡ length fs + 1 = omega arith in
    (negation fits.0, fits.1, negated (length fs) at ts fits.1 fits.0 few (subst (λ d. IsUnary d ts fits.1 fits.0) deeper fits.2), fits.3)

first_from : (at : ℕ) (joint : Joint) (fs : List Frame) (t : Condition) (ts : List Token) (v : Condition) → Fits (wanted fs (joined joint (t ∷ []))) ts v → Fits (ended fs single t) (token at (joins joint) ∷ ts) v
first_from at joint fs t ts v fits =
    extends fs single (joined joint (t ∷ [])) t fits.0 v (token at (joins joint) ∷ ts) fits.1 (λ rest w more. joined_first joint (length fs) at t fits.0 w ts fits.1 rest fits.2 more) fits.3

later_from : (at : ℕ) (joint : Joint) (fs : List Frame) (xs : List Condition) (t : Condition) (ts : List Token) (v : Condition) → Fits (wanted fs (joined joint (xs ++ t ∷ []))) ts v → Fits (ended fs (joined joint xs) t) (token at (joins joint) ∷ ts) v
later_from at joint fs xs t ts v fits =
    extends fs (joined joint xs) (joined joint (xs ++ t ∷ [])) t fits.0 v (token at (joins joint) ∷ ts) fits.1 (λ rest w more. joined_later joint (length fs) at xs t fits.0 w ts fits.1 rest fits.2 more) fits.3

fits : (k : ℕ) (s : State) (tokens : List Token) (v : Condition) → (steps s tokens >>= at_end k) ≡ Ok v → Fits s tokens v
unfolding steps step at_end settled
fits k (wanted fs c) [] v e = cc
fits k (ended [] c t) [] v e = ends_level c t v cc
fits k (ended (pending ∷ fs) c t) [] v e = tt
fits k (ended (around at outer ∷ fs) c t) [] v e = cc
fits k (wanted fs c) (token at (name word) ∷ ts) v e = (mark word, ts, named (length fs) at word ts, from_settled fs c (mark word) ts v (fits k (settled fs c (mark word)) ts v e))
fits k (wanted fs c) (token at negates ∷ ts) v e =
    let d = deepened_by k fs pending c ts v (nat_lt (length fs) 64) refl e in
    not_from at fs c ts v d.few (fits k (wanted (pending ∷ fs) c) ts v d.goes_on)
fits k (wanted fs c) (token at opens ∷ ts) v e =
    let d = deepened_by k fs (around at c) single ts v (nat_lt (length fs) 64) refl e in
    inside_from k at fs c ts v d.few (fits k (wanted (around at c ∷ fs) single) ts v d.goes_on)
fits k (wanted fs c) (token at (joins joint) ∷ ts) v e = cc
fits k (wanted fs c) (token at closes ∷ ts) v e = cc
fits k (wanted fs c) (token at stray ∷ ts) v e = cc
fits k (ended fs c t) (token at (name word) ∷ ts) v e = cc
fits k (ended fs c t) (token at negates ∷ ts) v e = cc
fits k (ended fs c t) (token at opens ∷ ts) v e = cc
fits k (ended fs c t) (token at stray ∷ ts) v e = cc
fits k (ended fs single t) (token at (joins joint) ∷ ts) v e = first_from at joint fs t ts v (fits k (wanted fs (joined joint (t ∷ []))) ts v e)
fits k (ended fs (joined both xs) t) (token at (joins both) ∷ ts) v e = later_from at both fs xs t ts v (fits k (wanted fs (joined both (xs ++ t ∷ []))) ts v e)
fits k (ended fs (joined either xs) t) (token at (joins either) ∷ ts) v e = later_from at either fs xs t ts v (fits k (wanted fs (joined either (xs ++ t ∷ []))) ts v e)
fits k (ended fs (joined both xs) t) (token at (joins either) ∷ ts) v e = cc
fits k (ended fs (joined either xs) t) (token at (joins both) ∷ ts) v e = cc
fits k (ended [] c t) (token at closes ∷ ts) v e = cc
fits k (ended (pending ∷ fs) c t) (token at closes ∷ ts) v e = tt
fits k (ended (around place outer ∷ fs) c t) (token at closes ∷ ts) v e =
    (at, ts, value_of c t, closes_level (length (around place outer ∷ fs)) at c t ts, from_settled fs outer (value_of c t) ts v (fits k (settled fs outer (value_of c t)) ts v e))

-- tokens that lead to a value are an expression of that value
pub expr_from : (k : ℕ) (tokens : List Token) (v : Condition) → (steps start tokens >>= at_end k) ≡ Ok v → IsExpr 0 tokens [] v
expr_from k tokens v e =
    let all : Fits start tokens v = fits k start tokens v e in
    expr_of 0 tokens all.1 [] all.0 v all.2 all.3
