-- What the grammar has is read: steps over its tokens lead to its tree.
use Rattle.std.proofs.Common.{◌≡◌, ◌+◌, ◌<◌, ℕ, List, [], ◌∷◌, ◌++◌, length, refl, ap, ◌∙◌, append_assoc, arith}
use Rattle.std.specs.Prelude.{Ok, true}
use Rattle.std.proofs.lemmas.Bool.Decides.{nat_tests}
use Rattle.vk_spec.specs.Conditions.{Condition}
use Rattle.vk_expr.specs.Tokens.{Joint, both, either, Token, token, joins, closes}
use Rattle.vk_expr.specs.Grammar.{IsUnary, IsExpr, IsTail, named, negated, enclosed, alone, chain, done, more, joined_by}
use Rattle.vk_expr.specs.Reading.{Chain, single, joined, Frame, pending, around, State, wanted, ended, value_of, settled, deeper, same_joint, step, steps}

-- one more is pending where there were fewer than 64
deepens : (fs : List Frame) (f : Frame) (c : Chain) → length fs < 64 → deeper fs f c ≡ Ok (wanted (f ∷ fs) c)
deepens fs f c few = grind (arith, nat_tests)

pub same : (joint : Joint) → same_joint joint joint ≡ true
same both = refl
same either = refl

-- where the tokens of an expression lead to
pub record Led (fs : List Frame) (from rest : List Token) (s : State) (t : Condition) : Type 0 where
  pub members : Chain
  pub last : Condition
  pub leads : steps s from ≡ steps (ended fs members last) rest
  pub value : value_of members last ≡ t

-- no NOT is innermost, so what has ended stays so
abbrev pub IsOpen : List Frame → Type 0
IsOpen fs = (c : Chain) (t : Condition) → settled fs c t ≡ ended fs c t

-- a parenthesis that is closed: its value has ended where it opened
closes_at : (at end : ℕ) (fs : List Frame) (outer : Chain) (from rest : List Token) (s : State) (t : Condition) → Led (around at outer ∷ fs) from (token end closes ∷ rest) s t → steps s from ≡ steps (settled fs outer t) rest
unfolding steps step
closes_at at end fs outer from rest s t led = led.leads ∙ ap (λ v. steps (settled fs outer v) rest) led.value

-- the same from an earlier state
earlier : (fs : List Frame) (from middle rest : List Token) (s next : State) (t u : Condition) → steps s from ≡ steps next middle → t ≡ u → Led fs middle rest next t → Led fs from rest s u
earlier fs from middle rest s next t u one e led = record {
  members = led.members;
  last = led.last;
  leads = one ∙ led.leads;
  value = led.value ∙ e;
}

mutual
  unfolding steps step settled

  pub unary_leads : (depth : ℕ) (from rest : List Token) (t : Condition) → IsUnary depth from rest t → (fs : List Frame) (c : Chain) → length fs ≡ depth → steps (wanted fs c) from ≡ steps (settled fs c t) rest
  unary_leads depth _ rest _ (named _ at word _) fs c d = refl
  unary_leads depth _ rest _ (negated _ at from _ t few inner) fs c d =
      rw (deepens fs pending c (rw d few)) (unary_leads (depth + 1) from rest t inner (pending ∷ fs) c (omega (arith, d)))
  unary_leads depth _ rest _ (enclosed _ at end from _ t few inner) fs c d =
      rw (deepens fs (around at c) single (rw d few)) (closes_at at end fs c from rest (wanted (around at c ∷ fs) single) t (expr_leads (depth + 1) from (token end closes ∷ rest) t inner (around at c ∷ fs) (λ c t. refl) (omega (arith, d))))

  pub expr_leads : (depth : ℕ) (from rest : List Token) (t : Condition) → IsExpr depth from rest t → (fs : List Frame) → IsOpen fs → length fs ≡ depth → Led fs from rest (wanted fs single) t
  expr_leads depth from rest t (alone _ _ _ _ one) fs free d = record {
    members = single;
    last = t;
    leads = unary_leads depth from rest t one fs single d ∙ ap (λ s. steps s rest) (free single t);
    value = refl;
  }
  expr_leads depth from rest _ (chain joint _ _ middle _ t next ts one tail) fs free d =
      earlier fs from middle rest (wanted fs single) (ended fs single t) (joined_by joint (t ∷ next ∷ ts)) (joined_by joint (t ∷ next ∷ ts)) (unary_leads depth from middle t one fs single d ∙ ap (λ s. steps s middle) (free single t)) refl (tail_first joint depth middle rest next ts tail fs free d t)

  pub tail_first : (joint : Joint) (depth : ℕ) (from rest : List Token) (next : Condition) (ts : List Condition) → IsTail joint depth from rest (next ∷ ts) → (fs : List Frame) → IsOpen fs → length fs ≡ depth → (t : Condition) → Led fs from rest (ended fs single t) (joined_by joint (t ∷ next ∷ ts))
  tail_first joint depth _ rest _ _ (more _ _ at from middle _ u us one tail) fs free d t =
      earlier fs (token at (joins joint) ∷ from) middle rest (ended fs single t) (ended fs (joined joint (t ∷ [])) u) (joined_by joint (t ∷ u ∷ us)) (joined_by joint (t ∷ u ∷ us))
      (unary_leads depth from middle u one fs (joined joint (t ∷ [])) d ∙ ap (λ s. steps s middle) (free (joined joint (t ∷ [])) u)) refl
      (tail_leads joint depth middle rest us tail fs free d (t ∷ []) u)

  pub tail_leads : (joint : Joint) (depth : ℕ) (from rest : List Token) (ts : List Condition) → IsTail joint depth from rest ts → (fs : List Frame) → IsOpen fs → length fs ≡ depth → (xs : List Condition) (t : Condition) → Led fs from rest (ended fs (joined joint xs) t) (joined_by joint (xs ++ t ∷ ts))
  tail_leads joint depth from _ _ (done _ _ _) fs free d xs t = record {
    members = joined joint xs;
    last = t;
    leads = refl;
    value = refl;
  }
  tail_leads joint depth _ rest _ (more _ _ at from middle _ u us one tail) fs free d xs t =
      earlier fs (token at (joins joint) ∷ from) middle rest (ended fs (joined joint xs) t) (ended fs (joined joint (xs ++ t ∷ [])) u) (joined_by joint ((xs ++ t ∷ []) ++ u ∷ us)) (joined_by joint (xs ++ t ∷ u ∷ us))
      (rw (same joint) (unary_leads depth from middle u one fs (joined joint (xs ++ t ∷ [])) d ∙ ap (λ s. steps s middle) (free (joined joint (xs ++ t ∷ [])) u))) (ap (joined_by joint) (append_assoc xs (t ∷ []) (u ∷ us)))
      (tail_leads joint depth middle rest us tail fs free d (xs ++ t ∷ []) u)
