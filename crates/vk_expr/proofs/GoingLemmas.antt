-- Which tokens readable texts begin with: those that have no fault.
use Rattle.std.proofs.Common.{◌≡◌, ◌+◌, ℕ, List, [], ◌∷◌, ◌++◌, length, refl, ap, sym, ◌∙◌, subst}
use Rattle.std.specs.Prelude.{Result, Ok, Err, Bool, true, false, cond, nat_lt, codes}
use Rattle.std.proofs.lemmas.List.{append-nil}
use Rattle.vk_spec.specs.Reading.{◌>>=◌}
use Rattle.vk_spec.specs.Conditions.{Condition, mark, negation}
use Rattle.vk_expr.specs.Tokens.{Joint, both, either, Sign, Token, token, name, negates, joins, opens, closes, stray, sign_of_word, sign_of_byte, sign_begun, tokens_from, tokens_of}
use Rattle.vk_expr.specs.Grammar.{IsExpr, Reads, blank, whole, CanGoOn}
use Rattle.vk_expr.specs.Reading.{Chain, single, joined, Frame, pending, around, State, wanted, ended, value_of, settled, same_joint, step, steps, at_end, start}
use Rattle.vk_expr.specs.declared.faults.ExprFault.{ExprFault}
use Rattle.vk_expr.specs.declared.faults.ExprFault.TheVariants as fault
use Rattle.vk_expr.specs.Standing.{CanStandAfter}
use Rattle.vk_expr.proofs.StepLemmas.{steps-append}
use Rattle.vk_expr.proofs.TokenLemmas.{blank_tokens}
use Rattle.vk_expr.proofs.FrontLemmas.{front_of, after_blank}
use Rattle.vk_expr.proofs.Sound.{expr_from}
use Rattle.vk_expr.proofs.ReadingLaws.{expr_read}

-- where a unary has ended, no NOT is innermost
abbrev IsProper : State → Type 0
IsProper (wanted fs c) = Unit {0}
IsProper (ended fs c t) = settled fs c t ≡ ended fs c t

abbrev AreProper : Result State ExprFault → Type 0
AreProper (Ok s) = IsProper s
AreProper (Err f) = Unit {0}

settled_proper : (fs : List Frame) (c : Chain) (t : Condition) → IsProper (settled fs c t)
unfolding settled
settled_proper [] c t = refl
settled_proper (pending ∷ fs) c t = settled_proper fs c (negation t)
settled_proper (around at outer ∷ fs) c t = refl

wanted_proper : (b : Bool) (fs : List Frame) (c : Chain) (f : ExprFault) → AreProper (cond b (Ok (wanted fs c)) (Err f))
wanted_proper true fs c f = tt
wanted_proper false fs c f = tt

step_proper : (s : State) (t : Token) → AreProper (step s t)
unfolding step
step_proper (wanted fs c) (token at (name word)) = settled_proper fs c (mark word)
step_proper (wanted fs c) (token at negates) = wanted_proper (nat_lt (length fs) 64) (pending ∷ fs) c fault.Deep
step_proper (wanted fs c) (token at opens) = wanted_proper (nat_lt (length fs) 64) (around at c ∷ fs) single fault.Deep
step_proper (wanted fs c) (token at (joins joint)) = tt
step_proper (wanted fs c) (token at closes) = tt
step_proper (wanted fs c) (token at stray) = tt
step_proper (ended fs single t) (token at (joins joint)) = tt
step_proper (ended fs (joined other xs) t) (token at (joins joint)) = wanted_proper (same_joint joint other) fs (joined other (xs ++ t ∷ [])) (fault.Mixed at)
step_proper (ended [] c t) (token at closes) = tt
step_proper (ended (pending ∷ fs) c t) (token at closes) = tt
step_proper (ended (around place outer ∷ fs) c t) (token at closes) = settled_proper fs outer (value_of c t)
step_proper (ended fs c t) (token at (name word)) = tt
step_proper (ended fs c t) (token at negates) = tt
step_proper (ended fs c t) (token at opens) = tt
step_proper (ended fs c t) (token at stray) = tt

proper_next : (ts : List Token) (r : Result State ExprFault) → AreProper r → ((next : State) → IsProper next → AreProper (steps next ts)) → AreProper (r >>= λ next. steps next ts)
proper_next ts (Ok next) p more = more next p
proper_next ts (Err f) p more = tt

steps_proper : (s : State) (ts : List Token) → IsProper s → AreProper (steps s ts)
unfolding steps
steps_proper s [] p = p
steps_proper s (t ∷ ts) p = proper_next ts (step s t) (step_proper s t) (λ next q. steps_proper next ts q)

reached_proper : (ts : List Token) (s : State) → steps start ts ≡ Ok s → IsProper s
reached_proper ts s e = subst AreProper e (steps_proper start ts tt)

-- a text whose tokens lead from a state to the end, wherever it stands
record Finishes (s : State) : Type 0 where
  text : List ℕ
  tree : Condition
  ends : (n : ℕ) → (steps s (tokens_from n false text) >>= at_end 0) ≡ Ok tree

-- closing parentheses end what is open after a unary
closings : (fs : List Frame) (c : Chain) (t : Condition) → Finishes (settled fs c t)
unfolding settled steps step at_end tokens_from sign_begun sign_of_byte
closings [] c t = record { text = []; tree = value_of c t; ends = λ n. refl }
closings (pending ∷ fs) c t = closings fs c (negation t)
closings (around at outer ∷ fs) c t =
    let later = closings fs outer (value_of c t) in
    record { text = codes ")" ++ later.text; tree = later.tree; ends = λ n. later.ends (n + 1) }

-- how a sign is spelled, wherever it stands
abbrev pub Spells : List ℕ → Sign → Type 0
Spells word sign = (n : ℕ) → tokens_from n false word ≡ token n sign ∷ []

pub name_spelled : Spells (codes "a") (name (codes "a"))
unfolding tokens_from sign_begun sign_of_word
name_spelled n = refl

abbrev pub joint_word : Joint → List ℕ
joint_word both = codes "&"
joint_word either = codes "|"

pub joint_spelled : (joint : Joint) → Spells (joint_word joint) (joins joint)
unfolding tokens_from sign_begun sign_of_byte
joint_spelled both n = refl
joint_spelled either n = refl

-- every state can be led to the end
finishes : (s : State) → IsProper s → Finishes s
unfolding steps step
finishes (wanted fs c) p =
    let later = closings fs c (mark (codes "a")) in
    record {
      text = codes "a" ++ 32 ∷ later.text;
      tree = later.tree;
      ends = λ n.
          let all = after_blank n false (codes "a") later.text in
          ap (λ l. steps (wanted fs c) l >>= at_end 0) (all.1 ∙ ap (λ l. l ++ tokens_from all.0 false later.text) (name_spelled n)) ∙ later.ends all.0;
    }
finishes (ended fs c t) p = subst Finishes p (closings fs c t)

-- a text begins with tokens that lead to a state
pub record Reaches (text : List ℕ) (before : List Token) (s : State) : Type 0 where
  pub rest : List Token
  pub begins : tokens_of text ≡ before ++ rest
  pub runs : steps start before ≡ Ok s

-- a readable text goes on from tokens that were read without a fault
pub can_go_on : (text : List ℕ) (before : List Token) (s : State) → Reaches text before s → CanGoOn before
can_go_on text before s r =
    let front = front_of 0 false text before r.rest r.begins in
    let last = finishes s (reached_proper before s r.runs) in
    let all = after_blank 0 false front.bytes last.text in
    let rest = tokens_from all.0 false last.text in
    let tokens : tokens_of (front.bytes ++ 32 ∷ last.text) ≡ before ++ rest = all.1 ∙ ap (λ l. l ++ rest) front.tokens in
    let ends : (steps start (before ++ rest) >>= at_end 0) ≡ Ok last.tree = rw (steps-append start before rest, r.runs) (last.ends all.0) in
    record {
      text = front.bytes ++ 32 ∷ last.text;
      rest = rest;
      tree = last.tree;
      begins = tokens;
      reads = whole (front.bytes ++ 32 ∷ last.text) last.tree (subst (λ l. IsExpr 0 l [] last.tree) (sym tokens) (expr_from 0 (before ++ rest) last.tree ends));
    }

-- the tokens of an expression have no fault
readable_by : (tokens : List Token) (t : Condition) (f : ExprFault) → IsExpr 0 tokens [] t → steps start tokens ≡ Err f → ⊥
readable_by tokens t f e fails =
    let reads : (steps start tokens >>= at_end 0) ≡ Ok t = expr_read 0 tokens t e in
    let broken : (steps start tokens >>= at_end 0) ≡ Err f = ap (λ r. r >>= at_end 0) fails in
    cc

-- the tokens of a readable text have no fault
readable_runs : (text : List ℕ) (t : Condition) (f : ExprFault) → Reads text t → steps start (tokens_of text) ≡ Err f → ⊥
unfolding steps
readable_runs _ _ f (blank text every) fails =
    let none : steps start [] ≡ Err f = subst (λ l. steps start l ≡ Err f) (blank_tokens text 0 false every) fails in
    cc
readable_runs _ _ f (whole text t e) fails = readable_by (tokens_of text) t f e fails

-- no readable text begins with tokens that have a fault
pub cannot_go_on : (tokens : List Token) (f : ExprFault) → steps start tokens ≡ Err f → CanGoOn tokens → ⊥
cannot_go_on tokens f e goes = readable_runs goes.text goes.tree f goes.reads (ap (λ l. steps start l) goes.begins ∙ steps-append start tokens goes.rest ∙ ap (λ r. r >>= λ next. steps next goes.rest) e)

-- one more token
pub one_more : (before : List Token) (s : State) (t : Token) (r : Result State ExprFault) → steps start before ≡ Ok s → step s t ≡ r → steps start (before ++ t ∷ []) ≡ r
unfolding steps
one_more before s t (Ok next) e one = rw (steps-append start before (t ∷ []), e, one) refl
one_more before s t (Err f) e one = rw (steps-append start before (t ∷ []), e, one) refl

-- a sign that leads on can stand next
pub can_stand : (text : List ℕ) (before : List Token) (s next : State) (word : List ℕ) (sign : Sign) → Reaches text before s → Spells word sign → ((n : ℕ) → step s (token n sign) ≡ Ok next) → CanStandAfter before sign
can_stand text before s next word sign r spelled leads =
    let front = front_of 0 false text before r.rest r.begins in
    let all = after_blank 0 false front.bytes word in
    let longer = before ++ token all.0 sign ∷ [] in
    let tokens : tokens_of (front.bytes ++ 32 ∷ word) ≡ longer = all.1 ∙ ap (λ l. l ++ tokens_from all.0 false word) front.tokens ∙ ap (λ l. before ++ l) (spelled all.0) in (
      all.0,
      can_go_on (front.bytes ++ 32 ∷ word) longer next record {
        rest = [];
        begins = tokens ∙ sym (append-nil longer);
        runs = one_more before s (token all.0 sign) (Ok next) r.runs (leads all.0);
      },
    )

-- a sign that is unexpected can't
pub cannot_stand : (before : List Token) (s : State) (sign : Sign) → steps start before ≡ Ok s → ((n : ℕ) → step s (token n sign) ≡ Err (fault.Unexpected n)) → CanStandAfter before sign → ⊥
cannot_stand before s sign runs fails stands = cannot_go_on (before ++ token stands.0 sign ∷ []) (fault.Unexpected stands.0) (one_more before s (token stands.0 sign) (Err (fault.Unexpected stands.0)) runs (fails stands.0)) stands.1
