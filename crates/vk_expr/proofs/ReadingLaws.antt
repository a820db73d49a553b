-- A text reads as a tree exactly where its reading is that tree.
use Rattle.std.proofs.Common.{◌≡◌, ℕ, List, [], length, refl, ap, ◌∙◌, subst}
use Rattle.std.specs.Prelude.{Ok, Err, Bool, true, false}
use Rattle.std.specs.List.{list_all}
use Rattle.vk_spec.specs.Reading.{◌>>=◌}
use Rattle.vk_spec.specs.Conditions.{Condition, always}
use Rattle.vk_expr.specs.Tokens.{Token, is_blank, tokens_of}
use Rattle.vk_expr.specs.Grammar.{IsExpr, Reads, blank, whole}
use Rattle.vk_expr.specs.Reading.{settled, steps, at_end, cut_off, start, reading_of}
use Rattle.vk_expr.specs.declared.faults.ExprFault.{ExprFault}
use Rattle.vk_expr.specs.declared.faults.ExprFault.TheVariants as fault
use Rattle.vk_expr.proofs.TokenLemmas.{blank_tokens}
use Rattle.vk_expr.proofs.Complete.{Led, expr_leads}
use Rattle.vk_expr.proofs.Sound.{expr_from}

-- an expression is read from its tokens, whatever the text's length
pub expr_read : (n : ℕ) (tokens : List Token) (t : Condition) → IsExpr 0 tokens [] t → (steps start tokens >>= at_end n) ≡ Ok t
unfolding steps at_end settled
expr_read n tokens t e =
    let led : Led [] tokens [] start t = expr_leads 0 tokens [] t e [] (λ c t. refl) refl in
    ap (λ r. r >>= at_end n) led.leads ∙ ap Ok led.value

nothing_reads : (t : Condition) → IsExpr 0 [] [] t → ⊥
unfolding steps at_end cut_off
nothing_reads t e =
    let impossible : Err (fault.Unexpected 0) ≡ Ok t = expr_read 0 [] t e in
    cc

whole_by : (text : List ℕ) (t : Condition) (b : Bool) → list_all is_blank text ≡ b → IsExpr 0 (tokens_of text) [] t → reading_of text ≡ Ok t
unfolding reading_of
whole_by text t true all e = absurd (nothing_reads t (subst (λ l. IsExpr 0 l [] t) (blank_tokens text 0 false all) e))
whole_by text t false all e = rw all (expr_read (length text) (tokens_of text) t e)

blank_is : (text : List ℕ) → list_all is_blank text ≡ true → reading_of text ≡ Ok always
unfolding reading_of
blank_is text all = rw all refl

-- what the grammar has is read
pub reads_is : (text : List ℕ) (t : Condition) → Reads text t → reading_of text ≡ Ok t
reads_is _ _ (blank text all) = blank_is text all
reads_is _ _ (whole text t e) = whole_by text t (list_all is_blank text) refl e

is_reads_by : (text : List ℕ) (t : Condition) (b : Bool) → list_all is_blank text ≡ b → reading_of text ≡ Ok t → Reads text t
unfolding reading_of
is_reads_by text t true all e =
    let same : always ≡ t = cc (blank_is text all, e) in
    subst (λ t. Reads text t) same (blank text all)
is_reads_by text t false all e = whole text t (expr_from (length text) (tokens_of text) t (rw all at e))

-- what is read the grammar has
pub is_reads : (text : List ℕ) (t : Condition) → reading_of text ≡ Ok t → Reads text t
is_reads text t e = is_reads_by text t (list_all is_blank text) refl e

pub one_reading : (text : List ℕ) (s t : Condition) → Reads text s → Reads text t → s ≡ t
one_reading text s t one other = cc (reads_is text s one, reads_is text t other)

pub never_both : (text : List ℕ) (t : Condition) (f : ExprFault) → Reads text t → reading_of text ≡ Err f → ⊥
never_both text t f reads fails = cc (reads_is text t reads, fails)
