-- A text is read as a fault exactly where that is its first fault.
use Rattle.std.proofs.Common.{◌≡◌, ℕ, List, [], ◌∷◌, ◌++◌, length, append_assoc, refl, ap, sym, ◌∙◌}
use Rattle.std.specs.Prelude.{Result, Ok, Err, Bool, true, false}
use Rattle.std.specs.List.{list_all}
use Rattle.std.proofs.lemmas.List.{append-nil}
use Rattle.vk_spec.specs.Conditions.{Condition, always}
use Rattle.vk_expr.specs.Tokens.{Token, is_blank, tokens_of}
use Rattle.vk_expr.specs.Grammar.{Reads, blank, CanGoOn}
use Rattle.vk_expr.specs.Reading.{State, step, steps, at_end, start, reading_of}
use Rattle.vk_expr.specs.declared.faults.ExprFault.{ExprFault}
use Rattle.vk_expr.specs.Standing.{IsToldBy, IsToldByEnd, IsFirstFault}
use Rattle.vk_expr.specs.Standing as standing
use Rattle.vk_expr.proofs.StepLemmas.{Stops, stops, steps-append}
use Rattle.vk_expr.proofs.ReadingLaws.{is_reads, never_both}
use Rattle.vk_expr.proofs.GoingLemmas.{Reaches, can_go_on, cannot_go_on, one_more}
use Rattle.vk_expr.proofs.StandingLemmas.{told_by, told_once, told_by_end, end_told_once}

stopped : (text : List ℕ) (f : ExprFault) → Stops start (tokens_of text) f → IsFirstFault text f
stopped text f stop =
    let reaches : Reaches text stop.before stop.reached = record { rest = stop.at ∷ stop.after; begins = stop.split; runs = stop.runs } in
    standing.at_token text stop.before stop.after stop.at f stop.split (can_go_on text stop.before stop.reached reaches)
    (cannot_go_on (stop.before ++ stop.at ∷ []) f (one_more stop.before stop.reached stop.at (Err f) stop.runs stop.fails))
    (told_by text stop.before stop.reached stop.at f reaches stop.fails)

-- after its tokens, the end of a text that isn't blank tells a fault or gives a tree
ended_by : (text : List ℕ) (s : State) (r : Result Condition ExprFault) → list_all is_blank text ≡ false → steps start (tokens_of text) ≡ Ok s → at_end (length text) s ≡ r → reading_of text ≡ r
unfolding reading_of
ended_by text s r some runs e = rw (some, runs) e

-- the reading of a text whose tokens have a fault
broken_by : (text : List ℕ) (f : ExprFault) → list_all is_blank text ≡ false → steps start (tokens_of text) ≡ Err f → reading_of text ≡ Err f
unfolding reading_of
broken_by text f some e = rw (some, e) refl

-- what a text is read as that isn't blank
fault_by : (text : List ℕ) (f : ExprFault) (r : Result State ExprFault) → list_all is_blank text ≡ false → steps start (tokens_of text) ≡ r → reading_of text ≡ Err f → IsFirstFault text f
fault_by text f (Ok s) some e fails =
    let all : Reaches text (tokens_of text) s = record { rest = []; begins = sym (append-nil (tokens_of text)); runs = e } in
    let told : at_end (length text) s ≡ Err f = sym (ended_by text s (at_end (length text) s) some e refl) ∙ fails in
    standing.at_end text f (can_go_on text (tokens_of text) s all) (λ t reads. never_both text t f reads fails) (told_by_end (length text) (tokens_of text) s f e told)
fault_by text f (Err g) some e fails =
    let same : g ≡ f = cc (broken_by text g some e, fails) in
    stopped text f (stops start (tokens_of text) f (e ∙ ap Err same))

blank_has_none : (text : List ℕ) (f : ExprFault) → list_all is_blank text ≡ true → reading_of text ≡ Err f → ⊥
blank_has_none text f every fails = never_both text always f (blank text every) fails

first_by : (text : List ℕ) (f : ExprFault) (b : Bool) → list_all is_blank text ≡ b → reading_of text ≡ Err f → IsFirstFault text f
first_by text f true every fails = absurd (blank_has_none text f every fails)
first_by text f false some fails = fault_by text f (steps start (tokens_of text)) some refl fails

-- a fault that is read is the first
pub first_fault : (text : List ℕ) (f : ExprFault) → reading_of text ≡ Err f → IsFirstFault text f
first_fault text f fails = first_by text f (list_all is_blank text) refl fails

-- a readable text has no first fault
readable_has_none : (text : List ℕ) (t : Condition) (f : ExprFault) → Reads text t → IsFirstFault text f → ⊥
readable_has_none _ t _ reads (standing.at_token text before after here f split goes stops told) = stops record {
  text = text;
  rest = after;
  tree = t;
  begins = split ∙ sym (append_assoc before (here ∷ []) after);
  reads = reads;
}
readable_has_none _ t _ reads (standing.at_end text f goes unread told) = unread t reads

-- a first fault at a token is read
here_by : (text : List ℕ) (before after : List Token) (here : Token) (f : ExprFault) (s : State) (r : Result State ExprFault) → list_all is_blank text ≡ false → tokens_of text ≡ before ++ here ∷ after → (CanGoOn (before ++ here ∷ []) → ⊥) → IsToldBy before here f → steps start before ≡ Ok s → step s here ≡ r
    → reading_of text ≡ Err f
unfolding steps
here_by text before after here f s (Ok next) some split stops told runs one = absurd (stops (can_go_on text (before ++ here ∷ []) next record {
  rest = after;
  begins = split ∙ sym (append_assoc before (here ∷ []) after);
  runs = one_more before s here (Ok next) runs one;
}))
here_by text before after here f s (Err g) some split stops told runs one =
    let same : g ≡ f = told_once before here g f (told_by text before s here g record { rest = here ∷ after; begins = split; runs = runs } one) told in
    let fails : steps start (before ++ here ∷ after) ≡ Err g = rw (steps-append start before (here ∷ after), runs, one) refl in
    broken_by text g some (ap (λ l. steps start l) split ∙ fails) ∙ ap Err same

token_by : (text : List ℕ) (before after : List Token) (here : Token) (f : ExprFault) (r : Result State ExprFault) → list_all is_blank text ≡ false → tokens_of text ≡ before ++ here ∷ after → CanGoOn before → (CanGoOn (before ++ here ∷ []) → ⊥) → IsToldBy before here f → steps start before ≡ r → reading_of text ≡ Err f
token_by text before after here f (Ok s) some split goes stops told e = here_by text before after here f s (step s here) some split stops told e refl
token_by text before after here f (Err g) some split goes stops told e = absurd (cannot_go_on before g e goes)

-- a first fault at the end is read
last_by : (text : List ℕ) (f : ExprFault) (s : State) (r : Result Condition ExprFault) → list_all is_blank text ≡ false → ((t : Condition) → Reads text t → ⊥) → IsToldByEnd (length text) (tokens_of text) f → steps start (tokens_of text) ≡ Ok s → at_end (length text) s ≡ r → reading_of text ≡ Err f
last_by text f s (Ok t) some unread told runs e = absurd (unread t (is_reads text t (ended_by text s (Ok t) some runs e)))
last_by text f s (Err g) some unread told runs e =
    let same : g ≡ f = end_told_once (length text) (tokens_of text) g f (told_by_end (length text) (tokens_of text) s g runs e) told in
    ended_by text s (Err g) some runs e ∙ ap Err same

end_by : (text : List ℕ) (f : ExprFault) (r : Result State ExprFault) → list_all is_blank text ≡ false → CanGoOn (tokens_of text) → ((t : Condition) → Reads text t → ⊥) → IsToldByEnd (length text) (tokens_of text) f → steps start (tokens_of text) ≡ r → reading_of text ≡ Err f
end_by text f (Ok s) some goes unread told e = last_by text f s (at_end (length text) s) some unread told e refl
end_by text f (Err g) some goes unread told e = absurd (cannot_go_on (tokens_of text) g e goes)

some_by : (text : List ℕ) (f : ExprFault) → list_all is_blank text ≡ false → IsFirstFault text f → reading_of text ≡ Err f
some_by _ _ some (standing.at_token text before after here f split goes stops told) = token_by text before after here f (steps start before) some split goes stops told refl
some_by _ _ some (standing.at_end text f goes unread told) = end_by text f (steps start (tokens_of text)) some goes unread told refl

read_by : (text : List ℕ) (f : ExprFault) (b : Bool) → list_all is_blank text ≡ b → IsFirstFault text f → reading_of text ≡ Err f
read_by text f true every first = absurd (readable_has_none text always f (blank text every) first)
read_by text f false some first = some_by text f some first

-- the first fault is read
pub fault_read : (text : List ℕ) (f : ExprFault) → IsFirstFault text f → reading_of text ≡ Err f
fault_read text f first = read_by text f (list_all is_blank text) refl first

pub one_fault : (text : List ℕ) (f g : ExprFault) → IsFirstFault text f → IsFirstFault text g → f ≡ g
one_fault text f g one other = cc (fault_read text f one, fault_read text g other)
