-- What is pending, as a list with the innermost first.
use Rattle.std.proofs.Common.{◌≡◌, ◌-◌, ℕ, List, [], ◌∷◌, ◌++◌, length, take, map, refl, ap, sym, ◌∙◌, arith}
use Rattle.std.specs.Prelude.{Option, Some, None, reverse, option_to_list, true, false}
use Rattle.std.proofs.lemmas.List.{reverse-append, map-append, append-nil, length-take}
use Rattle.vk_spec.specs.Conditions.{Condition, negation}
use Rattle.vk_expr.specs.Reading.{Chain, State, pending, around, ended, settled, cut_off}
use Rattle.vk_expr.specs.declared.faults.ExprFault.TheVariants as fault
use Rattle.vk_expr.specs.Reading as reading
use Rattle.vk_expr.specs.declared.frames.Chain as rust
use Rattle.vk_expr.specs.declared.frames.Frame.{Frame}
use Rattle.vk_expr.specs.declared.frames.Frame.TheVariants as frame
use Rattle.vk_expr.specs.ReaderViews.{frame_of, frames_of, is_pending, is_negated}

-- the last one is the innermost
pub frames_of-push : (fs : List Frame) (f : Frame) → frames_of (fs ++ f ∷ []) ≡ frame_of f ∷ frames_of fs
frames_of-push fs f = ap reverse (map-append frame_of fs (f ∷ [])) ∙ reverse-append (map frame_of fs) (frame_of f ∷ [])

-- where nothing could be taken away there is nothing
pub nothing_left : {A : Type 0} (all rest : List A) → all ≡ rest ++ [] → rest ≡ take (length all - 1) all → all ≡ []
nothing_left [] rest split taken = refl
nothing_left (x ∷ xs) rest split taken =
    let same : length (x ∷ xs) ≡ length rest = ap length (split ∙ append-nil rest) in
    let fewer : length rest ≡ length (take (length (x ∷ xs) - 1) (x ∷ xs)) = ap length taken in
    absurd (omega (arith, same, fewer, length-take (length (x ∷ xs) - 1) (x ∷ xs)))

-- a NOT is taken away: it ends with the unary
pending_first : (f : Frame) (fs : List reading.Frame) (c : Chain) (t : Condition) → is_pending (frame_of f) ≡ true → settled fs c (negation t) ≡ settled (frame_of f ∷ fs) c t
unfolding settled
pending_first frame.Pending fs c t e = refl
pending_first (frame.Around at chain) fs c t e = cc

pub unwinds : (all rest : List Frame) (popped : Option Frame) (c : Chain) (t : Condition) → all ≡ rest ++ option_to_list popped → rest ≡ take (length all - 1) all → is_negated (frames_of all) ≡ true → settled (frames_of rest) c (negation t) ≡ settled (frames_of all) c t
unwinds all rest None c t split taken negated =
    let none : is_negated (frames_of all) ≡ false = ap (λ l. is_negated (frames_of l)) (nothing_left all rest split taken) in
    cc
unwinds all rest (Some f) c t split taken negated =
    let shown : frames_of all ≡ frame_of f ∷ frames_of rest = ap frames_of split ∙ frames_of-push rest f in
    pending_first f (frames_of rest) c t (sym (ap is_negated shown) ∙ negated) ∙ ap (λ l. settled l c t) (sym shown)

-- no NOT is innermost: the unary has ended
pub rests : (fs : List reading.Frame) (c : Chain) (t : Condition) → is_negated fs ≡ false → settled fs c t ≡ ended fs c t
unfolding settled
rests [] c t e = refl
rests (pending ∷ fs) c t e = cc
rests (around at chain ∷ fs) c t e = refl

-- the fault of a text that ends here, by the last one
pub cut_nothing : (n : ℕ) (all rest : List Frame) → all ≡ rest ++ [] → rest ≡ take (length all - 1) all → cut_off n (frames_of all) ≡ fault.Unexpected n
unfolding cut_off
cut_nothing n all rest split taken = ap (λ l. cut_off n (frames_of l)) (nothing_left all rest split taken)

pub cut_last : (n : ℕ) (all rest : List Frame) (f : Frame) → all ≡ rest ++ f ∷ [] → cut_off n (frames_of all) ≡ cut_off n (frame_of f ∷ frames_of rest)
cut_last n all rest f split = ap (λ l. cut_off n l) (ap frames_of split ∙ frames_of-push rest f)

pub unwinds_on : (all rest : List Frame) (popped : Option Frame) (c : Chain) (t u : Condition) (whole : State) → all ≡ rest ++ option_to_list popped → rest ≡ take (length all - 1) all → is_negated (frames_of all) ≡ true → u ≡ negation t → settled (frames_of all) c t ≡ whole → settled (frames_of rest) c u ≡ whole
unwinds_on all rest popped c t u whole split taken negated same so_far = ap (λ t. settled (frames_of rest) c t) same ∙ unwinds all rest popped c t split taken negated ∙ so_far

-- a parenthesis is the last one
pub cut_around : (n at : ℕ) (outer : rust.Chain) (all rest : List Frame) (f : Frame) → all ≡ rest ++ f ∷ [] → f ≡ frame.Around at outer → cut_off n (frames_of all) ≡ fault.Open at
unfolding cut_off
cut_around n at outer all rest f split is = cut_last n all rest f split ∙ ap (λ f. cut_off n (frame_of f ∷ frames_of rest)) is

-- a NOT is the last one
pub cut_pending : (n : ℕ) (all rest : List Frame) (f : Frame) → all ≡ rest ++ f ∷ [] → f ≡ frame.Pending → cut_off n (frames_of all) ≡ cut_off n (frames_of rest)
unfolding cut_off
cut_pending n all rest f split is = cut_last n all rest f split ∙ ap (λ f. cut_off n (frame_of f ∷ frames_of rest)) is
