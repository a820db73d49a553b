-- What a fault tells, at a token and at the end.
use Rattle.std.proofs.Common.{◌≡◌, ℕ, List, [], ◌∷◌, ◌++◌, length, refl, subst}
use Rattle.std.specs.Prelude.{Result, Ok, Err, Bool, true, false, cond, nat_lt, codes}
use Rattle.vk_spec.specs.Reading.{◌>>=◌}
use Rattle.vk_spec.specs.Conditions.{Condition, mark, negation}
use Rattle.vk_expr.specs.Tokens.{Joint, both, either, Sign, Token, token, name, negates, joins, opens, closes, stray}
use Rattle.vk_expr.specs.Reading.{Chain, single, joined, Frame, pending, around, State, wanted, ended, value_of, settled, same_joint, step, steps, at_end, cut_off, start}
use Rattle.vk_expr.specs.declared.faults.ExprFault.{ExprFault}
use Rattle.vk_expr.specs.declared.faults.ExprFault.TheVariants as fault
use Rattle.vk_expr.specs.Standing.{CanStandAfter, other_than, IsMixed, WantsUnary, IsTooDeep, IsToldBy, mixes, too_deep, misplaced, open_after, open_places, IsToldByEnd, too_short, inside}
use Rattle.vk_expr.proofs.Complete.{same}
use Rattle.vk_expr.proofs.GoingLemmas.{Reaches, name_spelled, joint_word, joint_spelled, can_stand, cannot_stand}

-- where a unary is wanted, a name can stand
unary_wanted : (text : List ℕ) (before : List Token) (fs : List Frame) (c : Chain) → Reaches text before (wanted fs c) → WantsUnary before
unfolding step
unary_wanted text before fs c r = (codes "a", can_stand text before (wanted fs c) (settled fs c (mark (codes "a"))) (codes "a") (name (codes "a")) r name_spelled (λ n. refl))

-- after a chain, its own operator can stand
joint_stands : (text : List ℕ) (before : List Token) (fs : List Frame) (joint : Joint) (xs : List Condition) (t : Condition) → Reaches text before (ended fs (joined joint xs) t) → CanStandAfter before (joins joint)
unfolding step
joint_stands text before fs joint xs t r = can_stand text before (ended fs (joined joint xs) t) (wanted fs (joined joint (xs ++ t ∷ []))) (joint_word joint) (joins joint) r (joint_spelled joint) (λ n. rw (same joint) refl)

-- where a unary is wanted, no operator can stand
no_joint : (before : List Token) (fs : List Frame) (c : Chain) (joint : Joint) → steps start before ≡ Ok (wanted fs c) → CanStandAfter before (joins joint) → ⊥
unfolding step
no_joint before fs c joint runs = cannot_stand before (wanted fs c) (joins joint) runs (λ n. refl)

-- after a unary, no name can stand
no_unary : (before : List Token) (fs : List Frame) (c : Chain) (t : Condition) → steps start before ≡ Ok (ended fs c t) → WantsUnary before → ⊥
unfolding step
no_unary before fs c t runs wants = cannot_stand before (ended fs c t) (name wants.0) runs (λ n. refl) wants.1

-- a token that isn't taken tells itself
misplaced_here : (before : List Token) (at : ℕ) (sign : Sign) (f : ExprFault) → fault.Unexpected at ≡ f → (IsMixed before sign → ⊥) → (IsTooDeep before sign → ⊥) → IsToldBy before (token at sign) f
misplaced_here before at sign f is other deeper = subst (λ f. IsToldBy before (token at sign) f) is (misplaced before at sign other deeper)

-- what may not be deeper tells that
deep_here : (before : List Token) (at : ℕ) (sign : Sign) (next : State) (b : Bool) (f : ExprFault) → cond b (Ok next) (Err fault.Deep) ≡ Err f → IsTooDeep before sign → IsToldBy before (token at sign) f
deep_here before at sign next true f fails deeper = cc
deep_here before at sign next false f fails deeper = subst (λ f. IsToldBy before (token at sign) f) (cc) (too_deep before at sign deeper)

-- the other operator than a chain has tells that
mixed_here : (before : List Token) (at : ℕ) (joint other : Joint) (next : State) (f : ExprFault) → cond (same_joint joint other) (Ok next) (Err (fault.Mixed at)) ≡ Err f → CanStandAfter before (joins other) → IsToldBy before (token at (joins joint)) f
mixed_here before at both both next f fails stands = cc
mixed_here before at either either next f fails stands = cc
mixed_here before at both either next f fails stands = subst (λ f. IsToldBy before (token at (joins both)) f) (cc) (mixes before at (joins both) stands)
mixed_here before at either both next f fails stands = subst (λ f. IsToldBy before (token at (joins either)) f) (cc) (mixes before at (joins either) stands)

-- what a token tells that has a fault
pub told_by : (text : List ℕ) (before : List Token) (s : State) (here : Token) (f : ExprFault) → Reaches text before s → step s here ≡ Err f → IsToldBy before here f
unfolding step
told_by text before (wanted fs c) (token at (name word)) f r fails = cc
told_by text before (wanted fs c) (token at negates) f r fails = deep_here before at negates (wanted (pending ∷ fs) c) (nat_lt (length fs) 64) f fails (unary_wanted text before fs c r)
told_by text before (wanted fs c) (token at opens) f r fails = deep_here before at opens (wanted (around at c ∷ fs) single) (nat_lt (length fs) 64) f fails (unary_wanted text before fs c r)
told_by text before (wanted fs c) (token at (joins joint)) f r fails = misplaced_here before at (joins joint) f (cc) (no_joint before fs c (other_than joint) r.runs) (λ d. d)
told_by text before (wanted fs c) (token at closes) f r fails = misplaced_here before at closes f (cc) (λ m. m) (λ d. d)
told_by text before (wanted fs c) (token at stray) f r fails = misplaced_here before at stray f (cc) (λ m. m) (λ d. d)
told_by text before (ended fs single t) (token at (joins joint)) f r fails = cc
told_by text before (ended fs (joined other xs) t) (token at (joins joint)) f r fails = mixed_here before at joint other (wanted fs (joined other (xs ++ t ∷ []))) f fails (joint_stands text before fs other xs t r)
told_by text before (ended [] c t) (token at closes) f r fails = misplaced_here before at closes f (cc) (λ m. m) (λ d. d)
told_by text before (ended (pending ∷ fs) c t) (token at closes) f r fails = misplaced_here before at closes f (cc) (λ m. m) (λ d. d)
told_by text before (ended (around place outer ∷ fs) c t) (token at closes) f r fails = cc
told_by text before (ended fs c t) (token at (name word)) f r fails = misplaced_here before at (name word) f (cc) (λ m. m) (λ d. d)
told_by text before (ended fs c t) (token at negates) f r fails = misplaced_here before at negates f (cc) (λ m. m) (no_unary before fs c t r.runs)
told_by text before (ended fs c t) (token at opens) f r fails = misplaced_here before at opens f (cc) (λ m. m) (no_unary before fs c t r.runs)
told_by text before (ended fs c t) (token at stray) f r fails = misplaced_here before at stray f (cc) (λ m. m) (λ d. d)

-- no sign is mixed and too deep
not_both : (before : List Token) (sign : Sign) → IsMixed before sign → IsTooDeep before sign → ⊥
not_both before (name word) m d = m
not_both before negates m d = m
not_both before (joins joint) m d = d
not_both before opens m d = m
not_both before closes m d = m
not_both before stray m d = m

-- a token tells one fault
pub told_once : (before : List Token) (here : Token) (f g : ExprFault) → IsToldBy before here f → IsToldBy before here g → f ≡ g
told_once _ _ _ _ (mixes before at sign m) (mixes _ _ _ _) = refl
told_once _ _ _ _ (mixes before at sign m) (too_deep _ _ _ d) = absurd (not_both before sign m d)
told_once _ _ _ _ (mixes before at sign m) (misplaced _ _ _ other _) = absurd (other m)
told_once _ _ _ _ (too_deep before at sign d) (mixes _ _ _ m) = absurd (not_both before sign m d)
told_once _ _ _ _ (too_deep before at sign d) (too_deep _ _ _ _) = refl
told_once _ _ _ _ (too_deep before at sign d) (misplaced _ _ _ _ deeper) = absurd (deeper d)
told_once _ _ _ _ (misplaced before at sign other deeper) (mixes _ _ _ m) = absurd (other m)
told_once _ _ _ _ (misplaced before at sign other deeper) (too_deep _ _ _ d) = absurd (deeper d)
told_once _ _ _ _ (misplaced before at sign other deeper) (misplaced _ _ _ _ _) = refl

-- the places of the parentheses that are pending
abbrev places_in : List Frame → List ℕ
places_in [] = []
places_in (pending ∷ fs) = places_in fs
places_in (around at outer ∷ fs) = at ∷ places_in fs

abbrev places_of : State → List ℕ
places_of (wanted fs c) = places_in fs
places_of (ended fs c t) = places_in fs

abbrev HasPlaces : List ℕ → Result State ExprFault → Type 0
HasPlaces ps (Ok s) = ps ≡ places_of s
HasPlaces ps (Err f) = Unit {0}

settled_places : (fs : List Frame) (c : Chain) (t : Condition) → places_in fs ≡ places_of (settled fs c t)
unfolding settled
settled_places [] c t = refl
settled_places (pending ∷ fs) c t = settled_places fs c (negation t)
settled_places (around at outer ∷ fs) c t = refl

wanted_places : (b : Bool) (fs : List Frame) (c : Chain) (f : ExprFault) → HasPlaces (places_in fs) (cond b (Ok (wanted fs c)) (Err f))
wanted_places true fs c f = refl
wanted_places false fs c f = tt

step_places : (s : State) (t : Token) → HasPlaces (open_after (places_of s) t) (step s t)
unfolding step
step_places (wanted fs c) (token at (name word)) = settled_places fs c (mark word)
step_places (wanted fs c) (token at negates) = wanted_places (nat_lt (length fs) 64) (pending ∷ fs) c fault.Deep
step_places (wanted fs c) (token at opens) = wanted_places (nat_lt (length fs) 64) (around at c ∷ fs) single fault.Deep
step_places (wanted fs c) (token at (joins joint)) = tt
step_places (wanted fs c) (token at closes) = tt
step_places (wanted fs c) (token at stray) = tt
step_places (ended fs single t) (token at (joins joint)) = refl
step_places (ended fs (joined other xs) t) (token at (joins joint)) = wanted_places (same_joint joint other) fs (joined other (xs ++ t ∷ [])) (fault.Mixed at)
step_places (ended [] c t) (token at closes) = tt
step_places (ended (pending ∷ fs) c t) (token at closes) = tt
step_places (ended (around place outer ∷ fs) c t) (token at closes) = settled_places fs outer (value_of c t)
step_places (ended fs c t) (token at (name word)) = tt
step_places (ended fs c t) (token at negates) = tt
step_places (ended fs c t) (token at opens) = tt
step_places (ended fs c t) (token at stray) = tt

places_next : (ps : List ℕ) (ts : List Token) (r : Result State ExprFault) → HasPlaces ps r → ((next : State) → HasPlaces (open_places (places_of next) ts) (steps next ts)) → HasPlaces (open_places ps ts) (r >>= λ next. steps next ts)
places_next ps ts (Ok next) here more = rw here (more next)
places_next ps ts (Err f) here more = tt

steps_places : (s : State) (ts : List Token) → HasPlaces (open_places (places_of s) ts) (steps s ts)
unfolding steps open_places
steps_places s [] = refl
steps_places s (t ∷ ts) = places_next (open_after (places_of s) t) ts (step s t) (step_places s t) (λ next. steps_places next ts)

cut_by_places : (n : ℕ) (tokens : List Token) (fs : List Frame) → open_places [] tokens ≡ places_in fs → IsToldByEnd n tokens (cut_off n fs)
unfolding cut_off
cut_by_places n tokens [] e = too_short n tokens e
cut_by_places n tokens (pending ∷ fs) e = cut_by_places n tokens fs e
cut_by_places n tokens (around at outer ∷ fs) e = inside n at (places_in fs) tokens e

told_by_places : (n : ℕ) (tokens : List Token) (s : State) (f : ExprFault) → open_places [] tokens ≡ places_of s → at_end n s ≡ Err f → IsToldByEnd n tokens f
unfolding at_end
told_by_places n tokens (wanted fs c) f e fails = subst (λ f. IsToldByEnd n tokens f) (cc) (cut_by_places n tokens fs e)
told_by_places n tokens (ended [] c t) f e fails = cc
told_by_places n tokens (ended (g ∷ fs) c t) f e fails = subst (λ f. IsToldByEnd n tokens f) (cc) (cut_by_places n tokens (g ∷ fs) e)

-- what the end tells of tokens without a fault
pub told_by_end : (n : ℕ) (tokens : List Token) (s : State) (f : ExprFault) → steps start tokens ≡ Ok s → at_end n s ≡ Err f → IsToldByEnd n tokens f
told_by_end n tokens s f e fails = told_by_places n tokens s f (subst (λ r. HasPlaces (open_places [] tokens) r) e (steps_places start tokens)) fails

-- an end tells one fault
pub end_told_once : (n : ℕ) (tokens : List Token) (f g : ExprFault) → IsToldByEnd n tokens f → IsToldByEnd n tokens g → f ≡ g
end_told_once _ _ _ _ (too_short n tokens e) (too_short _ _ _) = refl
end_told_once _ _ _ _ (too_short n tokens e) (inside _ at outer _ more) = cc
end_told_once _ _ _ _ (inside n at outer tokens more) (too_short _ _ e) = cc
end_told_once _ _ _ _ (inside n at outer tokens more) (inside _ place others _ also) = cc
