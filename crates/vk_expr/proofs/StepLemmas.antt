-- Steps over tokens: one after the other, and where they stop.
use Rattle.std.proofs.Common.{◌≡◌, List, [], ◌∷◌, ◌++◌, refl, ap, ◌∙◌}
use Rattle.std.specs.Prelude.{Result, Ok, Err}
use Rattle.vk_spec.specs.Reading.{◌>>=◌}
use Rattle.vk_expr.specs.Tokens.{Token}
use Rattle.vk_expr.specs.Reading.{State, step, steps}
use Rattle.vk_expr.specs.declared.faults.ExprFault.{ExprFault}

-- steps over two lists are steps over the first, and then over the second
pub steps-append : (s : State) (xs ys : List Token) → steps s (xs ++ ys) ≡ (steps s xs >>= λ next. steps next ys)
unfolding steps
steps-append s [] ys = refl
steps-append s (x ∷ xs) ys = elim (step s x) as (λ r. (r >>= λ next. steps next (xs ++ ys)) ≡ ((r >>= λ next. steps next xs) >>= λ next. steps next ys)) [ Ok next ↦ steps-append next xs ys | Err f ↦ refl ]

-- steps that stop do so at a token, after steps that didn't
pub record Stops (s : State) (tokens : List Token) (fault : ExprFault) : Type 0 where
  pub before : List Token
  pub at : Token
  pub after : List Token
  pub reached : State
  pub split : tokens ≡ before ++ at ∷ after
  pub runs : steps s before ≡ Ok reached
  pub fails : step reached at ≡ Err fault

stops_later : (s next : State) (x : Token) (xs : List Token) (f : ExprFault) → step s x ≡ Ok next → Stops next xs f → Stops s (x ∷ xs) f
unfolding steps
stops_later s next x xs f one later = record {
  before = x ∷ later.before;
  at = later.at;
  after = later.after;
  reached = later.reached;
  split = ap (λ l. x ∷ l) later.split;
  runs = rw one later.runs;
  fails = later.fails;
}

stops_now : (s : State) (x : Token) (xs : List Token) (f : ExprFault) → step s x ≡ Err f → Stops s (x ∷ xs) f
unfolding steps
stops_now s x xs f one = record {
  before = [];
  at = x;
  after = xs;
  reached = s;
  split = refl;
  runs = refl;
  fails = one;
}

stops_by : (s : State) (x : Token) (xs : List Token) (f : ExprFault) → ((next : State) → steps next xs ≡ Err f → Stops next xs f) → (r : Result State ExprFault) → step s x ≡ r → (r >>= λ next. steps next xs) ≡ Err f → Stops s (x ∷ xs) f
stops_by s x xs f more (Ok next) one e = stops_later s next x xs f one (more next e)
stops_by s x xs f more (Err g) one e = stops_now s x xs f (one ∙ cc)

pub stops : (s : State) (tokens : List Token) (f : ExprFault) → steps s tokens ≡ Err f → Stops s tokens f
unfolding steps
stops s [] f e = cc
stops s (x ∷ xs) f e = stops_by s x xs f (λ next. stops next xs f) (step s x) refl e
