-- What a fact brings up alone on a line, and that a visit that follows is of a visited version.
use Rattle.std.proofs.Common.{◌≡◌, ℕ, zero, suc, Bool, true, false, cond, List, [], ◌∷◌, ◌++◌, map, inl, inr, refl, ap, sym, subst, ◌∙◌}
use Rattle.std.specs.Prelude.{Option, Some, None, IfSome, Result, Ok, Err, flat_map}
use Rattle.std.proofs.lemmas.List.{map-append}
use Rattle.vk_spec.specs.Versions.{Ask}
use Rattle.vk_spec.specs.Pages.{Wrong, Given, overlay, override, baseline, manifest_in, is_pinned_by}
use Rattle.vk_spec.specs.Settings.{Setting, Instance}
use Rattle.vk_resolution.specs.Givens.{Pages}
use Rattle.vk_resolution.specs.Settings.{root, inst}
use Rattle.vk_resolution.specs.Asking.{Fact, need, floor, visit, asked_of}
use Rattle.vk_resolution.specs.Least.{IsReached, from_one, from_two}
use Rattle.vk_resolution.specs.Consequences.{Inputs, Step, by_minimum, given_step, asked_step, asked_in, steps_from, is_visited, rules_of}
use Rattle.vk_resolution.specs.Reasons.{Reason}
use Rattle.vk_resolution.specs.Planner.{inputs_of}
use Rattle.vk_resolution.proofs.Members.{contains_map}
use Rattle.vk_resolution.proofs.Derivations.{visits_are, is_visit_fact, step_no_visit}
use Rattle.vk_resolution.specs.Settings.{first_features_of}
use Rattle.vk_worklist.specs.Alone.{Follows, alone_at, on_line}
use Rattle.vk_close.specs.Known.{given_in}
use Rattle.vk_close.specs.Steps.{asked_on, given_on, reason_on}

-- ---- alone

abbrev reason_at : ℕ → Step → Reason
reason_at line s = record { fact = s.fact; cause = on_line line s.cause }

map_flat : {X Y Z : Type 0} (h : Y → Z) (f : X → List Y) (g : X → List Z) (xs : List X) → ((x : X) → map h (f x) ≡ g x) → map h (flat_map f xs) ≡ flat_map g xs
map_flat h f g [] each = refl
map_flat h f g (x ∷ xs) each = map-append h (f x) (flat_map f xs) ∙ ap (λ l. l ++ map h (flat_map f xs)) (each x) ∙ ap (λ l. g x ++ l) (map_flat h f g xs each)

step_on : (s : Setting) (pages : Pages) (line : ℕ) (x y : Fact) → map (reason_at line) (asked_step (inputs_of s pages) x y) ≡ asked_on s.root.overrides pages line y
step_on s pages line x (need who f) = refl
step_on s pages line x (floor p a) = by (is_pinned_by s.root.overrides p (pages p).given)
  where
    by : (b : Bool) → map (reason_at line) (cond b [] (record { fact = floor p a; cause = by_minimum x } ∷ [])) ≡ cond b [] (reason_on line (floor p a) ∷ [])
    by true = refl
    by false = refl
step_on s pages line x (visit i f a) = refl

asked_alone : (s : Setting) (pages : Pages) (line : ℕ) (x : Fact) (asked : List Fact) → map (reason_at line) (flat_map (asked_step (inputs_of s pages) x) asked) ≡ flat_map (asked_on s.root.overrides pages line) asked
asked_alone s pages line x asked = map_flat (reason_at line) (asked_step (inputs_of s pages) x) (asked_on s.root.overrides pages line) asked (step_on s pages line x)

given_alone : (line : ℕ) (x : Fact) (p : List ℕ) (r : Result Given Wrong) → given_on line p (given_in r) ≡ map (reason_at line) (given_step x p r)
given_alone line x p (Ok (overlay v)) = refl
given_alone line x p (Ok (override a)) = refl
given_alone line x p (Ok (baseline a)) = refl
given_alone line x p (Err wrong) = refl

module _ (s : Setting) (line : ℕ) (old new : List Reason) where
  pub root_alone : (o : Option Pages) (t f : List ℕ) → IfSome o (λ pages. new ≡ old ++ flat_map (asked_on s.root.overrides pages line) (asked_of s (root t) f s.root)) → IfSome o (λ pages. new ≡ old ++ alone_at (inputs_of s pages) (need (root t) f) line)
  root_alone None t f h = tt
  root_alone (Some pages) t f h = h ∙ ap (λ l. old ++ l) (sym (asked_alone s pages line (need (root t) f) (asked_of s (root t) f s.root)))

  pub need_alone : (o : Option Pages) (i : Instance) (f : List ℕ) → IfSome o (λ pages. new ≡ old ++ given_on line i.port (given_in (pages i.port).given)) → IfSome o (λ pages. new ≡ old ++ alone_at (inputs_of s pages) (need (inst i) f) line)
  need_alone None i f h = tt
  need_alone (Some pages) i f h = h ∙ ap (λ l. old ++ l) (given_alone line (need (inst i) f) i.port (pages i.port).given)

  pub visit_alone : (o : Option Pages) (i : Instance) (f : List ℕ) (a : Ask) → IfSome o (λ pages. new ≡ old ++ flat_map (asked_on s.root.overrides pages line) (asked_in s i f (manifest_in (pages i.port) a)))
      → IfSome o (λ pages. new ≡ old ++ alone_at (inputs_of s pages) (visit i f a) line)
  visit_alone None i f a h = tt
  visit_alone (Some pages) i f a h = h ∙ ap (λ l. old ++ l) (sym (asked_alone s pages line (visit i f a) (asked_in s i f (manifest_in (pages i.port) a))))

-- ---- visits

-- a visit that is reached is of a visited version
visit_reached : (inputs : Inputs) (i : Instance) (f : List ℕ) (a : Ask) (n : ℕ) → IsReached (rules_of inputs) n (visit i f a) → is_visited inputs i.port a ≡ true
visit_reached inputs i f a zero is_root = let r = contains_map (need (root inputs.setting.target.name)) (first_features_of inputs.setting) (visit i f a) is_root in let clash : need (root inputs.setting.target.name) r.0 ≡ visit i f a = r.2 in (cc)
visit_reached inputs i f a (suc n) (inl before) = visit_reached inputs i f a n before
visit_reached inputs i f a (suc n) (inr (from_one y holds asked)) =
    let r = contains_map (λ (st : Step). st.fact) (steps_from inputs y) (visit i f a) asked in
    let clash : true ≡ false = sym (ap is_visit_fact r.2) ∙ step_no_visit inputs y r.0 r.1 in
    absurd (cc)
visit_reached inputs i f a (suc n) (inr (from_two y z one two asked)) =
    let v = visits_are inputs y z (visit i f a) asked in
    let same : visit i f a ≡ visit v.i v.f v.v = v.is_visit in
    let same_i : v.i ≡ i = (cc) in
    let same_a : v.v ≡ a = (cc) in
    subst (λ j. is_visited inputs j.port a ≡ true) same_i (subst (λ b. is_visited inputs v.i.port b ≡ true) same_a v.visited)

pub visit_follows : (o : Option Pages) (s : Setting) (i : Instance) (f : List ℕ) (a : Ask) → IfSome o (λ pages. Follows (inputs_of s pages) (visit i f a)) → IfSome o (λ pages. is_visited (inputs_of s pages) i.port a ≡ true)
visit_follows None s i f a follows = tt
visit_follows (Some pages) s i f a follows = visit_reached (inputs_of s pages) i f a follows.0 follows.1
