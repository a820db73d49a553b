-- What is joined is all that two facts bring up, and each visit cites its need and its floor.
use Rattle.std.proofs.Common.{◌≡◌, ℕ, zero, suc, Bool, true, false, cond, ◌&&◌, List, [], ◌∷◌, ◌++◌, length, map, inl, inr, refl, ap, sym, ◌∙◌, subst}
use Rattle.std.specs.Prelude.{Option, Some, option_map, option_and_then, Result, Ok, Err, bytes_eq}
use Rattle.std.specs.List.{Contains}
use Rattle.std.proofs.lemmas.List.{map-append, append-nil, append_assoc}
use Rattle.std.proofs.lemmas.List.Elements.{Contains-append_left, Contains-append_right, Contains-append_cases, Contains-push_cases}
use Rattle.std.proofs.lemmas.Slice.Eq.{bytes_eq-Decides}
use Rattle.vk_spec.specs.Lists.{NoRepeats}
use Rattle.vk_spec.specs.Versions.{Ask}
use Rattle.vk_spec.specs.Pages.{Wrong, Given, overlay, override, baseline}
use Rattle.vk_spec.specs.Settings.{Instance}
use Rattle.vk_spec.proofs.ListLemmas.{contains_nothing, contains_first, contains-flat_map, flat_map-contains}
use Rattle.vk_resolution.specs.Least.{FollowsFrom, from_one, from_two}
use Rattle.vk_resolution.specs.Settings.{root, inst}
use Rattle.vk_resolution.specs.Asking.{Fact, need, floor, visit}
use Rattle.vk_resolution.specs.Consequences.{Inputs, by_baseline, by_override, by_overlay, by_minimum, by_one, by_two, Step, steps_from, is_visited, visits_from, rules_of}
use Rattle.vk_resolution.specs.Reasons.{Reason, facts_of, line_of, fact_at, in_lines}
use Rattle.vk_resolution.specs.Worklist.{alone, first, second}
use Rattle.vk_resolution.specs.Closing.{IsCited, by_step, by_visit, Produces}
use Rattle.vk_resolution.proofs.Members.{contains_single, map_contains, contains_map, both_true, and_true}
use Rattle.vk_resolution.proofs.Derivations.{line_found}
use Rattle.vk_resolution.proofs.LineLemmas.{at_contains, at_line}
use Rattle.vk_resolution.proofs.ClosingLemmas.{facts_more}
use Rattle.vk_resolution.proofs.ProducedCauses.{given_cause, asked_cause, cause_for, step_cause, line_of_taken}
use Rattle.vk_worklist.specs.Alone.{joins, on_line, alone_at}
use Rattle.vk_worklist.specs.Rows.{needs_of, floors_of, is_need_of, is_floor_at, is_floor_of, lines_where, HasLines}
use Rattle.vk_worklist.specs.Joining.{to_visit, at_need, joined}
use Rattle.vk_worklist.specs.declared.rows.Row.{Row}

-- ---- lines

abbrev one_if : Bool → List ℕ
one_if b = cond b (1 ∷ []) []

later_at : (x : Fact) (xs : List Fact) (m : ℕ) (y : Fact) → fact_at xs m ≡ Some y → fact_at (x ∷ xs) (suc m) ≡ Some y
later_at x xs zero y e = (cc)
later_at x xs (suc k) y e = e

here_step : (test : Fact → Bool) (x : Fact) (xs : List Fact) (m : ℕ) (b : Bool) → test x ≡ b → Contains (one_if b) m → (y : Fact) × (fact_at (x ∷ xs) m ≡ Some y) × (test y ≡ true)
here_step test x xs m true e h = (x, subst (λ k. fact_at (x ∷ xs) k ≡ Some x) (contains_single 1 m h) refl, e)
here_step test x xs m false e h = absurd (contains_nothing m h)

-- a line that passes has a fact that does
pub lines_at : (test : Fact → Bool) (xs : List Fact) (m : ℕ) → Contains (lines_where test xs) m → (y : Fact) × (fact_at xs m ≡ Some y) × (test y ≡ true)
lines_at test [] m h = absurd (contains_nothing m h)
lines_at test (x ∷ xs) m h =
    elim (Contains-append_cases (one_if (test x)) (map suc (lines_where test xs)) m h) [
      | inl here ↦ here_step test x xs m (test x) refl here
      | inr later ↦ (
          let p = contains_map suc (lines_where test xs) m later in
          let r = lines_at test xs p.0 p.1 in
          (r.0, subst (λ k. fact_at (x ∷ xs) k ≡ Some r.0) p.2 (later_at x xs p.0 r.0 r.1), r.2)
          )
    ]

one_true : (b : Bool) → b ≡ true → Contains (one_if b) 1
one_true true e = contains_first 1 []
one_true false e = (cc)

pub at_lines : (test : Fact → Bool) (xs : List Fact) (m : ℕ) (y : Fact) → fact_at xs m ≡ Some y → test y ≡ true → Contains (lines_where test xs) m
at_lines test xs zero y e passes = (cc)
at_lines test [] (suc k) y e passes = (cc)
at_lines test (x ∷ xs) (suc zero) y e passes =
    let same : x ≡ y = (cc) in
    Contains-append_left (one_if (test x)) (map suc (lines_where test xs)) 1 (one_true (test x) (ap test same ∙ passes))
at_lines test (x ∷ xs) (suc (suc k)) y e passes =
    Contains-append_right (one_if (test x)) (map suc (lines_where test xs)) (suc (suc k)) (map_contains suc (lines_where test xs) (suc k) (at_lines test xs (suc k) y e passes))

contains_at : (xs : List Fact) (y : Fact) → Contains xs y → (m : ℕ) × (fact_at xs m ≡ Some y)
contains_at xs y h = let r = line_found xs [] y h in (r.0, r.2)

pub at_more : (xs ys : List Fact) (m : ℕ) (y : Fact) → fact_at xs m ≡ Some y → fact_at (xs ++ ys) m ≡ Some y
at_more xs ys zero y e = (cc)
at_more [] ys (suc k) y e = (cc)
at_more (x ∷ xs) ys (suc zero) y e = e
at_more (x ∷ xs) ys (suc (suc k)) y e = at_more xs ys (suc k) y e

-- one line more
pub lines_push : (test : Fact → Bool) (xs : List Fact) (y : Fact) → lines_where test (xs ++ y ∷ []) ≡ lines_where test xs ++ cond (test y) (suc (length xs) ∷ []) []
lines_push test [] y = append-nil (one_if (test y))
lines_push test (x ∷ xs) y =
    ap (λ l. one_if (test x) ++ map suc l) (lines_push test xs y)
    ∙ ap (λ l. one_if (test x) ++ l) (map-append suc (lines_where test xs) (cond (test y) (suc (length xs) ∷ []) []) ∙ ap (λ l. map suc (lines_where test xs) ++ l) (map_one (test y) (length xs)))
    ∙ sym (append_assoc (one_if (test x)) (map suc (lines_where test xs)) (cond (test y) (suc (suc (length xs)) ∷ []) []))
  where
    map_one : (b : Bool) (n : ℕ) → map suc (cond b (suc n ∷ []) []) ≡ cond b (suc (suc n) ∷ []) []
    map_one true n = refl
    map_one false n = refl

-- ---- what a fact brings up alone cites its line

given_in_line : (lines : List Fact) (y : Fact) (n : ℕ) (g : Result Given Wrong) → line_of lines y ≡ Some n → in_lines lines (given_cause y g) ≡ Some (on_line n (given_cause y g))
given_in_line lines y n (Ok (overlay v)) e = ap (option_map by_overlay) e
given_in_line lines y n (Ok (override a)) e = ap (option_map by_override) e
given_in_line lines y n (Ok (baseline a)) e = ap (option_map by_baseline) e
given_in_line lines y n (Err wrong) e = refl

asked_in_line : (lines : List Fact) (y x : Fact) (n : ℕ) → line_of lines y ≡ Some n → in_lines lines (asked_cause y x) ≡ Some (on_line n (asked_cause y x))
asked_in_line lines y (need who f) n e = ap (option_map by_one) e
asked_in_line lines y (floor p a) n e = ap (option_map by_minimum) e
asked_in_line lines y (visit i f a) n e = refl

cause_in_line : (inputs : Inputs) (lines : List Fact) (y x : Fact) (n : ℕ) → line_of lines y ≡ Some n → in_lines lines (cause_for inputs y x) ≡ Some (on_line n (cause_for inputs y x))
cause_in_line inputs lines (need (root t) f) x n e = asked_in_line lines (need (root t) f) x n e
cause_in_line inputs lines (need (inst i) f) x n e = given_in_line lines (need (inst i) f) n (inputs.pages i.port).given e
cause_in_line inputs lines (floor p a) x n e = refl
cause_in_line inputs lines (visit i f a) x n e = asked_in_line lines (visit i f a) x n e

step_in_line : (inputs : Inputs) (lines : List Fact) (y : Fact) (n : ℕ) (s : Step) → line_of lines y ≡ Some n → Contains (steps_from inputs y) s → in_lines lines s.cause ≡ Some (on_line n s.cause)
step_in_line inputs lines y n s e h = subst (λ c. in_lines lines c ≡ Some (on_line n c)) (sym (step_cause inputs y s h)) (cause_in_line inputs lines y s.fact n e)

-- ---- two facts

cond_some : (b : Bool) (x v : Fact) → Contains (cond b (v ∷ []) []) x → (b ≡ true) × (v ≡ x)
cond_some true x v h = (refl, contains_single v x h)
cond_some false x v h = absurd (contains_nothing x h)

cond_has : (b : Bool) (v : Fact) → b ≡ true → Contains (cond b (v ∷ []) []) v
cond_has true v e = contains_first v []
cond_has false v e = (cc)

-- what a need and the row of its floors bring up
pub record IsJoin (inputs : Inputs) (taken : List Fact) (y : Fact) (line : ℕ) (r : Reason) : Type 0 where
  pub follows : FollowsFrom (rules_of inputs) (Contains (taken ++ y ∷ [])) r.fact
  pub cited : IsCited inputs (taken ++ y ∷ []) y r

module _ (inputs : Inputs) (taken : List Fact) (y : Fact) (distinct : NoRepeats (taken ++ y ∷ [])) where
  here : Contains (taken ++ y ∷ []) y
  here = Contains-append_right taken (y ∷ []) y (contains_first y [])

  among : (m : ℕ) (x : Fact) → fact_at taken m ≡ Some x → Contains (taken ++ y ∷ []) x
  among m x e = Contains-append_left taken (y ∷ []) x (at_contains taken m x e)

  its_line : (m : ℕ) (x : Fact) → fact_at taken m ≡ Some x → line_of (taken ++ y ∷ []) x ≡ Some m
  its_line m x e = at_line (taken ++ y ∷ []) distinct x m (at_more taken (y ∷ []) m x e)

  own_line : (Contains taken y → ⊥) → line_of (taken ++ y ∷ []) y ≡ Some (suc (length taken))
  own_line new = line_of_taken taken y new

both_lines : (o p : Option ℕ) (m n : ℕ) → o ≡ Some m → p ≡ Some n → option_and_then (λ a. option_map (by_two a) p) o ≡ Some (by_two m n)
both_lines o p m n e h = ap (option_and_then (λ a. option_map (by_two a) p)) e ∙ ap (option_map (by_two m)) h

floor_join : (inputs : Inputs) (taken : List Fact) (i : Instance) (f : List ℕ) (m : ℕ) (x : Fact) → NoRepeats (taken ++ need (inst i) f ∷ []) → (Contains taken (need (inst i) f) → ⊥) → fact_at taken m ≡ Some x → is_floor_of inputs i.port x ≡ true
    → (r : Reason) → Contains (to_visit i f (suc (length taken)) m (Some x)) r → IsJoin inputs taken (need (inst i) f) (suc (length taken)) r
floor_join inputs taken i f m (need who g) distinct new at passes r h = absurd (contains_nothing r h)
floor_join inputs taken i f m (visit j g a) distinct new at passes r h = absurd (contains_nothing r h)
floor_join inputs taken i f m (floor q a) distinct new at passes r h =
    let both = both_true (bytes_eq q i.port) (is_visited inputs q a) passes in
    let port : q ≡ i.port = (bytes_eq-Decides q i.port).0 both.0 in
    subst (IsJoin inputs taken (need (inst i) f) (suc (length taken))) (same_reason r h) (record {
      follows = from_two (need (inst i) f) (floor q a) (here inputs taken (need (inst i) f) distinct) (among inputs taken (need (inst i) f) distinct m (floor q a) at) (cond_has (bytes_eq q i.port && is_visited inputs q a) (visit i f a) passes);
      cited = by_visit i f a refl (both_lines (line_of (taken ++ need (inst i) f ∷ []) (need (inst i) f)) (line_of (taken ++ need (inst i) f ∷ []) (floor i.port a)) (suc (length taken)) m
          (own_line inputs taken (need (inst i) f) distinct new)
          (subst (λ z. line_of (taken ++ need (inst i) f ∷ []) (floor z a) ≡ Some m) port (its_line inputs taken (need (inst i) f) distinct m (floor q a) at)));
    })
  where
    same_reason : (r : Reason) → Contains (record { fact = visit i f a; cause = by_two (suc (length taken)) m } ∷ []) r → record { fact = visit i f a; cause = by_two (suc (length taken)) m } ≡ r
    same_reason r h = contains_single (record { fact = visit i f a; cause = by_two (suc (length taken)) m }) r h

need_join : (inputs : Inputs) (taken : List Fact) (p : List ℕ) (a : Ask) (m : ℕ) (x : Fact) → NoRepeats (taken ++ floor p a ∷ []) → (Contains taken (floor p a) → ⊥) → is_visited inputs p a ≡ true → fact_at taken m ≡ Some x → is_need_of p x ≡ true
    → (r : Reason) → Contains (at_need a (suc (length taken)) m (Some x)) r → IsJoin inputs taken (floor p a) (suc (length taken)) r
need_join inputs taken p a m (need (root t) g) distinct new visited at passes r h = absurd (contains_nothing r h)
need_join inputs taken p a m (floor q b) distinct new visited at passes r h = absurd (contains_nothing r h)
need_join inputs taken p a m (visit j g b) distinct new visited at passes r h = absurd (contains_nothing r h)
need_join inputs taken p a m (need (inst i) f) distinct new visited at passes r h =
    let port : i.port ≡ p = (bytes_eq-Decides i.port p).0 passes in
    subst (IsJoin inputs taken (floor p a) (suc (length taken))) (same_reason r h) (record {
      follows = from_two (need (inst i) f) (floor p a) (among inputs taken (floor p a) distinct m (need (inst i) f) at) (here inputs taken (floor p a) distinct) (cond_has (bytes_eq p i.port && is_visited inputs p a) (visit i f a) (and_true (bytes_eq p i.port) (is_visited inputs p a) ((bytes_eq-Decides p i.port).1 (sym port)) visited));
      cited = by_visit i f a refl (both_lines (line_of (taken ++ floor p a ∷ []) (need (inst i) f)) (line_of (taken ++ floor p a ∷ []) (floor i.port a)) m (suc (length taken))
          (its_line inputs taken (floor p a) distinct m (need (inst i) f) at)
          (subst (λ z. line_of (taken ++ floor p a ∷ []) (floor z a) ≡ Some (suc (length taken))) (sym port) (own_line inputs taken (floor p a) distinct new)));
    })
  where
    same_reason : (r : Reason) → Contains (record { fact = visit i f a; cause = by_two m (suc (length taken)) } ∷ []) r → record { fact = visit i f a; cause = by_two m (suc (length taken)) } ≡ r
    same_reason r h = contains_single (record { fact = visit i f a; cause = by_two m (suc (length taken)) }) r h

-- ---- all that is joined is right

found_on : (lines taken more : List Fact) (m : ℕ) (x : Fact) → lines ≡ taken ++ more → fact_at taken m ≡ Some x → fact_at lines m ≡ Some x
found_on lines taken more m x whole at = ap (λ l. fact_at l m) whole ∙ at_more taken more m x at

pub joined_right : (inputs : Inputs) (lines taken more : List Fact) (ports : List (List ℕ × Row)) (y : Fact) → lines ≡ taken ++ more → NoRepeats (taken ++ y ∷ []) → (Contains taken y → ⊥) → HasLines inputs ports taken → joins inputs y ≡ true
    → (r : Reason) → Contains (joined lines ports (suc (length taken)) y) r → IsJoin inputs taken y (suc (length taken)) r
joined_right inputs lines taken more ports (need (root t) f) whole distinct new rows so r h = absurd (contains_nothing r h)
joined_right inputs lines taken more ports (visit i f a) whole distinct new rows so r h = absurd (contains_nothing r h)
joined_right inputs lines taken more ports (need (inst i) f) whole distinct new rows so r h =
    let p = contains-flat_map (λ m. to_visit i f (suc (length taken)) m (fact_at lines m)) (floors_of ports i.port) r h in
    let q = lines_at (is_floor_of inputs i.port) taken p.0 (subst (λ l. Contains l p.0) (rows.floors i.port) p.1) in
    floor_join inputs taken i f p.0 q.0 distinct new q.1 q.2 r (subst (λ o. Contains (to_visit i f (suc (length taken)) p.0 o) r) (found_on lines taken more p.0 q.0 whole q.1) p.2)
joined_right inputs lines taken more ports (floor p a) whole distinct new rows so r h =
    let k = contains-flat_map (λ m. at_need a (suc (length taken)) m (fact_at lines m)) (needs_of ports p) r h in
    let q = lines_at (is_need_of p) taken k.0 (subst (λ l. Contains l k.0) (rows.needs p) k.1) in
    need_join inputs taken p a k.0 q.0 distinct new so q.1 q.2 r (subst (λ o. Contains (at_need a (suc (length taken)) k.0 o) r) (found_on lines taken more k.0 q.0 whole q.1) k.2)

-- ---- all that two facts bring up is joined

not_own : (taken : List Fact) (y b : Fact) → Contains (taken ++ y ∷ []) b → (y ≡ b → ⊥) → (m : ℕ) × (fact_at taken m ≡ Some b)
not_own taken y b h other = elim (Contains-push_cases taken y b h) [ inl old ↦ contains_at taken b old | inr same ↦ absurd (other same) ]

floor_found : (inputs : Inputs) (lines taken more : List Fact) (ports : List (List ℕ × Row)) (i : Instance) (f : List ℕ) (q : List ℕ) (a : Ask) (x : Fact) → lines ≡ taken ++ more → HasLines inputs ports taken → Contains (taken ++ need (inst i) f ∷ []) (floor q a)
    → Contains (visits_from inputs (need (inst i) f) (floor q a)) x → Contains (facts_of (joined lines ports (suc (length taken)) (need (inst i) f))) x
floor_found inputs lines taken more ports i f q a x whole rows held h =
    let at = not_own taken (need (inst i) f) (floor q a) held (λ e. (cc)) in
    let some = cond_some (bytes_eq q i.port && is_visited inputs q a) x (visit i f a) h in
    let line : Contains (floors_of ports i.port) at.0 = subst (λ l. Contains l at.0) (sym (rows.floors i.port)) (at_lines (is_floor_of inputs i.port) taken at.0 (floor q a) at.1 some.0) in
    let r : Reason = record { fact = visit i f a; cause = by_two (suc (length taken)) at.0 } in
    subst (Contains (facts_of (joined lines ports (suc (length taken)) (need (inst i) f)))) some.1
    (map_contains (λ z. z.fact) (joined lines ports (suc (length taken)) (need (inst i) f)) r
    (flat_map-contains (λ m. to_visit i f (suc (length taken)) m (fact_at lines m)) (floors_of ports i.port) at.0 r line
    (subst (λ o. Contains (to_visit i f (suc (length taken)) at.0 o) r) (sym (found_on lines taken more at.0 (floor q a) whole at.1)) (contains_first r []))))

need_found : (inputs : Inputs) (lines taken more : List Fact) (ports : List (List ℕ × Row)) (i : Instance) (f : List ℕ) (p : List ℕ) (a : Ask) (x : Fact) → lines ≡ taken ++ more → HasLines inputs ports taken → Contains (taken ++ floor p a ∷ []) (need (inst i) f)
    → Contains (visits_from inputs (need (inst i) f) (floor p a)) x → Contains (facts_of (joined lines ports (suc (length taken)) (floor p a))) x
need_found inputs lines taken more ports i f p a x whole rows held h =
    let at = not_own taken (floor p a) (need (inst i) f) held (λ e. (cc)) in
    let some = cond_some (bytes_eq p i.port && is_visited inputs p a) x (visit i f a) h in
    let port : p ≡ i.port = (bytes_eq-Decides p i.port).0 (both_true (bytes_eq p i.port) (is_visited inputs p a) some.0).0 in
    let line : Contains (needs_of ports p) at.0 = subst (λ l. Contains l at.0) (sym (rows.needs p)) (at_lines (is_need_of p) taken at.0 (need (inst i) f) at.1 ((bytes_eq-Decides i.port p).1 (sym port))) in
    let r : Reason = record { fact = visit i f a; cause = by_two at.0 (suc (length taken)) } in
    subst (Contains (facts_of (joined lines ports (suc (length taken)) (floor p a)))) some.1
    (map_contains (λ z. z.fact) (joined lines ports (suc (length taken)) (floor p a)) r
    (flat_map-contains (λ m. at_need a (suc (length taken)) m (fact_at lines m)) (needs_of ports p) at.0 r line
    (subst (λ o. Contains (at_need a (suc (length taken)) at.0 o) r) (sym (found_on lines taken more at.0 (need (inst i) f) whole at.1)) (contains_first r []))))

-- a fact that is no visited floor brings up nothing with those before it
joins_of : (inputs : Inputs) (i : Instance) (f p : List ℕ) (a : Ask) (x : Fact) → Contains (visits_from inputs (need (inst i) f) (floor p a)) x → joins inputs (floor p a) ≡ true
joins_of inputs i f p a x h = (both_true (bytes_eq p i.port) (is_visited inputs p a) (cond_some (bytes_eq p i.port && is_visited inputs p a) x (visit i f a) h).0).1

as_first : (inputs : Inputs) (lines taken more : List Fact) (ports : List (List ℕ × Row)) (y b x : Fact) → lines ≡ taken ++ more → HasLines inputs ports taken → Contains (taken ++ y ∷ []) b → Contains (visits_from inputs y b) x
    → (joins inputs y ≡ true) × Contains (facts_of (joined lines ports (suc (length taken)) y)) x
as_first inputs lines taken more ports (need (root t) f) b x whole rows held h = absurd (contains_nothing x h)
as_first inputs lines taken more ports (floor p a) b x whole rows held h = absurd (contains_nothing x h)
as_first inputs lines taken more ports (visit i f a) b x whole rows held h = absurd (contains_nothing x h)
as_first inputs lines taken more ports (need (inst i) f) (need who g) x whole rows held h = absurd (contains_nothing x h)
as_first inputs lines taken more ports (need (inst i) f) (visit j g a) x whole rows held h = absurd (contains_nothing x h)
as_first inputs lines taken more ports (need (inst i) f) (floor q a) x whole rows held h = (refl, floor_found inputs lines taken more ports i f q a x whole rows held h)

as_second : (inputs : Inputs) (lines taken more : List Fact) (ports : List (List ℕ × Row)) (y b x : Fact) → lines ≡ taken ++ more → HasLines inputs ports taken → Contains (taken ++ y ∷ []) b → Contains (visits_from inputs b y) x
    → (joins inputs y ≡ true) × Contains (facts_of (joined lines ports (suc (length taken)) y)) x
as_second inputs lines taken more ports y (need (root t) f) x whole rows held h = absurd (contains_nothing x h)
as_second inputs lines taken more ports y (floor p a) x whole rows held h = absurd (contains_nothing x h)
as_second inputs lines taken more ports y (visit i f a) x whole rows held h = absurd (contains_nothing x h)
as_second inputs lines taken more ports (need who g) (need (inst i) f) x whole rows held h = absurd (contains_nothing x h)
as_second inputs lines taken more ports (visit j g a) (need (inst i) f) x whole rows held h = absurd (contains_nothing x h)
as_second inputs lines taken more ports (floor p a) (need (inst i) f) x whole rows held h = (joins_of inputs i f p a x h, need_found inputs lines taken more ports i f p a x whole rows held h)

-- ---- what is brought up, whole

alone_facts : (inputs : Inputs) (y : Fact) (n : ℕ) (x : Fact) → Contains (map (λ s. s.fact) (steps_from inputs y)) x → Contains (facts_of (alone_at inputs y n)) x
alone_facts inputs y n x h =
    let p = contains_map (λ s. s.fact) (steps_from inputs y) x h in
    subst (Contains (facts_of (alone_at inputs y n))) p.2 (map_contains (λ r. r.fact) (alone_at inputs y n) (record { fact = p.0.fact; cause = on_line n p.0.cause }) (map_contains (λ s. record { fact = s.fact; cause = on_line n s.cause }) (steps_from inputs y) p.0 p.1))

alone_right : (inputs : Inputs) (taken : List Fact) (y : Fact) → NoRepeats (taken ++ y ∷ []) → (Contains taken y → ⊥) → (r : Reason) → Contains (alone_at inputs y (suc (length taken))) r → IsJoin inputs taken y (suc (length taken)) r
alone_right inputs taken y distinct new r h =
    let p = contains_map (λ s. record { fact = s.fact; cause = on_line (suc (length taken)) s.cause }) (steps_from inputs y) r h in
    subst (IsJoin inputs taken y (suc (length taken))) p.2 (record {
      follows = from_one y (here inputs taken y distinct) (map_contains (λ s. s.fact) (steps_from inputs y) p.0 p.1);
      cited = by_step p.0.cause p.1 (step_in_line inputs (taken ++ y ∷ []) y (suc (length taken)) p.0 (own_line inputs taken y distinct new) p.1);
    })

abbrev pub joined_if : Bool → List Reason → List Reason
joined_if b rs = cond b rs []

if_right : (inputs : Inputs) (taken : List Fact) (y : Fact) (rs : List Reason) (b : Bool) → (b ≡ true → (r : Reason) → Contains rs r → IsJoin inputs taken y (suc (length taken)) r) → (r : Reason) → Contains (joined_if b rs) r → IsJoin inputs taken y (suc (length taken)) r
if_right inputs taken y rs true each r h = each refl r h
if_right inputs taken y rs false each r h = absurd (contains_nothing r h)

if_has : (b : Bool) (rs : List Reason) (x : Fact) → b ≡ true → Contains (facts_of rs) x → Contains (facts_of (joined_if b rs)) x
if_has true rs x e h = h
if_has false rs x e h = (cc)

-- what is brought up alone and what is joined are all that y brings up, each with its cause
pub produced : (inputs : Inputs) (lines taken more : List Fact) (ports : List (List ℕ × Row)) (y : Fact) (b : Bool) → b ≡ joins inputs y → lines ≡ taken ++ more → NoRepeats (taken ++ y ∷ []) → (Contains taken y → ⊥) → HasLines inputs ports taken
    → Produces inputs taken y (alone_at inputs y (suc (length taken)) ++ joined_if b (joined lines ports (suc (length taken)) y))
produced inputs lines taken more ports y b is whole distinct new rows =
    let n : ℕ = suc (length taken) in
    let own : List Reason = alone_at inputs y (suc (length taken)) in
    let both : List Reason = joined_if b (joined lines ports (suc (length taken)) y) in
    let right : (r : Reason) → Contains (own ++ both) r → IsJoin inputs taken y (suc (length taken)) r = λ r h. elim (Contains-append_cases own both r h) [
      | inl by_itself ↦ alone_right inputs taken y distinct new r by_itself
      | inr by_both ↦ if_right inputs taken y (joined lines ports (suc (length taken)) y) b (λ so. joined_right inputs lines taken more ports y whole distinct new rows (sym is ∙ so)) r by_both
    ] in
    let by_two_facts : (x : Fact) → (joins inputs y ≡ true) × Contains (facts_of (joined lines ports (suc (length taken)) y)) x → Contains (facts_of (own ++ both)) x = λ x p.
    subst (λ l. Contains l x) (sym (facts_more own both)) (Contains-append_right (facts_of own) (facts_of both) x (if_has b (joined lines ports (suc (length taken)) y) x (is ∙ p.0) p.1)) in
    record {
      facts = record {
        sound = λ x h. (let p = contains_map (λ r. r.fact) (own ++ both) x h in subst (FollowsFrom (rules_of inputs) (Contains (taken ++ y ∷ []))) p.2 (right p.0 p.1).follows);
        complete = λ x brings. elim brings [
          | alone by_itself ↦ subst (λ l. Contains l x) (sym (facts_more own both)) (Contains-append_left (facts_of own) (facts_of both) x (alone_facts inputs y (suc (length taken)) x by_itself))
          | first c held together ↦ by_two_facts x (as_first inputs lines taken more ports y c x whole rows held together)
          | second c held together ↦ by_two_facts x (as_second inputs lines taken more ports y c x whole rows held together)
        ];
      };
      cited = λ r h. (right r h).cited;
    }

-- ---- one line more in the rows

and_if : (b c : Bool) (xs : List ℕ) → cond (b && c) xs [] ≡ cond c (cond b xs []) []
and_if true true xs = refl
and_if true false xs = refl
and_if false true xs = refl
and_if false false xs = refl

same_if : (b c : Bool) (old : List ℕ) (new : List ℕ) (xs : List ℕ) → (c ≡ true → new ≡ old ++ cond b xs []) → (c ≡ false → new ≡ old) → new ≡ old ++ cond (b && c) xs []
same_if true true old new xs so else_so = so refl
same_if false true old new xs so else_so = so refl
same_if true false old new xs so else_so = else_so refl ∙ sym (append-nil old)
same_if false false old new xs so else_so = else_so refl ∙ sym (append-nil old)

no_need : (inputs : Inputs) (y : Fact) (p : List ℕ) → joins inputs y ≡ false → is_need_of p y ≡ false
no_need inputs (need (root t) f) p e = refl
no_need inputs (need (inst i) f) p e = (cc)
no_need inputs (floor q a) p e = refl
no_need inputs (visit i f a) p e = (cc)

pub has_lines_more : (inputs : Inputs) (old new : List (List ℕ × Row)) (taken : List Fact) (y : Fact) → HasLines inputs old taken
    → (joins inputs y ≡ true → (p : List ℕ) → needs_of new p ≡ needs_of old p ++ cond (is_need_of p y) (suc (length taken) ∷ []) [])
    → (joins inputs y ≡ true → (p : List ℕ) → floors_of new p ≡ floors_of old p ++ cond (is_floor_at p y) (suc (length taken) ∷ []) [])
    → (joins inputs y ≡ false → new ≡ old) → HasLines inputs new (taken ++ y ∷ [])
has_lines_more inputs old new taken y was needs floors same = record {
  needs = λ p. by_needs p (joins inputs y) refl ∙ ap (λ l. l ++ cond (is_need_of p y) (suc (length taken) ∷ []) []) (was.needs p) ∙ sym (lines_push (is_need_of p) taken y);
  floors = λ p. same_if (is_floor_at p y) (joins inputs y) (floors_of old p) (floors_of new p) (suc (length taken) ∷ []) (λ so. floors so p) (λ else_so. ap (λ l. floors_of l p) (same else_so))
      ∙ ap (λ l. l ++ cond (is_floor_of inputs p y) (suc (length taken) ∷ []) []) (was.floors p) ∙ sym (lines_push (is_floor_of inputs p) taken y);
}
  where
    by_needs : (p : List ℕ) (b : Bool) → joins inputs y ≡ b → needs_of new p ≡ needs_of old p ++ cond (is_need_of p y) (suc (length taken) ∷ []) []
    by_needs p true e = needs e p
    by_needs p false e = ap (λ l. needs_of l p) (same e) ∙ sym (append-nil (needs_of old p)) ∙ ap (λ b. needs_of old p ++ cond b (suc (length taken) ∷ []) []) (sym (no_need inputs y p e))
