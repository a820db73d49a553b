-- The least list in its order, with its causes, is a derivation; and a derivation leads to the roots.
use Rattle.std.proofs.Common.{◌≡◌, ◌≢◌, ◌<◌, ◌≤◌, ◌⊎◌, ℕ, zero, suc, ◌+◌, Bool, true, false, cond, ◌&&◌, List, [], ◌∷◌, ◌++◌, length, length-append, append_assoc, inl, inr, refl, ap, sym, ◌∙◌, subst, arith}
use Rattle.std.specs.Prelude.{Option, Some, None, option_map, option_and_then, slice_get, Result, Ok, Err, bytes_eq, flat_map}
use Rattle.std.specs.List.{Contains, list_any, find}
use Rattle.std.specs.Option.{option_or}
use Rattle.std.proofs.lemmas.List.{append-nil}
use Rattle.std.proofs.lemmas.Slice.Eq.{bytes_eq-Decides}
use Rattle.std.proofs.lemmas.List.Elements.{Contains-append_right, Contains-append_cases}
use Rattle.vk_spec.specs.Versions.{Ask}
use Rattle.vk_spec.specs.Pages.{Wrong, Given, overlay, override, baseline}
use Rattle.vk_spec.proofs.ListLemmas.{contains_nothing, contains_first, contains_later, contains_cases, contains-flat_map}
use Rattle.vk_spec.specs.Settings.{Instance}
use Rattle.vk_resolution.specs.Keys.{Key, IsKey}
use Rattle.vk_resolution.specs.Least.{Rules, FollowsFrom, from_one, from_two, IsReached, HasRank, IsDerived, IsByRank, IsLeastInOrder}
use Rattle.vk_resolution.specs.Settings.{root, inst}
use Rattle.vk_resolution.specs.Givens.{is_pinned}
use Rattle.vk_resolution.specs.Asking.{Fact, need, floor, visit, fact_key, same_fact, asked_of, root_facts_of}
use Rattle.vk_resolution.specs.Consequences.{Inputs, Step, given_step, asked_step, asked_at, steps_from, visits_from, is_visited, rules_of, FollowsBy, Cause, by_root, by_baseline, by_override, by_overlay, by_minimum, by_one, by_two}
use Rattle.vk_resolution.specs.Reasons.{Reason, facts_of, line_of, first_cause, citing, in_lines, cause_of, IsReasons, fact_at, with_facts, IsShownBy, IsDerivation, cited_by, reason_at, LeadsToRoots, at_root, through}
use Rattle.vk_resolution.proofs.Members.{both_true, any_contains, contains_any, contains_single, contains_map, found_contains, nothing_found, true_false}
use Rattle.vk_resolution.proofs.Orders.{before_both}
use Rattle.vk_resolution.proofs.LeastLemmas.{follows_more, reached_within}
use Rattle.vk_resolution.proofs.Rounds.{member_ranked}
use Rattle.vk_resolution.proofs.Levels.{number_before}
use Rattle.vk_resolution.proofs.FactLemmas.{fact_key-IsKey, same_fact-Decides}

module _ {X : Type 0} (rules : Rules X) (key : X → Key) (is_key : IsKey key) where
  by_rank_rest : (xs ys : List X) → IsByRank rules key (xs ++ ys) → IsByRank rules key ys
  by_rank_rest [] ys order = order
  by_rank_rest (x ∷ xs) ys order = by_rank_rest xs ys order.1

  -- what has a lower rank stands before
  stands_before : (before rest : List X) (x y : X) (m n : ℕ) → IsByRank rules key (before ++ x ∷ rest) → HasRank rules m x → HasRank rules n y → n < m → Contains (before ++ x ∷ rest) y → Contains before y
  stands_before before rest x y m n order rank_x rank_y lower h =
      elim (Contains-append_cases before (x ∷ rest) y h) [
        | inl here ↦ here
        | inr after ↦ elim (contains_cases x y rest after) [
          | inl same ↦ absurd (rank_x.no_lower n lower (subst (IsReached rules n) (sym same) rank_y.reached))
          | inr later ↦ absurd (before_both ((m ∷ []) ∷ key x) ((n ∷ []) ∷ key y) ((by_rank_rest before (x ∷ rest) order).0 y later m n rank_x rank_y) (number_before n m (key y) (key x) lower))
        ]
      ]

  -- each fact of the least list in its order is a root, or follows from those before it
  pub fact_derived : (facts before rest : List X) (x : X) → facts ≡ before ++ x ∷ rest → IsLeastInOrder rules key facts → Contains rules.roots x ⊎ FollowsFrom rules (Contains before) x
  fact_derived facts before rest x split ordered =
      let at : Contains facts x = subst (λ l. Contains l x) (sym split) (Contains-append_right before (x ∷ rest) x (contains_first x rest)) in
      let rank = member_ranked rules key is_key facts ordered.least x at in
      by_rank rank.0 rank.1
    where
      comes_before : (m k : ℕ) → HasRank rules m x → k < m → (y : X) → IsReached rules k y → Contains before y
      comes_before m k rank lower y reached =
          let in_facts : Contains facts y = reached_within rules facts ordered.least.closed k y reached in
          let q = member_ranked rules key is_key facts ordered.least y in_facts in
          let below : q.0 < m = elim (cases_below q.0 m) [
            | inl yes_below ↦ yes_below
            | inr above ↦ absurd (q.1.no_lower k (omega arith) reached)
          ] in
          stands_before before rest x y m q.0 (subst (λ l. IsByRank rules key l) split ordered.order) rank q.1 below (subst (λ l. Contains l y) split in_facts)
        where
          cases_below : (a b : ℕ) → (a < b) ⊎ (b ≤ a)
          cases_below a b = grind arith

      by_rank : (m : ℕ) → HasRank rules m x → Contains rules.roots x ⊎ FollowsFrom rules (Contains before) x
      by_rank zero rank = inl rank.reached
      by_rank (suc k) rank =
          elim rank.reached [
            | inl lower ↦ absurd (rank.no_lower k (omega arith) lower)
            | inr follows ↦ inr (follows_more (λ y reached. comes_before (suc k) k rank (omega arith) y reached) follows)
          ]

  derived_rest : (facts before rest : List X) → facts ≡ before ++ rest → IsLeastInOrder rules key facts → IsDerived rules before rest
  derived_rest facts before [] split ordered = tt
  derived_rest facts before (x ∷ rest) split ordered = (
    fact_derived facts before rest x split ordered,
    derived_rest facts (before ++ x ∷ []) rest (split ∙ sym (append_assoc before (x ∷ []) rest)) ordered,
  )

  pub least_derived : (facts : List X) → IsLeastInOrder rules key facts → IsDerived rules [] facts
  least_derived facts ordered = derived_rest facts [] facts refl ordered

-- the line of a fact that is among the first of a list
line_step : (y z : Fact) (zs rest : List Fact) (b : Bool) → same_fact y z ≡ b → ((n : ℕ) × (line_of (zs ++ rest) y ≡ Some n) × (fact_at zs n ≡ Some y)) ⊎ (z ≡ y)
    → (n : ℕ) × (cond b (Some 1) (option_map suc (line_of (zs ++ rest) y)) ≡ Some n) × (fact_at (z ∷ zs) n ≡ Some y)
line_step y z zs rest true e known = (1, refl, ap Some (sym ((same_fact-Decides y z).0 e)))
line_step y z zs rest false e (inr same) = absurd (true_false (same_fact y z) ((same_fact-Decides y z).1 (sym same)) e)
line_step y z zs rest false e (inl known) = later known.0 known.1 known.2
  where
    later : (n : ℕ) → line_of (zs ++ rest) y ≡ Some n → fact_at zs n ≡ Some y → (k : ℕ) × (option_map suc (line_of (zs ++ rest) y) ≡ Some k) × (fact_at (z ∷ zs) k ≡ Some y)
    later zero line at = (cc)
    later (suc n) line at = (suc (suc n), ap (option_map suc) line, at)

pub line_found : (before rest : List Fact) (y : Fact) → Contains before y → (n : ℕ) × (line_of (before ++ rest) y ≡ Some n) × (fact_at before n ≡ Some y)
line_found [] rest y h = absurd (contains_nothing y h)
line_found (z ∷ zs) rest y h = line_step y z zs rest (same_fact y z) refl (elim (contains_cases z y zs h) [ inl same ↦ inr same | inr later ↦ inl (line_found zs rest y later) ])

-- each step cites the fact from which it comes
pub data CitesOnly (x : Fact) : Cause Fact → Type 0 where
  cites_baseline : CitesOnly x (by_baseline x)
  cites_override : CitesOnly x (by_override x)
  cites_overlay : CitesOnly x (by_overlay x)
  cites_minimum : CitesOnly x (by_minimum x)
  cites_one : CitesOnly x (by_one x)

given_cites : (x : Fact) (p : List ℕ) (given : Result Given Wrong) (step : Step) → Contains (given_step x p given) step → CitesOnly x step.cause
given_cites x p (Ok (overlay v)) step h = subst (λ s. CitesOnly x s.cause) (contains_single _ step h) cites_overlay
given_cites x p (Ok (override a)) step h = subst (λ s. CitesOnly x s.cause) (contains_single _ step h) cites_override
given_cites x p (Ok (baseline a)) step h = subst (λ s. CitesOnly x s.cause) (contains_single _ step h) cites_baseline
given_cites x p (Err wrong) step h = absurd (contains_nothing step h)

floor_cites : (x : Fact) (b : Bool) (p : List ℕ) (a : Ask) (step : Step) → Contains (cond b [] (record { fact = floor p a; cause = by_minimum x } ∷ [])) step → CitesOnly x step.cause
floor_cites x true p a step h = absurd (contains_nothing step h)
floor_cites x false p a step h = subst (λ s. CitesOnly x s.cause) (contains_single _ step h) cites_minimum

asked_cites : (inputs : Inputs) (x y : Fact) (step : Step) → Contains (asked_step inputs x y) step → CitesOnly x step.cause
asked_cites inputs x (need who f) step h = subst (λ s. CitesOnly x s.cause) (contains_single _ step h) cites_one
asked_cites inputs x (floor p a) step h = floor_cites x (is_pinned inputs.setting inputs.pages p) p a step h
asked_cites inputs x (visit i f a) step h = absurd (contains_nothing step h)

each_cites : (inputs : Inputs) (x : Fact) (asked : List Fact) (step : Step) → Contains (flat_map (asked_step inputs x) asked) step → CitesOnly x step.cause
each_cites inputs x asked step h = let r = contains-flat_map (asked_step inputs x) asked step h in asked_cites inputs x r.0 step r.2

pub step_cites : (inputs : Inputs) (x : Fact) (step : Step) → Contains (steps_from inputs x) step → CitesOnly x step.cause
step_cites inputs (need (root t) f) step h = each_cites inputs (need (root t) f) (asked_of inputs.setting (root t) f inputs.setting.root) step h
step_cites inputs (need (inst i) f) step h = given_cites (need (inst i) f) i.port (inputs.pages i.port).given step h
step_cites inputs (floor p a) step h = absurd (contains_nothing step h)
step_cites inputs (visit i f a) step h = each_cites inputs (visit i f a) (asked_at inputs i f a) step h

-- the first cause is found among the first facts, where one of them has one
pub record HasCause (inputs : Inputs) (before : List Fact) (x : Fact) (cause : Option (Cause Fact)) : Type 0 where
  pub from : Fact
  pub has_from : Contains before from
  pub step : Step
  pub in_steps : Contains (steps_from inputs from) step
  pub gives : step.fact ≡ x
  pub is : cause ≡ Some step.cause

cause_step : (inputs : Inputs) (y : Fact) (ys : List Fact) (x : Fact) (found : Option Step) (rest : Option (Cause Fact)) → find (λ step. same_fact x step.fact) (steps_from inputs y) ≡ found
    → (found ≡ None → HasCause inputs ys x rest) → HasCause inputs (y ∷ ys) x (option_or (option_map (λ step. step.cause) found) rest)
cause_step inputs y ys x None rest e later =
    let h = later refl in
    record { from = h.from; has_from = contains_later y h.from ys h.has_from; step = h.step; in_steps = h.in_steps; gives = h.gives; is = h.is }
cause_step inputs y ys x (Some step) rest e later =
    let found = found_contains (λ s. same_fact x s.fact) (steps_from inputs y) step e in
    record { from = y; has_from = contains_first y ys; step = step; in_steps = found.0; gives = sym ((same_fact-Decides x step.fact).0 found.1); is = refl }

pub cause_found : (inputs : Inputs) (before rest : List Fact) (x a : Fact) (step : Step) → Contains before a → Contains (steps_from inputs a) step → step.fact ≡ x → HasCause inputs before x (first_cause inputs (before ++ rest) x)
cause_found inputs [] rest x a step h in_steps gives = absurd (contains_nothing a h)
cause_found inputs (y ∷ ys) rest x a step h in_steps gives =
    cause_step inputs y ys x (find (λ s. same_fact x s.fact) (steps_from inputs y)) (first_cause inputs (ys ++ rest) x) refl (λ none. elim (contains_cases y a ys h) [
      | inl same ↦ absurd (true_false (same_fact x step.fact) ((same_fact-Decides x step.fact).1 (sym gives)) (nothing_found (λ s. same_fact x s.fact) (steps_from inputs y) none step (subst (λ z. Contains (steps_from inputs z) step) (sym same) in_steps)))
      | inr later ↦ cause_found inputs ys rest x a step later in_steps gives
    ])

-- a fact with such a cause is shown by the lines before it
shown_by : (inputs : Inputs) (before rest : List Fact) (x y : Fact) (n : ℕ) (cause : Cause Fact) (printed : Cause ℕ) → CitesOnly y cause → Contains (steps_from inputs y) (record { fact = x; cause = cause })
    → line_of (before ++ rest) y ≡ Some n → fact_at before n ≡ Some y → in_lines (before ++ rest) cause ≡ Some printed → IsShownBy inputs before (record { fact = x; cause = printed })
shown_by inputs before rest x y n cause printed cites_baseline follows line at told =
    let is : by_baseline n ≡ printed = let e : option_map by_baseline (line_of (before ++ rest) y) ≡ Some (by_baseline n) = ap (option_map by_baseline) line in (cc) in
    record { cited = by_baseline y; found = ap (with_facts before) (sym is) ∙ ap (option_map by_baseline) at; follows = follows }
shown_by inputs before rest x y n cause printed cites_override follows line at told =
    let is : by_override n ≡ printed = let e : option_map by_override (line_of (before ++ rest) y) ≡ Some (by_override n) = ap (option_map by_override) line in (cc) in
    record { cited = by_override y; found = ap (with_facts before) (sym is) ∙ ap (option_map by_override) at; follows = follows }
shown_by inputs before rest x y n cause printed cites_overlay follows line at told =
    let is : by_overlay n ≡ printed = let e : option_map by_overlay (line_of (before ++ rest) y) ≡ Some (by_overlay n) = ap (option_map by_overlay) line in (cc) in
    record { cited = by_overlay y; found = ap (with_facts before) (sym is) ∙ ap (option_map by_overlay) at; follows = follows }
shown_by inputs before rest x y n cause printed cites_minimum follows line at told =
    let is : by_minimum n ≡ printed = let e : option_map by_minimum (line_of (before ++ rest) y) ≡ Some (by_minimum n) = ap (option_map by_minimum) line in (cc) in
    record { cited = by_minimum y; found = ap (with_facts before) (sym is) ∙ ap (option_map by_minimum) at; follows = follows }
shown_by inputs before rest x y n cause printed cites_one follows line at told =
    let is : by_one n ≡ printed = let e : option_map by_one (line_of (before ++ rest) y) ≡ Some (by_one n) = ap (option_map by_one) line in (cc) in
    record { cited = by_one y; found = ap (with_facts before) (sym is) ∙ ap (option_map by_one) at; follows = follows }

-- what two facts give is a visit, and they are its need and its floor
pub record AreVisit (inputs : Inputs) (a b x : Fact) : Type 0 where
  pub i : Instance
  pub f : List ℕ
  pub v : Ask
  pub is_need : a ≡ need (inst i) f
  pub is_floor : b ≡ floor i.port v
  pub is_visit : x ≡ visit i f v
  pub visited : is_visited inputs i.port v ≡ true

visit_by : (inputs : Inputs) (i : Instance) (f p : List ℕ) (v : Ask) (x : Fact) (b : Bool) → b ≡ (cond b true false) → (b ≡ true → (bytes_eq p i.port ≡ true) × (is_visited inputs p v ≡ true)) → Contains (cond b (visit i f v ∷ []) []) x
    → AreVisit inputs (need (inst i) f) (floor p v) x
visit_by inputs i f p v x true e passes h =
    let ps = passes refl in
    let same : p ≡ i.port = (bytes_eq-Decides p i.port).0 ps.0 in
    record { i = i; f = f; v = v; is_need = refl; is_floor = ap (λ q. floor q v) same; is_visit = sym (contains_single (visit i f v) x h); visited = subst (λ q. is_visited inputs q v ≡ true) same ps.1 }
visit_by inputs i f p v x false e passes h = absurd (contains_nothing x h)

itself : (b : Bool) → b ≡ cond b true false
itself true = refl
itself false = refl

pub visits_are : (inputs : Inputs) (a b x : Fact) → Contains (visits_from inputs a b) x → AreVisit inputs a b x
visits_are inputs (need (root t) f) b x h = absurd (contains_nothing x h)
visits_are inputs (need (inst i) f) (need who g) x h = absurd (contains_nothing x h)
visits_are inputs (need (inst i) f) (floor p v) x h =
    visit_by inputs i f p v x (bytes_eq p i.port && is_visited inputs p v) (itself _) (λ e. both_true (bytes_eq p i.port) (is_visited inputs p v) e) h
visits_are inputs (need (inst i) f) (visit j g v) x h = absurd (contains_nothing x h)
visits_are inputs (floor p a) b x h = absurd (contains_nothing x h)
visits_are inputs (visit i f a) b x h = absurd (contains_nothing x h)

-- one fact alone never gives a visit
abbrev pub is_visit_fact : Fact → Bool
is_visit_fact (need who f) = false
is_visit_fact (floor p a) = false
is_visit_fact (visit i f a) = true

given_no_visit : (x : Fact) (p : List ℕ) (given : Result Given Wrong) (step : Step) → Contains (given_step x p given) step → is_visit_fact step.fact ≡ false
given_no_visit x p (Ok (overlay v)) step h = ap (λ s. is_visit_fact s.fact) (sym (contains_single _ step h))
given_no_visit x p (Ok (override a)) step h = ap (λ s. is_visit_fact s.fact) (sym (contains_single _ step h))
given_no_visit x p (Ok (baseline a)) step h = ap (λ s. is_visit_fact s.fact) (sym (contains_single _ step h))
given_no_visit x p (Err wrong) step h = absurd (contains_nothing step h)

floor_no_visit : (x : Fact) (b : Bool) (p : List ℕ) (a : Ask) (step : Step) → Contains (cond b [] (record { fact = floor p a; cause = by_minimum x } ∷ [])) step → is_visit_fact step.fact ≡ false
floor_no_visit x true p a step h = absurd (contains_nothing step h)
floor_no_visit x false p a step h = ap (λ s. is_visit_fact s.fact) (sym (contains_single _ step h))

asked_no_visit : (inputs : Inputs) (x y : Fact) (step : Step) → Contains (asked_step inputs x y) step → is_visit_fact step.fact ≡ false
asked_no_visit inputs x (need who f) step h = ap (λ s. is_visit_fact s.fact) (sym (contains_single _ step h))
asked_no_visit inputs x (floor p a) step h = floor_no_visit x (is_pinned inputs.setting inputs.pages p) p a step h
asked_no_visit inputs x (visit i f a) step h = absurd (contains_nothing step h)

each_no_visit : (inputs : Inputs) (x : Fact) (asked : List Fact) (step : Step) → Contains (flat_map (asked_step inputs x) asked) step → is_visit_fact step.fact ≡ false
each_no_visit inputs x asked step h = let r = contains-flat_map (asked_step inputs x) asked step h in asked_no_visit inputs x r.0 step r.2

pub step_no_visit : (inputs : Inputs) (x : Fact) (step : Step) → Contains (steps_from inputs x) step → is_visit_fact step.fact ≡ false
step_no_visit inputs (need (root t) f) step h = each_no_visit inputs (need (root t) f) (asked_of inputs.setting (root t) f inputs.setting.root) step h
step_no_visit inputs (need (inst i) f) step h = given_no_visit (need (inst i) f) i.port (inputs.pages i.port).given step h
step_no_visit inputs (floor p a) step h = absurd (contains_nothing step h)
step_no_visit inputs (visit i f a) step h = each_no_visit inputs (visit i f a) (asked_at inputs i f a) step h

-- a visit follows from its need and its floor
visit_shown : (inputs : Inputs) (before rest : List Fact) (i : Instance) (f : List ℕ) (a : Ask) (printed : Cause ℕ) → Contains before (need (inst i) f) → Contains before (floor i.port a)
    → Contains (visits_from inputs (need (inst i) f) (floor i.port a)) (visit i f a)
    → in_lines (before ++ rest) (by_two (need (inst i) f) (floor i.port a)) ≡ Some printed → IsShownBy inputs before (record { fact = visit i f a; cause = printed })
visit_shown inputs before rest i f a printed has_need has_floor follows told =
    let n = line_found before rest (need (inst i) f) has_need in
    let m = line_found before rest (floor i.port a) has_floor in
    let lines : in_lines (before ++ rest) (by_two (need (inst i) f) (floor i.port a)) ≡ Some (by_two n.0 m.0) =
    ap (option_and_then (λ k. option_map (by_two k) (line_of (before ++ rest) (floor i.port a)))) n.1 ∙ ap (option_map (by_two n.0)) m.1 in
    let is : by_two n.0 m.0 ≡ printed = (cc) in
    record {
      cited = by_two (need (inst i) f) (floor i.port a);
      found = ap (with_facts before) (sym is) ∙ ap (option_and_then (λ x. option_map (by_two x) (fact_at before m.0))) n.2 ∙ ap (option_map (by_two (need (inst i) f))) m.2;
      follows = follows;
    }

cause_shown : (inputs : Inputs) (before rest : List Fact) (x : Fact) (cause : Option (Cause Fact)) (printed : Cause ℕ) → HasCause inputs before x cause → option_and_then (in_lines (before ++ rest)) cause ≡ Some printed
    → IsShownBy inputs before (record { fact = x; cause = printed })
cause_shown inputs before rest x cause printed has told =
    let n = line_found before rest has.from has.has_from in
    let lines : in_lines (before ++ rest) has.step.cause ≡ Some printed = ap (option_and_then (in_lines (before ++ rest))) (sym has.is) ∙ told in
    let is : has.step ≡ record { fact = x; cause = has.step.cause } = λ k. record { fact = has.gives k; cause = has.step.cause } in
    shown_by inputs before rest x has.from n.0 has.step.cause printed (step_cites inputs has.from has.step has.in_steps)
    (subst (λ (s : Step). Contains (steps_from inputs has.from) s) is has.in_steps) n.1 n.2 lines

pub two_no_other : (inputs : Inputs) (a b x : Fact) → is_visit_fact x ≡ false → Contains (visits_from inputs a b) x → ⊥
two_no_other inputs a b x e h = let v = visits_are inputs a b x h in let clash : true ≡ false = sym (ap is_visit_fact v.is_visit) ∙ e in (cc)

one_shown : (inputs : Inputs) (before rest : List Fact) (x : Fact) (printed : Cause ℕ) → is_visit_fact x ≡ false → FollowsFrom (rules_of inputs) (Contains before) x
    → option_and_then (in_lines (before ++ rest)) (first_cause inputs (before ++ rest) x) ≡ Some printed → IsShownBy inputs before (record { fact = x; cause = printed })
one_shown inputs before rest x printed other (from_one a holds asked) told =
    let r = contains_map (λ (s : Step). s.fact) (steps_from inputs a) x asked in
    cause_shown inputs before rest x (first_cause inputs (before ++ rest) x) printed (cause_found inputs before rest x a r.0 holds r.1 r.2) told
one_shown inputs before rest x printed other (from_two a b one two asked) told = absurd (two_no_other inputs a b x other asked)

follow_shown : (inputs : Inputs) (before rest : List Fact) (x : Fact) (printed : Cause ℕ) → FollowsFrom (rules_of inputs) (Contains before) x
    → option_and_then (in_lines (before ++ rest)) (citing inputs (before ++ rest) x) ≡ Some printed → IsShownBy inputs before (record { fact = x; cause = printed })
follow_shown inputs before rest (need who f) printed follows told = one_shown inputs before rest (need who f) printed refl follows told
follow_shown inputs before rest (floor p a) printed follows told = one_shown inputs before rest (floor p a) printed refl follows told
follow_shown inputs before rest (visit i f a) printed (from_one y holds asked) told =
    let r = contains_map (λ (s : Step). s.fact) (steps_from inputs y) (visit i f a) asked in
    let clash : true ≡ false = sym (ap is_visit_fact r.2) ∙ step_no_visit inputs y r.0 r.1 in
    absurd (cc)
follow_shown inputs before rest (visit i f a) printed (from_two y z one two asked) told =
    let v = visits_are inputs y z (visit i f a) asked in
    let same : visit i f a ≡ visit v.i v.f v.v = v.is_visit in
    let same_i : v.i ≡ i = (cc) in
    let same_f : v.f ≡ f = (cc) in
    let same_a : v.v ≡ a = (cc) in
    let is_need : y ≡ need (inst i) f = v.is_need ∙ ap (λ j. need (inst j) v.f) same_i ∙ ap (need (inst i)) same_f in
    let is_floor : z ≡ floor i.port a = v.is_floor ∙ ap (λ j. floor j.port v.v) same_i ∙ ap (floor i.port) same_a in
    visit_shown inputs before rest i f a printed (subst (Contains before) is_need one) (subst (Contains before) is_floor two)
    (subst (λ w. Contains (visits_from inputs (need (inst i) f) w) (visit i f a)) is_floor (subst (λ w. Contains (visits_from inputs w z) (visit i f a)) is_need asked)) told

root_step : (inputs : Inputs) (before rest : List Fact) (x : Fact) (printed : Cause ℕ) (b : Bool) → list_any (same_fact x) (root_facts_of inputs.setting) ≡ b → Contains (root_facts_of inputs.setting) x ⊎ FollowsFrom (rules_of inputs) (Contains before) x
    → cond b (Some by_root) (option_and_then (in_lines (before ++ rest)) (citing inputs (before ++ rest) x)) ≡ Some printed → IsShownBy inputs before (record { fact = x; cause = printed })
root_step inputs before rest x printed true e derived told =
    let r = any_contains (same_fact x) (root_facts_of inputs.setting) e in
    let same : x ≡ r.0 = (same_fact-Decides x r.0).0 r.2 in
    let is : by_root ≡ printed = (cc) in
    record { cited = by_root; found = ap (with_facts before) (sym is); follows = subst (Contains (root_facts_of inputs.setting)) (sym same) r.1 }
root_step inputs before rest x printed false e (inl is_root) told =
    absurd (true_false (list_any (same_fact x) (root_facts_of inputs.setting)) (contains_any (same_fact x) (root_facts_of inputs.setting) x is_root ((same_fact-Decides x x).1 refl)) e)
root_step inputs before rest x printed false e (inr follows) told = follow_shown inputs before rest x printed follows told

pub fact_shown : (inputs : Inputs) (before rest : List Fact) (x : Fact) (printed : Cause ℕ) → IsLeastInOrder (rules_of inputs) fact_key (before ++ x ∷ rest) → cause_of inputs (before ++ x ∷ rest) x ≡ Some printed
    → IsShownBy inputs before (record { fact = x; cause = printed })
fact_shown inputs before rest x printed ordered told =
    root_step inputs before (x ∷ rest) x printed (list_any (same_fact x) (root_facts_of inputs.setting)) refl (fact_derived (rules_of inputs) fact_key fact_key-IsKey (before ++ x ∷ rest) before rest x refl ordered) told

derivation_rest : (inputs : Inputs) (facts before : List Fact) (rest : List Reason) → facts ≡ before ++ facts_of rest → IsLeastInOrder (rules_of inputs) fact_key facts → ((r : Reason) → Contains rest r → cause_of inputs facts r.fact ≡ Some r.cause)
    → IsDerivation inputs before rest
derivation_rest inputs facts before [] split ordered causes = tt
derivation_rest inputs facts before (r ∷ rest) split ordered causes = (
  fact_shown inputs before (facts_of rest) r.fact r.cause (subst (IsLeastInOrder (rules_of inputs) fact_key) split ordered) (subst (λ l. cause_of inputs l r.fact ≡ Some r.cause) split (causes r (contains_first r rest))),
  derivation_rest inputs facts (before ++ r.fact ∷ []) rest (split ∙ sym (append_assoc before (r.fact ∷ []) (facts_of rest))) ordered (λ q h. causes q (contains_later r q rest h)),
)

-- the least list in its order, with its causes, is a derivation
pub reasons_derived : (inputs : Inputs) (reasons : List Reason) → IsReasons inputs reasons → IsDerivation inputs [] reasons
reasons_derived inputs reasons is = derivation_rest inputs (facts_of reasons) [] reasons refl is.facts is.causes

-- a line that is cited is one of those before
cited_line : (before : List Fact) (n : ℕ) (x : Fact) → fact_at before n ≡ Some x → (0 < n) × (n ≤ length before)
cited_line before zero x e = (cc)
cited_line before (suc n) x e = (omega arith, within before n e)
  where
    within : (xs : List Fact) (k : ℕ) → slice_get xs k ≡ Some x → suc k ≤ length xs
    within [] k h = (cc)
    within (y ∷ ys) zero h = omega arith
    within (y ∷ ys) (suc k) h = let w : suc k ≤ length ys = within ys k h in omega arith

map_some : {A B : Type 0} (f : A → B) (o : Option A) (y : B) → option_map f o ≡ Some y → (x : A) × (o ≡ Some x)
map_some f None y e = (cc)
map_some f (Some x) y e = (x, refl)

both_some : {A B C : Type 0} (f : A → B → C) (o : Option A) (p : Option B) (y : C) → option_and_then (λ x. option_map (f x) p) o ≡ Some y → ((x : A) × (o ≡ Some x)) × ((z : B) × (p ≡ Some z))
both_some f None p y e = (cc)
both_some f (Some x) None y e = (cc)
both_some f (Some x) (Some z) y e = ((x, refl), (z, refl))

cited_before : (before : List Fact) (cause : Cause ℕ) (cited : Cause Fact) → with_facts before cause ≡ Some cited → (m : ℕ) → Contains (cited_by cause) m → (0 < m) × (m ≤ length before)
cited_before before by_root cited e m h = absurd (contains_nothing m h)
cited_before before (by_baseline n) cited e m h = let r = map_some by_baseline (fact_at before n) cited e in subst (λ k. (0 < k) × (k ≤ length before)) (contains_single n m h) (cited_line before n r.0 r.1)
cited_before before (by_override n) cited e m h = let r = map_some by_override (fact_at before n) cited e in subst (λ k. (0 < k) × (k ≤ length before)) (contains_single n m h) (cited_line before n r.0 r.1)
cited_before before (by_overlay n) cited e m h = let r = map_some by_overlay (fact_at before n) cited e in subst (λ k. (0 < k) × (k ≤ length before)) (contains_single n m h) (cited_line before n r.0 r.1)
cited_before before (by_minimum n) cited e m h = let r = map_some by_minimum (fact_at before n) cited e in subst (λ k. (0 < k) × (k ≤ length before)) (contains_single n m h) (cited_line before n r.0 r.1)
cited_before before (by_one n) cited e m h = let r = map_some by_one (fact_at before n) cited e in subst (λ k. (0 < k) × (k ≤ length before)) (contains_single n m h) (cited_line before n r.0 r.1)
cited_before before (by_two n k) cited e m h =
    let r = both_some by_two (fact_at before n) (fact_at before k) cited e in
    elim (contains_cases n m (k ∷ []) h) [
      | inl same ↦ subst (λ j. (0 < j) × (j ≤ length before)) same (cited_line before n r.0.0 r.0.1)
      | inr later ↦ subst (λ j. (0 < j) × (j ≤ length before)) (contains_single k m later) (cited_line before k r.1.0 r.1.1)
    ]

root_or_cites : (cause : Cause ℕ) → (cause ≡ by_root) ⊎ (cited_by cause ≢ [])
root_or_cites by_root = inl refl
root_or_cites (by_baseline n) = inr (λ e. (cc))
root_or_cites (by_override n) = inr (λ e. (cc))
root_or_cites (by_overlay n) = inr (λ e. (cc))
root_or_cites (by_minimum n) = inr (λ e. (cc))
root_or_cites (by_one n) = inr (λ e. (cc))
root_or_cites (by_two n m) = inr (λ e. (cc))

root_is_root : (inputs : Inputs) (before : List Fact) (r : Reason) → IsShownBy inputs before r → r.cause ≡ by_root → Contains (root_facts_of inputs.setting) r.fact
root_is_root inputs before r shown e =
    let is : by_root ≡ shown.cited = let f : with_facts before r.cause ≡ Some by_root = ap (with_facts before) e in let g : with_facts before r.cause ≡ Some shown.cited = shown.found in (cc) in
    subst (λ c. FollowsBy inputs c r.fact) (sym is) shown.follows

reason_here : (done : List Reason) (r : Reason) (rest : List Reason) → slice_get (done ++ r ∷ rest) (length done) ≡ Some r
reason_here [] r rest = refl
reason_here (q ∷ done) r rest = reason_here done r rest

line_leads : (inputs : Inputs) (reasons done : List Reason) (r : Reason) (rest : List Reason) → reasons ≡ done ++ r ∷ rest → IsShownBy inputs (facts_of done) r
    → length (facts_of done) ≡ length done → ((m : ℕ) → 0 < m → m ≤ length done → LeadsToRoots inputs reasons m) → LeadsToRoots inputs reasons (suc (length done))
line_leads inputs reasons done r rest split shown long known =
    let here : reason_at reasons (suc (length done)) ≡ Some r = ap (λ l. slice_get l (length done)) split ∙ reason_here done r rest in
    elim (root_or_cites r.cause) [
      | inl is_root ↦ at_root (suc (length done)) r here is_root (root_is_root inputs (facts_of done) r shown is_root)
      | inr cites ↦ through (suc (length done)) r here cites
          (λ m h. (let c = cited_before (facts_of done) r.cause shown.cited shown.found m h in let below : m ≤ length (facts_of done) = c.1 in omega arith))
          (λ m h. (let c = cited_before (facts_of done) r.cause shown.cited shown.found m h in known m c.0 (subst (λ k. m ≤ k) long c.1)))
    ]

facts_long : (rs : List Reason) → length (facts_of rs) ≡ length rs
facts_long [] = refl
facts_long (r ∷ rs) = ap suc (facts_long rs)

facts_push : (done : List Reason) (r : Reason) → facts_of (done ++ r ∷ []) ≡ facts_of done ++ r.fact ∷ []
facts_push [] r = refl
facts_push (q ∷ done) r = ap (λ l. q.fact ∷ l) (facts_push done r)

leads_rest : (inputs : Inputs) (reasons done rest : List Reason) → reasons ≡ done ++ rest → IsDerivation inputs (facts_of done) rest → ((m : ℕ) → 0 < m → m ≤ length done → LeadsToRoots inputs reasons m)
    → (m : ℕ) → 0 < m → m ≤ length reasons → LeadsToRoots inputs reasons m
leads_rest inputs reasons done [] split derivation known m some within =
    let all : reasons ≡ done = split ∙ append-nil done in
    known m some (subst (λ l. m ≤ length l) all within)
leads_rest inputs reasons done (r ∷ rest) split derivation known m some within =
    let long : length (done ++ r ∷ []) ≡ suc (length done) = length-append done (r ∷ []) ∙ add_one (length done) in
    leads_rest inputs reasons (done ++ r ∷ []) rest (split ∙ sym (append_assoc done (r ∷ []) rest)) (subst (λ l. IsDerivation inputs l rest) (sym (facts_push done r)) derivation.1)
    (λ k some_k within_k. elim (last_or_before k (length done) (subst (λ n. k ≤ n) long within_k)) [
      | inl before ↦ known k some_k before
      | inr last ↦ subst (LeadsToRoots inputs reasons) (sym last) (line_leads inputs reasons done r rest split derivation.0 (facts_long done) known)
    ]) m some within
  where
    add_one : (n : ℕ) → n + 1 ≡ suc n
    add_one n = omega arith

    last_or_before : (k n : ℕ) → k ≤ suc n → (k ≤ n) ⊎ (k ≡ suc n)
    last_or_before k n h = grind arith

-- each line of a derivation leads to the roots
pub derivation_leads : (inputs : Inputs) (reasons : List Reason) → IsDerivation inputs [] reasons → (m : ℕ) → 0 < m → m ≤ length reasons → LeadsToRoots inputs reasons m
derivation_leads inputs reasons derivation = leads_rest inputs reasons [] reasons refl derivation (λ m some none. absurd (omega arith))
