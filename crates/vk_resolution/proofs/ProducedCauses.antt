-- The cause of a fact that is new: it cites the fact that brings it up, and stays while lines are added.
use Rattle.std.proofs.Common.{◌≡◌, ◌⊎◌, ℕ, suc, Bool, true, false, cond, List, [], ◌∷◌, ◌++◌, length, map, inl, inr, refl, ap, sym, ◌∙◌, subst}
use Rattle.std.specs.Prelude.{Option, Some, None, option_map, option_and_then, Result, Ok, Err, flat_map}
use Rattle.std.specs.Option.{option_or}
use Rattle.std.specs.List.{Contains, find}
use Rattle.vk_spec.proofs.ListLemmas.{contains_nothing, contains_first, contains_later, contains-flat_map}
use Rattle.vk_spec.specs.Pages.{Wrong, Given, overlay, override, baseline}
use Rattle.vk_resolution.specs.Least.{FollowsFrom, from_one}
use Rattle.vk_resolution.specs.Settings.{root, inst}
use Rattle.vk_resolution.specs.Givens.{is_pinned}
use Rattle.vk_resolution.specs.Asking.{Fact, need, floor, visit, same_fact, asked_of}
use Rattle.vk_resolution.specs.Consequences.{Inputs, Cause, by_root, by_baseline, by_override, by_overlay, by_minimum, by_one, by_two, Step, given_step, asked_step, asked_at, steps_from, rules_of}
use Rattle.vk_resolution.specs.Reasons.{Reason, first_line, line_of, first_cause, citing, in_lines, cause_of}
use Rattle.vk_resolution.proofs.Members.{contains_single, map_contains, found_contains, nothing_found, true_false}
use Rattle.vk_resolution.proofs.FactLemmas.{same_fact-Decides}
use Rattle.vk_resolution.proofs.Derivations.{is_visit_fact, step_no_visit}
use Rattle.vk_resolution.proofs.FirstCauses.{first_cause-stays, first_cause-later}
use Rattle.vk_resolution.specs.Closing.{IsCited, by_step, by_visit, IsCaused}

-- ---- one fact brings up another by one cause

abbrev pub given_cause : Fact → Result Given Wrong → Cause Fact
given_cause x (Ok (overlay v)) = by_overlay x
given_cause x (Ok (override a)) = by_override x
given_cause x (Ok (baseline a)) = by_baseline x
given_cause x (Err wrong) = by_root

abbrev pub asked_cause : Fact → Fact → Cause Fact
asked_cause x (need who f) = by_one x
asked_cause x (floor p a) = by_minimum x
asked_cause x (visit i f a) = by_root

abbrev pub cause_for : Inputs → Fact → Fact → Cause Fact
cause_for inputs (need (root t) f) x = asked_cause (need (root t) f) x
cause_for inputs (need (inst i) f) x = given_cause (need (inst i) f) (inputs.pages i.port).given
cause_for inputs (floor p a) x = by_root
cause_for inputs (visit i f a) x = asked_cause (visit i f a) x

in_given : (y : Fact) (p : List ℕ) (g : Result Given Wrong) (s : Step) → Contains (given_step y p g) s → s.cause ≡ given_cause y g
in_given y p (Ok (overlay v)) s h = ap (λ t. t.cause) (sym (contains_single _ s h))
in_given y p (Ok (override a)) s h = ap (λ t. t.cause) (sym (contains_single _ s h))
in_given y p (Ok (baseline a)) s h = ap (λ t. t.cause) (sym (contains_single _ s h))
in_given y p (Err wrong) s h = absurd (contains_nothing s h)

in_unpinned : (y : Fact) (p : List ℕ) (a : _) (b : Bool) (s : Step) → Contains (cond b [] (record { fact = floor p a; cause = by_minimum y } ∷ [])) s → s.cause ≡ asked_cause y s.fact
in_unpinned y p a true s h = absurd (contains_nothing s h)
in_unpinned y p a false s h = let same = contains_single _ s h in subst (λ t. t.cause ≡ asked_cause y t.fact) same refl

in_asked : (inputs : Inputs) (y x : Fact) (s : Step) → Contains (asked_step inputs y x) s → s.cause ≡ asked_cause y s.fact
in_asked inputs y (need who f) s h = let same = contains_single _ s h in subst (λ t. t.cause ≡ asked_cause y t.fact) same refl
in_asked inputs y (floor p a) s h = in_unpinned y p a (is_pinned inputs.setting inputs.pages p) s h
in_asked inputs y (visit i f a) s h = absurd (contains_nothing s h)

in_all_asked : (inputs : Inputs) (y : Fact) (xs : List Fact) (s : Step) → Contains (flat_map (asked_step inputs y) xs) s → s.cause ≡ asked_cause y s.fact
in_all_asked inputs y xs s h = let r = contains-flat_map (asked_step inputs y) xs s h in in_asked inputs y r.0 s r.2

pub step_cause : (inputs : Inputs) (y : Fact) (s : Step) → Contains (steps_from inputs y) s → s.cause ≡ cause_for inputs y s.fact
step_cause inputs (need (root t) f) s h = in_all_asked inputs (need (root t) f) (asked_of inputs.setting (root t) f inputs.setting.root) s h
step_cause inputs (need (inst i) f) s h = in_given (need (inst i) f) i.port (inputs.pages i.port).given s h
step_cause inputs (floor p a) s h = absurd (contains_nothing s h)
step_cause inputs (visit i f a) s h = in_all_asked inputs (visit i f a) (asked_at inputs i f a) s h

-- ---- the first cause

-- the cause by which y brings up x
abbrev pub cause_from : Inputs → Fact → Fact → Option (Cause Fact)
cause_from inputs y x = option_map (λ step. step.cause) (find (λ step. same_fact x step.fact) (steps_from inputs y))

found_cause : (inputs : Inputs) (y x : Fact) (c : Cause Fact) → Contains (steps_from inputs y) (record { fact = x; cause = c }) → (o : Option Step) → find (λ step. same_fact x step.fact) (steps_from inputs y) ≡ o → option_map (λ step. step.cause) o ≡ Some c
found_cause inputs y x c h None e = let no = nothing_found (λ step. same_fact x step.fact) (steps_from inputs y) e (record { fact = x; cause = c }) h in absurd (true_false (same_fact x x) ((same_fact-Decides x x).1 refl) no)
found_cause inputs y x c h (Some s) e =
    let r = found_contains (λ step. same_fact x step.fact) (steps_from inputs y) s e in
    let same : x ≡ s.fact = (same_fact-Decides x s.fact).0 r.1 in
    let one : s.cause ≡ cause_for inputs y s.fact = step_cause inputs y s r.0 in
    let other : c ≡ cause_for inputs y x = step_cause inputs y (record { fact = x; cause = c }) h in
    ap Some (one ∙ ap (cause_for inputs y) (sym same) ∙ sym other)

pub cause_found : (inputs : Inputs) (y x : Fact) (c : Cause Fact) → Contains (steps_from inputs y) (record { fact = x; cause = c }) → cause_from inputs y x ≡ Some c
cause_found inputs y x c h = found_cause inputs y x c h (find (λ step. same_fact x step.fact) (steps_from inputs y)) refl

or_none : {A : Type 0} (o : Option A) → option_or o None ≡ o
or_none None = refl
or_none (Some x) = refl

from_cause : (inputs : Inputs) (y x : Fact) (o : Option Step) → find (λ step. same_fact x step.fact) (steps_from inputs y) ≡ o → (c : Cause Fact) → option_map (λ step. step.cause) o ≡ Some c → Contains (map (λ step. step.fact) (steps_from inputs y)) x
from_cause inputs y x None e c h = (cc)
from_cause inputs y x (Some s) e c h =
    let r = found_contains (λ step. same_fact x step.fact) (steps_from inputs y) s e in
    let same : x ≡ s.fact = (same_fact-Decides x s.fact).0 r.1 in
    subst (Contains (map (λ step. step.fact) (steps_from inputs y))) (sym same) (map_contains (λ step. step.fact) (steps_from inputs y) s r.0)

-- a fact that has a first cause follows
has_cause : (inputs : Inputs) (z : Fact) (zs : List Fact) (x : Fact) (o : Option (Cause Fact)) → cause_from inputs z x ≡ o → (first_cause inputs zs x ≡ None → ⊥) ⊎ (first_cause inputs zs x ≡ None) → ((first_cause inputs zs x ≡ None → ⊥) → FollowsFrom (rules_of inputs) (Contains zs) x) → (option_or o (first_cause inputs zs x) ≡ None → ⊥) → FollowsFrom (rules_of inputs) (Contains (z ∷ zs)) x
has_cause inputs z zs x (Some c) e d rest some = from_one z (contains_first z zs) (from_cause inputs z x _ refl c e)
has_cause inputs z zs x None e d rest some =
    elim (rest some) [
      | from_one a holds asked ↦ from_one a (contains_later z a zs holds) asked
      | FollowsFrom.from_two a b one other asked ↦ FollowsFrom.from_two a b (contains_later z a zs one) (contains_later z b zs other) asked
    ]

none_or_not : {A : Type 0} (o : Option A) → (o ≡ None → ⊥) ⊎ (o ≡ None)
none_or_not None = inr refl
none_or_not (Some x) = inl (λ e. (cc))

pub caused_follows : (inputs : Inputs) (zs : List Fact) (x : Fact) → (first_cause inputs zs x ≡ None → ⊥) → FollowsFrom (rules_of inputs) (Contains zs) x
caused_follows inputs [] x some = absurd (some refl)
caused_follows inputs (z ∷ zs) x some = has_cause inputs z zs x (cause_from inputs z x) refl (none_or_not (first_cause inputs zs x)) (caused_follows inputs zs x) some

-- ---- lines

line_step : (y z : Fact) (zs : List Fact) (rest : Option ℕ) (n : ℕ) → (Contains (z ∷ zs) y → ⊥) → rest ≡ Some n → (b : Bool) → same_fact y z ≡ b → cond (same_fact y z) (Some 1) (option_map suc rest) ≡ Some (suc n)
line_step y z zs rest n new r true e = absurd (new (subst (λ k. Contains (k ∷ zs) y) ((same_fact-Decides y z).0 e) (contains_first y zs)))
line_step y z zs rest n new r false e = ap (λ b. cond b (Some 1) (option_map suc rest)) e ∙ ap (option_map suc) r

line_found : (y : Fact) (zs ys : List Fact) → (Contains zs y → ⊥) → first_line (same_fact y) (zs ++ y ∷ ys) ≡ Some (suc (length zs))
line_found y [] ys new = ap (λ b. cond b (Some 1) (option_map suc (first_line (same_fact y) ys))) ((same_fact-Decides y y).1 refl)
line_found y (z ∷ zs) ys new = line_step y z zs (first_line (same_fact y) (zs ++ y ∷ ys)) (suc (length zs)) new (line_found y zs ys (λ h. new (contains_later z y zs h))) (same_fact y z) refl

-- the line of the fact that is taken up
pub line_of_taken : (taken : List Fact) (y : Fact) → (Contains taken y → ⊥) → line_of (taken ++ y ∷ []) y ≡ Some (suc (length taken))
line_of_taken taken y new = line_found y taken [] new

later_stays : (o p : Option ℕ) (n : ℕ) → ((m : ℕ) → o ≡ Some m → p ≡ Some m) → (b : Bool) → cond b (Some 1) (option_map suc o) ≡ Some n → cond b (Some 1) (option_map suc p) ≡ Some n
later_stays o p n stays true e = e
later_stays None p n stays false e = (cc)
later_stays (Some m) p n stays false e = ap (option_map suc) (stays m refl) ∙ e

pub line_stays : (xs ys : List Fact) (x : Fact) (n : ℕ) → line_of xs x ≡ Some n → line_of (xs ++ ys) x ≡ Some n
line_stays [] ys x n e = (cc)
line_stays (z ∷ xs) ys x n e = later_stays (line_of xs x) (line_of (xs ++ ys) x) n (line_stays xs ys x) (same_fact x z) e

map_stays : {A B : Type 0} (f : A → B) (o p : Option A) (b : B) → ((a : A) → o ≡ Some a → p ≡ Some a) → option_map f o ≡ Some b → option_map f p ≡ Some b
map_stays f None p b stays e = (cc)
map_stays f (Some a) p b stays e = ap (option_map f) (stays a refl) ∙ e

two_stay : {A B D : Type 0} (f : A → B → D) (o p : Option A) (q r : Option B) (d : D) → ((a : A) → o ≡ Some a → p ≡ Some a) → ((b : B) → q ≡ Some b → r ≡ Some b) → option_and_then (λ a. option_map (f a) q) o ≡ Some d → option_and_then (λ a. option_map (f a) r) p ≡ Some d
two_stay f None p q r d one two e = (cc)
two_stay f (Some a) p q r d one two e = ap (option_and_then (λ z. option_map (f z) r)) (one a refl) ∙ map_stays (f a) q r d two e

pub lines_stay : (xs ys : List Fact) (c : Cause Fact) (d : Cause ℕ) → in_lines xs c ≡ Some d → in_lines (xs ++ ys) c ≡ Some d
lines_stay xs ys by_root d e = e
lines_stay xs ys (by_baseline x) d e = map_stays by_baseline _ _ d (line_stays xs ys x) e
lines_stay xs ys (by_override x) d e = map_stays by_override _ _ d (line_stays xs ys x) e
lines_stay xs ys (by_overlay x) d e = map_stays by_overlay _ _ d (line_stays xs ys x) e
lines_stay xs ys (by_minimum x) d e = map_stays by_minimum _ _ d (line_stays xs ys x) e
lines_stay xs ys (by_one x) d e = map_stays by_one _ _ d (line_stays xs ys x) e
lines_stay xs ys (by_two x y) d e = two_stay by_two _ _ _ _ d (line_stays xs ys x) (line_stays xs ys y) e

pub citing_stays : (inputs : Inputs) (ts us : List Fact) (x : Fact) (c : Cause Fact) → citing inputs ts x ≡ Some c → citing inputs (ts ++ us) x ≡ Some c
citing_stays inputs ts us (need who f) c e = first_cause-stays inputs ts us (need who f) c e
citing_stays inputs ts us (floor p a) c e = first_cause-stays inputs ts us (floor p a) c e
citing_stays inputs ts us (visit i f a) c e = e

cited_by_lines : (inputs : Inputs) (xs ys ts us : List Fact) (x : Fact) (o : Option (Cause Fact)) (d : Cause ℕ) → citing inputs ts x ≡ o → option_and_then (in_lines xs) o ≡ Some d → option_and_then (in_lines (xs ++ ys)) (citing inputs (ts ++ us) x) ≡ Some d
cited_by_lines inputs xs ys ts us x None d e h = (cc)
cited_by_lines inputs xs ys ts us x (Some c) d e h = ap (option_and_then (in_lines (xs ++ ys))) (citing_stays inputs ts us x c e) ∙ lines_stay xs ys c d h

-- a cause stays when lines are added, and when more of them are taken up
pub caused_stays : (inputs : Inputs) (xs ys ts us : List Fact) (r : Reason) → IsCaused inputs xs ts r → IsCaused inputs (xs ++ ys) (ts ++ us) r
caused_stays inputs xs ys ts us r (inl first) = inl first
caused_stays inputs xs ys ts us r (inr cited) = inr (cited.0, cited_by_lines inputs xs ys ts us r.fact (citing inputs ts r.fact) r.cause refl cited.1)

-- where all lines are taken up, it is the cause of the definition
pub caused_last : (inputs : Inputs) (lines : List Fact) (r : Reason) → IsCaused inputs lines lines r → cause_of inputs lines r.fact ≡ Some r.cause
caused_last inputs lines r (inl first) = ap (λ b. cond b (Some by_root) (option_and_then (in_lines lines) (citing inputs lines r.fact))) first.0 ∙ ap Some (sym first.1)
caused_last inputs lines r (inr cited) = ap (λ b. cond b (Some by_root) (option_and_then (in_lines lines) (citing inputs lines r.fact))) cited.0 ∙ cited.1

-- ---- what is new

no_cause : (inputs : Inputs) (ts : List Fact) (x : Fact) → (FollowsFrom (rules_of inputs) (Contains ts) x → ⊥) → (o : Option (Cause Fact)) → first_cause inputs ts x ≡ o → first_cause inputs ts x ≡ None
no_cause inputs ts x new None e = e
no_cause inputs ts x new (Some c) e = absurd (new (caused_follows inputs ts x (λ none. (let clash : Some c ≡ None = sym e ∙ none in (cc)))))

new_first : (inputs : Inputs) (ts : List Fact) (y x : Fact) (c : Cause Fact) → (FollowsFrom (rules_of inputs) (Contains ts) x → ⊥) → Contains (steps_from inputs y) (record { fact = x; cause = c }) → first_cause inputs (ts ++ y ∷ []) x ≡ Some c
new_first inputs ts y x c new h =
    first_cause-later inputs ts (y ∷ []) x (no_cause inputs ts x new (first_cause inputs ts x) refl)
    ∙ or_none (cause_from inputs y x) ∙ cause_found inputs y x c h

new_citing : (inputs : Inputs) (ts : List Fact) (y x : Fact) (c : Cause Fact) → (FollowsFrom (rules_of inputs) (Contains ts) x → ⊥) → Contains (steps_from inputs y) (record { fact = x; cause = c }) → is_visit_fact x ≡ false → citing inputs (ts ++ y ∷ []) x ≡ Some c
new_citing inputs ts y (need who f) c new h seen = new_first inputs ts y (need who f) c new h
new_citing inputs ts y (floor p a) c new h seen = new_first inputs ts y (floor p a) c new h
new_citing inputs ts y (visit i f a) c new h seen = (cc)

-- what y brings up and didn't follow before cites y, or its need and its floor
pub new_caused : (inputs : Inputs) (ts : List Fact) (y : Fact) (r : Reason) → (FollowsFrom (rules_of inputs) (Contains ts) r.fact → ⊥) → IsCited inputs (ts ++ y ∷ []) y r → option_and_then (in_lines (ts ++ y ∷ [])) (citing inputs (ts ++ y ∷ []) r.fact) ≡ Some r.cause
new_caused inputs ts y r new (by_step c h e) = ap (option_and_then (in_lines (ts ++ y ∷ []))) (new_citing inputs ts y r.fact c new h (step_no_visit inputs y (record { fact = r.fact; cause = c }) h)) ∙ e
new_caused inputs ts y r new (by_visit i f a is e) = ap (λ x. option_and_then (in_lines (ts ++ y ∷ [])) (citing inputs (ts ++ y ∷ []) x)) is ∙ e
