-- What one fact more shows: what it brings up, and nothing else.
use Rattle.std.proofs.Common.{◌≡◌, ◌⊎◌, ℕ, zero, suc, true, false, List, [], ◌∷◌, ◌++◌, inl, inr, refl, ap, sym, ◌∙◌, subst}
use Rattle.std.specs.Prelude.{Some, option_map, option_and_then, slice_get}
use Rattle.std.specs.List.{Contains}
use Rattle.vk_spec.specs.Lists.{NoRepeats}
use Rattle.vk_resolution.specs.Least.{FollowsFrom, from_one, from_two}
use Rattle.vk_resolution.specs.Worklist.{Brings, alone, first, second}
use Rattle.vk_resolution.specs.Closing.{IsCited, by_step, by_visit, Produces}
use Rattle.vk_resolution.specs.Settings.{inst}
use Rattle.vk_resolution.specs.Asking.{Fact, need, floor, visit}
use Rattle.vk_resolution.specs.Consequences.{Inputs, Step, Cause, by_root, by_baseline, by_override, by_overlay, by_minimum, by_one, by_two, rules_of, steps_from, visits_from, FollowsBy}
use Rattle.vk_resolution.specs.Reasons.{Reason, line_of, in_lines, fact_at, with_facts, IsShownBy}
use Rattle.vk_resolution.proofs.Members.{map_contains, contains_map}
use Rattle.vk_resolution.proofs.Soundness.{then_some, map_some}
use Rattle.vk_resolution.proofs.LineLemmas.{at_contains, line_at, at_line}
use Rattle.vk_resolution.proofs.Derivations.{CitesOnly, cites_baseline, cites_override, cites_overlay, cites_minimum, cites_one, step_cites, visits_are, is_visit_fact, step_no_visit}
use Rattle.vk_resolution.proofs.ProducedCauses.{step_cause, cause_for}

-- ---- more lines

get_stays : {X : Type 0} (xs ys : List X) (n : ℕ) (x : X) → slice_get xs n ≡ Some x → slice_get (xs ++ ys) n ≡ Some x
get_stays [] ys n x e = (cc)
get_stays (z ∷ xs) ys zero x e = e
get_stays (z ∷ xs) ys (suc n) x e = get_stays xs ys n x e

at_stays : (xs ys : List Fact) (n : ℕ) (x : Fact) → fact_at xs n ≡ Some x → fact_at (xs ++ ys) n ≡ Some x
at_stays xs ys zero x e = (cc)
at_stays xs ys (suc n) x e = get_stays xs ys n x e

last_get : {X : Type 0} (xs : List X) (y : X) (n : ℕ) (x : X) → slice_get (xs ++ y ∷ []) n ≡ Some x → (slice_get xs n ≡ Some x) ⊎ (y ≡ x)
last_get [] y zero x e = let same : y ≡ x = (cc) in inr same
last_get [] y (suc n) x e = (cc)
last_get (z ∷ xs) y zero x e = inl e
last_get (z ∷ xs) y (suc n) x e = last_get xs y n x e

last_at : (xs : List Fact) (y : Fact) (n : ℕ) (x : Fact) → fact_at (xs ++ y ∷ []) n ≡ Some x → (fact_at xs n ≡ Some x) ⊎ (y ≡ x)
last_at xs y zero x e = (cc)
last_at xs y (suc n) x e = last_get xs y n x e

cited_stays : (xs ys : List Fact) (cite : Fact → Cause Fact) (n : ℕ) (d : Cause Fact) → option_map cite (fact_at xs n) ≡ Some d → option_map cite (fact_at (xs ++ ys) n) ≡ Some d
cited_stays xs ys cite n d e = let r = map_some cite (fact_at xs n) d e in ap (option_map cite) (at_stays xs ys n r.0 r.1) ∙ ap Some r.2

with_more : (xs ys : List Fact) (c : Cause ℕ) (d : Cause Fact) → with_facts xs c ≡ Some d → with_facts (xs ++ ys) c ≡ Some d
with_more xs ys by_root d e = e
with_more xs ys (by_baseline n) d e = cited_stays xs ys by_baseline n d e
with_more xs ys (by_override n) d e = cited_stays xs ys by_override n d e
with_more xs ys (by_overlay n) d e = cited_stays xs ys by_overlay n d e
with_more xs ys (by_minimum n) d e = cited_stays xs ys by_minimum n d e
with_more xs ys (by_one n) d e = cited_stays xs ys by_one n d e
with_more xs ys (by_two n m) d e =
    let r = then_some (λ x. option_map (by_two x) (fact_at xs m)) (fact_at xs n) d e in
    ap (option_and_then (λ x. option_map (by_two x) (fact_at (xs ++ ys) m))) (at_stays xs ys n r.0 r.1) ∙ cited_stays xs ys (by_two r.0) m d r.2

pub shown_stays : (inputs : Inputs) (xs ys : List Fact) (r : Reason) → IsShownBy inputs xs r → IsShownBy inputs (xs ++ ys) r
shown_stays inputs xs ys r shown = record { cited = shown.cited; found = with_more xs ys r.cause shown.cited shown.found; follows = shown.follows }

-- ---- what is brought up is shown

module _ (inputs : Inputs) (lines : List Fact) (y x : Fact) where
  line_shows : (cite : Fact → Cause Fact) (word : ℕ → Cause ℕ) → ((n : ℕ) → with_facts lines (word n) ≡ option_map cite (fact_at lines n)) → FollowsBy inputs (cite y) x
      → (printed : Cause ℕ) → option_map word (line_of lines y) ≡ Some printed → IsShownBy inputs lines (record { fact = x; cause = printed })
  line_shows cite word words follows printed e =
      let r = map_some word (line_of lines y) printed e in
      record { cited = cite y; found = ap (with_facts lines) (sym r.2) ∙ words r.0 ∙ ap (option_map cite) (line_at lines y r.0 r.1); follows = follows }

  step_shows : (c : Cause Fact) → CitesOnly y c → Contains (steps_from inputs y) (record { fact = x; cause = c }) → (printed : Cause ℕ) → in_lines lines c ≡ Some printed → IsShownBy inputs lines (record { fact = x; cause = printed })
  step_shows c cites_baseline h printed e = line_shows by_baseline by_baseline (λ n. refl) h printed e
  step_shows c cites_override h printed e = line_shows by_override by_override (λ n. refl) h printed e
  step_shows c cites_overlay h printed e = line_shows by_overlay by_overlay (λ n. refl) h printed e
  step_shows c cites_minimum h printed e = line_shows by_minimum by_minimum (λ n. refl) h printed e
  step_shows c cites_one h printed e = line_shows by_one by_one (λ n. refl) h printed e

-- a visit that follows does so from its need and its floor
visit_follows : (inputs : Inputs) (P : Fact → Type 0) (i : _) (f : List ℕ) (a : _) → FollowsFrom (rules_of inputs) P (visit i f a) → Contains (visits_from inputs (need (inst i) f) (floor i.port a)) (visit i f a)
visit_follows inputs P i f a (from_one y holds asked) =
    let r = contains_map (λ (s : Step). s.fact) (steps_from inputs y) (visit i f a) asked in
    let clash : true ≡ false = sym (ap is_visit_fact r.2) ∙ step_no_visit inputs y r.0 r.1 in
    absurd (cc)
visit_follows inputs P i f a (from_two y z one two asked) =
    let v = visits_are inputs y z (visit i f a) asked in
    let same : visit i f a ≡ visit v.i v.f v.v = v.is_visit in
    let same_i : v.i ≡ i = (cc) in
    let same_f : v.f ≡ f = (cc) in
    let same_a : v.v ≡ a = (cc) in
    let is_need : y ≡ need (inst i) f = v.is_need ∙ ap (λ j. need (inst j) v.f) same_i ∙ ap (need (inst i)) same_f in
    let is_floor : z ≡ floor i.port a = v.is_floor ∙ ap (λ j. floor j.port v.v) same_i ∙ ap (floor i.port) same_a in
    subst (λ w. Contains (visits_from inputs (need (inst i) f) w) (visit i f a)) is_floor (subst (λ w. Contains (visits_from inputs w z) (visit i f a)) is_need asked)

visit_shows : (inputs : Inputs) (lines : List Fact) (i : _) (f : List ℕ) (a : _) (printed : Cause ℕ) → Contains (visits_from inputs (need (inst i) f) (floor i.port a)) (visit i f a)
    → in_lines lines (by_two (need (inst i) f) (floor i.port a)) ≡ Some printed → IsShownBy inputs lines (record { fact = visit i f a; cause = printed })
visit_shows inputs lines i f a printed follows e =
    let r = then_some (λ n. option_map (by_two n) (line_of lines (floor i.port a))) (line_of lines (need (inst i) f)) printed e in
    let q = map_some (by_two r.0) (line_of lines (floor i.port a)) printed r.2 in
    record {
      cited = by_two (need (inst i) f) (floor i.port a);
      found = ap (with_facts lines) (sym q.2) ∙ ap (option_and_then (λ x. option_map (by_two x) (fact_at lines q.0))) (line_at lines (need (inst i) f) r.0 r.1)
          ∙ ap (option_map (by_two (need (inst i) f))) (line_at lines (floor i.port a) q.0 q.1);
      follows = follows;
    }

pub brought_shown : (inputs : Inputs) (lines : List Fact) (y : Fact) (r : Reason) → IsCited inputs lines y r → FollowsFrom (rules_of inputs) (Contains lines) r.fact → IsShownBy inputs lines r
brought_shown inputs lines y r (by_step c h e) follows = step_shows inputs lines y r.fact c (step_cites inputs y (record { fact = r.fact; cause = c }) h) h r.cause e
brought_shown inputs lines y r (by_visit i f a is e) follows =
    let shown = visit_shows inputs lines i f a r.cause (visit_follows inputs (Contains lines) i f a (subst (FollowsFrom (rules_of inputs) (Contains lines)) is follows)) e in
    subst (λ z. IsShownBy inputs lines (record { fact = z; cause = r.cause })) (sym is) shown

-- ---- what is shown was shown before, or is brought up

module _ (inputs : Inputs) (taken : List Fact) (y : Fact) (brought : List Reason) (distinct : NoRepeats (taken ++ y ∷ [])) (produces : Produces inputs taken y brought) where
  abbrev lines : List Fact
  lines = taken ++ y ∷ []

  among : (q : Reason) (x : Fact) (c : Cause ℕ) → Contains brought q → q.fact ≡ x → q.cause ≡ c → Contains brought (record { fact = x; cause = c })
  among q x c h fact cause = let same : q ≡ record { fact = x; cause = c } = λ k. record { fact = fact k; cause = cause k } in subst (Contains brought) same h

  -- by one step
  step_brought : (x : Fact) (c : Cause Fact) (printed : Cause ℕ) → Contains (steps_from inputs y) (record { fact = x; cause = c }) → in_lines lines c ≡ Some printed → Contains brought (record { fact = x; cause = printed })
  step_brought x c printed h e =
      let r = contains_map (λ (q : Reason). q.fact) brought x (produces.facts.complete x (alone (map_contains (λ (s : Step). s.fact) (steps_from inputs y) (record { fact = x; cause = c }) h))) in
      among r.0 x printed r.1 r.2 (cited_so r.0 r.2 (produces.cited r.0 r.1))
    where
      cited_so : (q : Reason) → q.fact ≡ x → IsCited inputs lines y q → q.cause ≡ printed
      cited_so q fact (by_step d g told) =
          let one : d ≡ cause_for inputs y q.fact = step_cause inputs y (record { fact = q.fact; cause = d }) g in
          let other : c ≡ cause_for inputs y x = step_cause inputs y (record { fact = x; cause = c }) h in
          let same : d ≡ c = one ∙ ap (cause_for inputs y) fact ∙ sym other in
          let both : Some q.cause ≡ Some printed = sym told ∙ ap (in_lines lines) same ∙ e in
          (cc)
      cited_so q fact (by_visit i f a is told) =
          let clash : true ≡ false = ap is_visit_fact (sym is ∙ fact) ∙ step_no_visit inputs y (record { fact = x; cause = c }) h in
          absurd (cc)

  -- where one line is cited
  one_line : (x : Fact) (cite : Fact → Cause Fact) (word : ℕ → Cause ℕ) (n : ℕ) (cited : Cause Fact) → ((ls : List Fact) → with_facts ls (word n) ≡ option_map cite (fact_at ls n)) → ((z : Fact) → in_lines lines (cite z) ≡ option_map word (line_of lines z))
      → ((z : Fact) → FollowsBy inputs (cite z) x → Contains (steps_from inputs z) (record { fact = x; cause = cite z }))
      → with_facts lines (word n) ≡ Some cited → FollowsBy inputs cited x → IsShownBy inputs taken (record { fact = x; cause = word n }) ⊎ Contains brought (record { fact = x; cause = word n })
  one_line x cite word n cited words told steps found follows =
      let r = map_some cite (fact_at lines n) cited (sym (words lines) ∙ found) in
      let by : FollowsBy inputs (cite r.0) x = subst (λ d. FollowsBy inputs d x) (sym r.2) follows in
      elim (last_at taken y n r.0 r.1) [
        | inl old ↦ inl (record { cited = cite r.0; found = words taken ∙ ap (option_map cite) old; follows = by })
        | inr same ↦ inr (step_brought x (cite y) (word n) (subst (λ z. Contains (steps_from inputs z) (record { fact = x; cause = cite z })) (sym same) (steps r.0 by))
            (told y ∙ ap (option_map word) (at_line lines distinct y n (r.1 ∙ ap Some (sym same)))))
      ]

  -- where two are
  two_brought : (x a b : Fact) (n m : ℕ) → fact_at lines n ≡ Some a → fact_at lines m ≡ Some b → Contains (visits_from inputs a b) x → Brings (rules_of inputs) taken y x → Contains brought (record { fact = x; cause = by_two n m })
  two_brought x a b n m at_a at_b visits brings =
      let r = contains_map (λ (q : Reason). q.fact) brought x (produces.facts.complete x brings) in
      among r.0 x (by_two n m) r.1 r.2 (cited_so r.0 r.2 (produces.cited r.0 r.1))
    where
      cited_so : (q : Reason) → q.fact ≡ x → IsCited inputs lines y q → q.cause ≡ by_two n m
      cited_so q fact (by_step d g told) =
          let v = visits_are inputs a b x visits in
          let clash : true ≡ false = sym (ap is_visit_fact (fact ∙ v.is_visit)) ∙ step_no_visit inputs y (record { fact = q.fact; cause = d }) g in
          absurd (cc)
      cited_so q fact (by_visit i f w is told) =
          let v = visits_are inputs a b x visits in
          let same : visit i f w ≡ visit v.i v.f v.v = sym is ∙ fact ∙ v.is_visit in
          let same_i : v.i ≡ i = (cc) in
          let same_f : v.f ≡ f = (cc) in
          let same_w : v.v ≡ w = (cc) in
          let is_need : a ≡ need (inst i) f = v.is_need ∙ ap (λ j. need (inst j) v.f) same_i ∙ ap (need (inst i)) same_f in
          let is_floor : b ≡ floor i.port w = v.is_floor ∙ ap (λ j. floor j.port v.v) same_i ∙ ap (floor i.port) same_w in
          let need_line : line_of lines (need (inst i) f) ≡ Some n = at_line lines distinct (need (inst i) f) n (at_a ∙ ap Some is_need) in
          let floor_line : line_of lines (floor i.port w) ≡ Some m = at_line lines distinct (floor i.port w) m (at_b ∙ ap Some is_floor) in
          let both : in_lines lines (by_two (need (inst i) f) (floor i.port w)) ≡ Some (by_two n m) =
          ap (option_and_then (λ k. option_map (by_two k) (line_of lines (floor i.port w)))) need_line ∙ ap (option_map (by_two n)) floor_line in
          let equal : Some q.cause ≡ Some (by_two n m) = sym told ∙ both in
          (cc)

  two_lines : (x : Fact) (n m : ℕ) (cited : Cause Fact) → with_facts lines (by_two n m) ≡ Some cited → FollowsBy inputs cited x → IsShownBy inputs taken (record { fact = x; cause = by_two n m }) ⊎ Contains brought (record { fact = x; cause = by_two n m })
  two_lines x n m cited found follows =
      let r = then_some (λ a. option_map (by_two a) (fact_at lines m)) (fact_at lines n) cited found in
      let q = map_some (by_two r.0) (fact_at lines m) cited r.2 in
      let visits : Contains (visits_from inputs r.0 q.0) x = subst (λ d. FollowsBy inputs d x) (sym q.2) follows in
      elim (last_at taken y n r.0 r.1) [
        | inr same ↦ inr (two_brought x r.0 q.0 n m r.1 q.1 visits (first q.0 (at_contains lines m q.0 q.1) (subst (λ z. Contains (visits_from inputs z q.0) x) (sym same) visits)))
        | inl old ↦ elim (last_at taken y m q.0 q.1) [
          | inr same ↦ inr (two_brought x r.0 q.0 n m r.1 q.1 visits (second r.0 (at_contains lines n r.0 r.1) (subst (λ z. Contains (visits_from inputs r.0 z) x) (sym same) visits)))
          | inl also ↦ inl (record {
            cited = by_two r.0 q.0;
            found = ap (option_and_then (λ a. option_map (by_two a) (fact_at taken m))) old ∙ ap (option_map (by_two r.0)) also;
            follows = visits;
          })
        ]
      ]

  by_cause : (x : Fact) (printed : Cause ℕ) (cited : Cause Fact) → with_facts lines printed ≡ Some cited → FollowsBy inputs cited x → IsShownBy inputs taken (record { fact = x; cause = printed }) ⊎ Contains brought (record { fact = x; cause = printed })
  by_cause x by_root cited found follows = inl (record { cited = cited; found = found; follows = follows })
  by_cause x (by_baseline n) cited found follows = one_line x by_baseline by_baseline n cited (λ ls. refl) (λ z. refl) (λ z h. h) found follows
  by_cause x (by_override n) cited found follows = one_line x by_override by_override n cited (λ ls. refl) (λ z. refl) (λ z h. h) found follows
  by_cause x (by_overlay n) cited found follows = one_line x by_overlay by_overlay n cited (λ ls. refl) (λ z. refl) (λ z h. h) found follows
  by_cause x (by_minimum n) cited found follows = one_line x by_minimum by_minimum n cited (λ ls. refl) (λ z. refl) (λ z h. h) found follows
  by_cause x (by_one n) cited found follows = one_line x by_one by_one n cited (λ ls. refl) (λ z. refl) (λ z h. h) found follows
  by_cause x (by_two n m) cited found follows = two_lines x n m cited found follows

  pub shown_new : (r : Reason) → IsShownBy inputs lines r → IsShownBy inputs taken r ⊎ Contains brought r
  shown_new r shown = by_cause r.fact r.cause shown.cited shown.found shown.follows

  pub shown_either : (r : Reason) → IsShownBy inputs taken r ⊎ Contains brought r → IsShownBy inputs lines r
  shown_either r (inl old) = shown_stays inputs taken (y ∷ []) r old
  shown_either r (inr new) = brought_shown inputs lines y r (produces.cited r new) (produces.facts.sound r.fact (map_contains (λ (q : Reason). q.fact) brought r new))
