-- What the plan can't serve, fact by fact.
use Rattle.std.proofs.Common.{◌≡◌, ◌<◌, ◌≤◌, ◌+◌, ℕ, zero, suc, Bool, true, false, cond, List, [], ◌∷◌, ◌++◌, length, take, get_or, map, filter, inl, inr, refl, ap, ap₂, sym, ◌∙◌, subst, arith}
use Rattle.std.specs.Prelude.{Option, Some, None, flat_map, option_map, option_and_then, option_to_list, bytes_eq, position, slice_get}
use Rattle.std.specs.Map.{lookup}
use Rattle.std.specs.List.{Contains, position_or_len}
use Rattle.std.proofs.lemmas.List.{append-nil, append_assoc, length-map, take_more, take_all}
use Rattle.std.proofs.lemmas.Grind.{common_steps}
use Rattle.std.proofs.lemmas.List.Quantifiers.{position-Some}
use Rattle.std.proofs.lemmas.List.Sums.{fails_before_first}
use Rattle.std.proofs.lemmas.Map.Entries.{place_from_lookup}
use Rattle.std.proofs.lemmas.Option.{slice_get_within, slice_get-get_or, get_or_from_slice_get}
use Rattle.std.proofs.lemmas.Slice.Eq.{bytes_eq-Decides}
use Rattle.vk_spec.specs.Settings.{Setting, Instance}
use Rattle.vk_spec.specs.Versions.{IsOrder, ask_of}
use Rattle.vk_spec.proofs.ListLemmas.{contains_nothing, contains_cases, contains-flat_map}
use Rattle.vk_version.proofs.TestLemmas.{at_most-IsOrder}
use Rattle.vk_resolution.specs.Givens.{Pages}
use Rattle.vk_resolution.specs.Settings.{root, inst}
use Rattle.vk_resolution.specs.Asking.{Fact, need, floor, visit, is_among, same_fact}
use Rattle.vk_resolution.specs.Consequences.{Inputs}
use Rattle.vk_resolution.specs.Choices.{chosen_of}
use Rattle.vk_resolution.specs.Faults as plain
use Rattle.vk_resolution.specs.Faults.{judged_need, judged_on_line, third_faults_of}
use Rattle.vk_resolution.specs.Planner.{inputs_of}
use Rattle.vk_resolution.specs.Reasons.{Reason, facts_of, fact_at, line_of}
use Rattle.vk_resolution.specs.Selections.{Choice, IsChoices}
use Rattle.vk_resolution.proofs.Members.{contains_map, map_contains, contains_filter, empty_is, no_is_false, true_false}
use Rattle.vk_resolution.proofs.FactLemmas.{same_fact-Decides, among_contains, contains_among}
use Rattle.vk_resolution.proofs.Uniqueness.{get_contains}
use Rattle.vk_resolution.proofs.LineLemmas.{at_line, at_contains}
use Rattle.vk_resolution.proofs.ChoiceLemmas.{needed_given}
use Rattle.vk_resolution.proofs.SelectionLemmas.{choices_list_ports, choices_have_no_conflict, needed_has_choice}
use Rattle.vk_model.specs.declared.facts.Fact as code_fact
use Rattle.vk_model.specs.declared.reasons.Reason as code_reason
use Rattle.vk_model.specs.FactViews.{fact_view, reason_view, reasons_view}
use Rattle.vk_choices.specs.declared.chosen.Choice as code
use Rattle.vk_choices.specs.ChoiceViews.{choice_view}
use Rattle.vk_choices.specs.Clear.{IsClear}
use Rattle.vk_rules.specs.Flaws.{flaw_faults}
use Rattle.vk_rules.specs.declared.flaws.Flaw.{Flaw}
use Rattle.vk_planned.specs.Flaws.{flaw_lines, flaw_in, HasFlaw, AreFlaws}
use Rattle.vk_planset.specs.Judging.{IsJudged, flaw_of, flaw_told}
use Rattle.vk_planset.proofs.OrderLemmas.{position_view}

-- ---- choices as they are kept

lookup_by : {X : Type 0} (b : Bool) (x : X) (o : Option X) → (b ≡ true) → (y : X) × (cond b (Some x) o ≡ Some y)
lookup_by true x o e = (x, refl)
lookup_by false x o e = (cc)

lookup_later : {X : Type 0} (b : Bool) (x : X) (o : Option X) → (y : X) × (o ≡ Some y) → (y : X) × (cond b (Some x) o ≡ Some y)
lookup_later true x o (y, e) = (x, refl)
lookup_later false x o (y, e) = (y, e)

lookup_there : {X : Type 0} (p : List ℕ) (es : List (List ℕ × X)) (e : List ℕ × X) → Contains es e → e.0 ≡ p → (x : X) × (lookup (bytes_eq p) es ≡ Some x)
lookup_there p [] e h same = absurd (contains_nothing e h)
lookup_there p (d ∷ es) e h same = elim (contains_cases d e es h) [
  | inl first ↦ lookup_by (bytes_eq p d.0) d.1 (lookup (bytes_eq p) es) ((bytes_eq-Decides p d.0).1 (sym (ap (λ k. k.0) first ∙ same)))
  | inr later ↦ lookup_later (bytes_eq p d.0) d.1 (lookup (bytes_eq p) es) (lookup_there p es e later same)
]

-- what is found is the port's choice
pub record IsFound (inputs : Inputs) (facts : List Fact) (p : List ℕ) (c : code.Choice) : Type 0 where
  pub chosen : chosen_of inputs facts p ≡ Some c.version
  pub line : line_of facts (floor p (ask_of c.version)) ≡ Some c.line

pub found_is : (inputs : Inputs) (facts : List Fact) (entries : List (List ℕ × code.Choice)) → IsChoices inputs facts (map choice_view entries) → (p : List ℕ) (c : code.Choice) → lookup (bytes_eq p) entries ≡ Some c → IsFound inputs facts p c
found_is inputs facts entries are p c e =
    let r = place_from_lookup (bytes_eq p) entries c e in
    let is = are.each (choice_view (r.1, c)) (map_contains choice_view entries (r.1, c) (get_contains entries r.0 (r.1, c) r.2)) in
    let same : p ≡ r.1 = (bytes_eq-Decides p r.1).0 r.3 in record {
      chosen = ap (chosen_of inputs facts) same ∙ is.chosen;
      line = ap (λ q. line_of facts (floor q (ask_of c.version))) same ∙ is.floor;
    }

module _ (inputs : Inputs) (order : IsOrder inputs.at_most) (reasons : List Reason) (clear : IsClear inputs reasons) (entries : List (List ℕ × code.Choice)) (are : IsChoices inputs (facts_of reasons) (map choice_view entries)) where
  -- the port of each needed instance has a choice
  pub needed_found : (i : Instance) (f : List ℕ) → Contains (facts_of reasons) (need (inst i) f) → (c : code.Choice) × (lookup (bytes_eq i.port) entries ≡ Some c)
  needed_found i f h =
      let facts : List Fact = facts_of reasons in
      let g = needed_given inputs facts clear.clear i f h in
      let has = needed_has_choice inputs order facts clear.are_reasons.facts.least clear.clear (choices_have_no_conflict inputs facts (map choice_view entries) are) i f h g.0 g.1 in
      let listed : Contains (map (λ (c : Choice). c.port) (map choice_view entries)) i.port = ((choices_list_ports inputs facts (map choice_view entries) are).each i.port).1 (ask_of has.version, has.has) in
      let c = contains_map (λ (c : Choice). c.port) (map choice_view entries) i.port listed in
      let e = contains_map choice_view entries c.0 c.1 in
      lookup_there i.port entries e.0 e.1 (ap (λ (k : Choice). k.port) e.2 ∙ c.2)

  -- a flaw is told with the version of the choice
  pub told_same : (x : Fact) (flaw : Option Flaw) (n : ℕ) → Contains (facts_of reasons) x → flaw_lines inputs (facts_of reasons) x flaw n ≡ flaw_told entries x flaw n
  told_same (need (root t) f) flaw n h = refl
  told_same (need (inst i) f) flaw n h =
      let c = needed_found i f h in
      let is = found_is inputs (facts_of reasons) entries are i.port c.0 c.1 in
      ap (λ o. flaw_faults (inst i) f o n flaw) (is.chosen ∙ sym (ap (option_map (λ (k : code.Choice). k.version)) c.1))
  told_same (floor p a) flaw n h = refl
  told_same (visit i f a) flaw n h = refl

-- ---- the flaw that is kept of a fact

pub found_flaw : (keys : List code_fact.Fact) (flaws : List (Option Flaw)) (x : code_fact.Fact) (o : Option ℕ) → o ≡ position (λ k. same_fact (fact_view x) (fact_view k)) keys → flaw_of (map fact_view keys) flaws (fact_view x) ≡ option_and_then (λ m. flaw_in (slice_get flaws m)) o
found_flaw keys flaws x o e = ap (option_and_then (λ m. flaw_in (slice_get flaws m))) (sym (e ∙ position_view fact_view (same_fact (fact_view x)) keys))

pub no_flaw : (entries : List (List ℕ × code.Choice)) (x : Fact) (n : ℕ) → flaw_told entries x None n ≡ []
no_flaw entries (need who f) n = refl
no_flaw entries (floor p a) n = refl
no_flaw entries (visit i f a) n = refl

none_before : (p : Fact → Bool) (xs : List Fact) (k : ℕ) (d : Fact) → position p xs ≡ None → k < length xs → p (get_or xs k d) ≡ false
none_before p xs k d e within =
    let past : length xs ≤ position_or_len p xs = grind (arith, common_steps) in
    fails_before_first p xs k d (omega arith)

-- a fact isn't among the needs, and none is kept of it, or it stands at a place, and what is kept is there
pub data IsKept (needs : List Fact) (flaws : List (Option Flaw)) (x : Fact) : Type 0 where
  nowhere : is_among needs x ≡ false → flaw_of needs flaws x ≡ None → IsKept needs flaws x
  at_place : (m : ℕ) → slice_get needs m ≡ Some x → flaw_of needs flaws x ≡ flaw_in (slice_get flaws m) → IsKept needs flaws x

kept_by : (needs : List Fact) (flaws : List (Option Flaw)) (x : Fact) (o : Option ℕ) → position (same_fact x) needs ≡ o → IsKept needs flaws x
kept_by needs flaws x None e = nowhere
    (no_is_false (is_among needs x) (λ among. (
    let h = among_contains needs x among in
    true_false (same_fact x (get_or needs h.0 x)) ((same_fact-Decides x (get_or needs h.0 x)).1 (sym h.2)) (none_before (same_fact x) needs h.0 x e h.1)
    )))
    (ap (option_and_then (λ m. flaw_in (slice_get flaws m))) e)
kept_by needs flaws x (Some m) e =
    let r = position-Some (same_fact x) needs m x e in
    at_place m (slice_get-get_or needs m x r.0 ∙ ap Some (sym ((same_fact-Decides x (get_or needs m x)).0 r.1))) (ap (option_and_then (λ m. flaw_in (slice_get flaws m))) e)

pub kept : (needs : List Fact) (flaws : List (Option Flaw)) (x : Fact) → IsKept needs flaws x
kept needs flaws x = kept_by needs flaws x (position (same_fact x) needs) refl

-- ---- the facts of reasons, one more

-- the lines of the first facts
abbrev pub third_so_far : Inputs → List Fact → List Fact → ℕ → List plain.Fault
third_so_far inputs facts needs n = flat_map (judged_on_line inputs facts) (filter (is_among needs) (take n facts))

filter_last : (f : Fact → List plain.Fault) (x : Fact) (b : Bool) → flat_map f (cond b (x ∷ []) []) ≡ cond b (f x) []
filter_last f x true = append-nil (f x)
filter_last f x false = refl

filter_step : (f : Fact → List plain.Fault) (y : Fact) (b : Bool) (kept rest : List Fact) (more : List plain.Fault) → flat_map f kept ≡ flat_map f rest ++ more → flat_map f (cond b (y ∷ kept) kept) ≡ flat_map f (cond b (y ∷ rest) rest) ++ more
filter_step f y true kept rest more e = ap (λ l. f y ++ l) e ∙ sym (append_assoc (f y) (flat_map f rest) more)
filter_step f y false kept rest more e = e

filter_push : (test : Fact → Bool) (f : Fact → List plain.Fault) (xs : List Fact) (x : Fact) → flat_map f (filter test (xs ++ x ∷ [])) ≡ flat_map f (filter test xs) ++ cond (test x) (f x) []
filter_push test f [] x = filter_last f x (test x)
filter_push test f (y ∷ ys) x = filter_step f y (test y) (filter test (ys ++ x ∷ [])) (filter test ys) (cond (test x) (f x) []) (filter_push test f ys x)

line_found : (reasons : List code_reason.Reason) (n : ℕ) (r : code_reason.Reason) → n < length reasons → r ≡ get_or reasons n r → fact_at (facts_of (reasons_view reasons)) (suc n) ≡ Some (fact_view r.fact)
line_found [] n r within is = absurd (omega (arith, within))
line_found (q ∷ reasons) zero r within is = ap (λ (k : code_reason.Reason). Some (fact_view k.fact)) (sym is)
line_found (q ∷ reasons) (suc n) r within is = line_found reasons n r (omega (arith, within)) is

facts_more : (reasons : List code_reason.Reason) (n : ℕ) (r : code_reason.Reason) → n < length reasons → r ≡ get_or reasons n r → take (n + 1) (facts_of (reasons_view reasons)) ≡ take n (facts_of (reasons_view reasons)) ++ fact_view r.fact ∷ []
facts_more reasons n r within is =
    let facts : List Fact = facts_of (reasons_view reasons) in
    let at : slice_get facts n ≡ Some (fact_view r.fact) = line_found reasons n r within is in
    take_more facts n (fact_view r.fact) (slice_get_within facts n (fact_view r.fact) at)
    ∙ ap (λ y. take n facts ++ y ∷ []) (get_or_from_slice_get facts n (fact_view r.fact) (fact_view r.fact) at)

module _ (s : Setting) (pages : Pages) (reasons : List code_reason.Reason) (entries : List (List ℕ × code.Choice)) (needs : List Fact) (edges : List (ℕ × ℕ)) (flaws : List (Option Flaw)) (judged : IsJudged (inputs_of s pages) (reasons_view reasons) entries needs edges flaws) where
  abbrev inputs : Inputs
  inputs = inputs_of s pages

  abbrev facts : List Fact
  facts = facts_of (reasons_view reasons)

  module _ (n : ℕ) (r : code_reason.Reason) (within : n < length reasons) (is : r ≡ get_or reasons n r) where
    abbrev x : Fact
    x = fact_view r.fact

    there : fact_at facts (suc n) ≡ Some x
    there = line_found reasons n r within is

    on_its_line : (flaw : Option Flaw) → HasFlaw inputs facts x flaw → judged_on_line inputs facts x ≡ flaw_told entries x flaw (suc n)
    on_its_line flaw has =
        ap (λ o. flat_map (judged_need inputs facts x) (option_to_list o)) (at_line facts judged.clear.are_reasons.facts.least.forced.distinct x (suc n) there)
        ∙ append-nil (judged_need inputs facts x (suc n)) ∙ has (suc n)
        ∙ told_same inputs at_most-IsOrder (reasons_view reasons) judged.clear entries judged.chosen x flaw (suc n) (at_contains facts (suc n) x there)

    -- what is told of a fact is what the third phase has of it
    told_is : IsKept needs flaws x → flaw_told entries x (flaw_of needs flaws x) (suc n) ≡ cond (is_among needs x) (judged_on_line inputs facts x) []
    told_is (nowhere not_among none) =
        ap (λ f. flaw_told entries x f (suc n)) none ∙ no_flaw entries x (suc n)
        ∙ sym (ap (λ b. cond b (judged_on_line inputs facts x) []) not_among)
    told_is (at_place m at same) =
        ap (λ f. flaw_told entries x f (suc n)) same ∙ sym (on_its_line (flaw_in (slice_get flaws m)) (judged.have.each m x at))
        ∙ sym (ap (λ b. cond b (judged_on_line inputs facts x) []) (contains_among needs x (get_contains needs m x at)))

    pub third_more : (line : ℕ) (old new told : List plain.Fault) → line ≡ n + 1 → new ≡ old ++ told → told ≡ flaw_told entries x (flaw_of needs flaws x) line → old ≡ third_so_far inputs facts needs n → new ≡ third_so_far inputs facts needs (n + 1)
    third_more line old new told e put tells so_far =
        let up : line ≡ suc n = omega (arith, e) in
        put ∙ ap₂ (λ a b. a ++ b) so_far (tells ∙ ap (flaw_told entries x (flaw_of needs flaws x)) up ∙ told_is (kept needs flaws x))
        ∙ sym (filter_push (is_among needs) (judged_on_line inputs facts) (take n facts) x)
        ∙ ap (λ l. flat_map (judged_on_line inputs facts) (filter (is_among needs) l)) (sym (facts_more reasons n r within is))

facts_length : (reasons : List code_reason.Reason) → length (facts_of (reasons_view reasons)) ≡ length reasons
facts_length reasons = length-map (reasons_view reasons) (λ r. r.fact) ∙ length-map reasons reason_view

pub third_all : (inputs : Inputs) (reasons : List code_reason.Reason) (needs : List Fact) (n : ℕ) (fs : List plain.Fault) → length reasons ≤ n → fs ≡ third_so_far inputs (facts_of (reasons_view reasons)) needs n → fs ≡ third_faults_of inputs (facts_of (reasons_view reasons)) needs
third_all inputs reasons needs n fs done is =
    is ∙ ap (λ l. flat_map (judged_on_line inputs (facts_of (reasons_view reasons))) (filter (is_among needs) l))
    (take_all n (facts_of (reasons_view reasons)) (subst (λ m. m ≤ n) (sym (facts_length reasons)) done))

-- where no flaw is kept, the third phase has no line
module _ (inputs : Inputs) (facts needs : List Fact) (flaws : List (Option Flaw)) (have : AreFlaws inputs facts needs flaws) (none : (m : ℕ) → flaw_in (slice_get flaws m) ≡ None) where
  unflawed : (x : Fact) (n : ℕ) → flaw_lines inputs facts x None n ≡ []
  unflawed (need (root t) f) n = refl
  unflawed (need (inst i) f) n = refl
  unflawed (floor p a) n = refl
  unflawed (visit i f a) n = refl

  pub none_third : third_faults_of inputs facts needs ≡ []
  none_third = empty_is (third_faults_of inputs facts needs) (λ fault h. (
      let r = contains-flat_map (judged_on_line inputs facts) (filter (is_among needs) facts) fault h in
      let line = contains-flat_map (judged_need inputs facts r.0) (option_to_list (line_of facts r.0)) fault r.2 in
      let k = among_contains needs r.0 (contains_filter (is_among needs) facts r.0 r.1).1 in
      let at : slice_get needs k.0 ≡ Some r.0 = slice_get-get_or needs k.0 r.0 k.1 ∙ ap Some k.2 in
      let clear : judged_need inputs facts r.0 line.0 ≡ [] = have.each k.0 r.0 at line.0 ∙ ap (λ f. flaw_lines inputs facts r.0 f line.0) (none k.0) ∙ unflawed r.0 line.0 in
      contains_nothing fault (subst (λ l. Contains l fault) clear line.2)
      ))
