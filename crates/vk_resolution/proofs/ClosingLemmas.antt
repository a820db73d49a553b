-- A worklist of reasons: what is noted, a fact more that is taken up, a level's end, the end, and too many facts.
use Rattle.std.proofs.Common.{◌≡◌, ◌⊎◌, ℕ, false, List, [], ◌∷◌, ◌++◌, inl, inr, refl, sym, subst, arith}
use Rattle.std.specs.Prelude.{Option, Some, None, option_and_then}
use Rattle.std.specs.List.{Contains, list_any}
use Rattle.std.proofs.lemmas.List.{map-append, append-nil, length-append, length-map}
use Rattle.std.proofs.lemmas.List.Elements.{Contains-append_left, Contains-append_right, Contains-append_cases, Contains-push_cases}
use Rattle.vk_spec.specs.Lists.{NoRepeats, IsWithin}
use Rattle.vk_spec.proofs.ListLemmas.{contains_nothing, contains_first, no_repeats_push}
use Rattle.vk_resolution.specs.Keys.{Ascends}
use Rattle.vk_resolution.specs.Least.{FollowsFrom}
use Rattle.vk_resolution.specs.Asking.{Fact, fact_key, same_fact, root_facts_of}
use Rattle.vk_resolution.specs.Consequences.{Inputs, Cause, by_root, rules_of}
use Rattle.vk_resolution.specs.Reasons.{Reason, facts_of, citing, in_lines, IsReasons}
use Rattle.vk_resolution.specs.Closures.{HasTooManyFacts}
use Rattle.vk_resolution.specs.Worklist.{Notes, IsWork}
use Rattle.vk_resolution.specs.Closing.{Produces, IsCaused, NotesReasons, IsTooMuch, IsClosing}
use Rattle.vk_resolution.proofs.LeastLemmas.{follows_more, roots_stay}
use Rattle.vk_resolution.proofs.Levels.{level_forced}
use Rattle.vk_resolution.proofs.FreshRounds.{more_forced}
use Rattle.vk_resolution.proofs.Members.{map_contains, contains_map, contains_any, any_contains, no_is_false}
use Rattle.vk_resolution.proofs.FactLemmas.{same_fact-Decides}
use Rattle.vk_resolution.proofs.ClosureLemmas.{too_many}
use Rattle.vk_resolution.proofs.WorkLemmas.{notes_nothing, notes_known, notes_new, notes_then, work_first, work_more, work_next, work_last}
use Rattle.vk_resolution.proofs.ProducedCauses.{new_caused, caused_stays, caused_last, lines_stay}

-- ---- notes

pub reasons_nothing : (lines : List Fact) (old : List Reason) → NotesReasons lines [] old old
reasons_nothing lines old = record { facts = notes_nothing lines (facts_of old); causes = λ r h. inl h }

pub reasons_known : (lines : List Fact) (old : List Reason) (r : Reason) → Contains lines r.fact ⊎ Contains (facts_of old) r.fact → NotesReasons lines (r ∷ []) old old
reasons_known lines old r known = record { facts = notes_known lines (facts_of old) r.fact known; causes = λ q h. inl h }

pub reasons_new : (lines : List Fact) (old : List Reason) (r : Reason) → (Contains lines r.fact → ⊥) → (Contains (facts_of old) r.fact → ⊥) → NotesReasons lines (r ∷ []) old (old ++ r ∷ [])
reasons_new lines old r unknown unnoted = record {
  facts = subst (Notes lines (r.fact ∷ []) (facts_of old)) (sym (map-append (λ q. q.fact) old (r ∷ []))) (notes_new lines (facts_of old) r.fact unknown unnoted);
  causes = λ q h. elim (Contains-push_cases old r q h) [
    | inl was ↦ inl was
    | inr same ↦ inr (subst (Contains (r ∷ [])) same (contains_first r []), (λ known. unknown (subst (λ z. Contains lines z.fact) (sym same) known)), (λ noted. unnoted (subst (λ z. Contains (facts_of old) z.fact) (sym same) noted)))
  ];
}

pub reasons_then : {lines : List Fact} {one two a b c : List Reason} → NotesReasons lines one a b → NotesReasons lines two b c → NotesReasons lines (one ++ two) a c
reasons_then {lines = lines} {one = one} {two = two} {a = a} {b = b} {c = c} r s = record {
  facts = subst (λ l. Notes lines l (facts_of a) (facts_of c)) (sym (map-append (λ q. q.fact) one two)) (notes_then r.facts s.facts);
  causes = λ q h. elim (s.causes q h) [
    | inl was ↦ elim (r.causes q was) [ inl old ↦ inl old | inr new ↦ inr (Contains-append_left one two q new.0, new.1, new.2) ]
    | inr new ↦ inr (Contains-append_right one two q new.0, new.1, λ old. new.2 (r.facts.kept q.fact old))
  ];
}

-- ---- lines

pub first_facts : (inputs : Inputs) (lines : List Reason) (x : Fact) → IsWithin (root_facts_of inputs.setting) (facts_of lines) → (Contains (facts_of lines) x → ⊥) → list_any (same_fact x) (root_facts_of inputs.setting) ≡ false
first_facts inputs lines x roots new = no_is_false _ (λ e. (let p = any_contains (same_fact x) (root_facts_of inputs.setting) e in new (roots x (subst (Contains (root_facts_of inputs.setting)) (sym ((same_fact-Decides x p.0).0 p.2)) p.1))))

more_lines : (xs ys : List Fact) (o : Option (Cause Fact)) (c : Cause ℕ) → option_and_then (in_lines xs) o ≡ Some c → option_and_then (in_lines (xs ++ ys)) o ≡ Some c
more_lines xs ys None c e = (cc)
more_lines xs ys (Some d) c e = lines_stay xs ys d c e

-- a cause stays where more lines are taken up
taken_stays : (inputs : Inputs) (lines taken more : List Fact) (r : Reason) → IsCaused inputs lines taken r → IsCaused inputs lines (taken ++ more) r
taken_stays inputs lines taken more r c = subst (λ l. IsCaused inputs l (taken ++ more) r) (append-nil lines) (caused_stays inputs lines [] taken more r c)

lines_stays : (inputs : Inputs) (lines more taken : List Fact) (r : Reason) → IsCaused inputs lines taken r → IsCaused inputs (lines ++ more) taken r
lines_stays inputs lines more taken r c = subst (λ l. IsCaused inputs (lines ++ more) l r) (append-nil taken) (caused_stays inputs lines more taken [] r c)

pub facts_more : (one two : List Reason) → facts_of (one ++ two) ≡ facts_of one ++ facts_of two
facts_more one two = map-append (λ q. q.fact) one two

pub facts_within : (one two : List Reason) → IsWithin one two → IsWithin (facts_of one) (facts_of two)
facts_within one two within x h = let p = contains_map (λ (q : Reason). q.fact) one x h in subst (Contains (facts_of two)) p.2 (map_contains (λ (q : Reason). q.fact) two p.0 (within p.0 p.1))

module _ (inputs : Inputs) where
  -- the lines of the root facts
  pub closing_first : (lines : List Reason) → IsWithin (facts_of lines) (root_facts_of inputs.setting) → IsWithin (root_facts_of inputs.setting) (facts_of lines) → NoRepeats (facts_of lines) → Ascends fact_key (facts_of lines) → ((r : Reason) → Contains lines r → r.cause ≡ by_root) → IsClosing inputs lines [] []
  closing_first lines to from distinct ascends by = record {
    work = work_first (rules_of inputs) fact_key (facts_of lines) to from distinct ascends;
    caused = λ r h. inl (contains_any (same_fact r.fact) (root_facts_of inputs.setting) r.fact (to r.fact (map_contains (λ q. q.fact) lines r h)) ((same_fact-Decides r.fact r.fact).1 refl), by r h);
    fresh_caused = λ r h. absurd (contains_nothing r h);
  }

  -- one line more is taken up
  pub closing_more : (lines : List Reason) (taken rest : List Fact) (fresh : List Reason) (y : Fact) (brought new : List Reason)
      → (taken ++ y ∷ []) ++ rest ≡ facts_of lines → IsClosing inputs lines taken fresh → Produces inputs taken y brought → NotesReasons (facts_of lines) brought fresh new → IsClosing inputs lines (taken ++ y ∷ []) new
  closing_more lines taken rest fresh y brought new whole was produces notes = record {
    work = work_more (rules_of inputs) fact_key (facts_of lines) taken (facts_of fresh) y (facts_of brought) (facts_of new) was.work
        (subst (λ l. Contains l y) whole (Contains-append_left (taken ++ y ∷ []) rest y (Contains-append_right taken (y ∷ []) y (contains_first y [])))) produces.facts notes.facts;
    caused = λ r h. taken_stays inputs (facts_of lines) taken (y ∷ []) r (was.caused r h);
    fresh_caused = λ r h. elim (notes.causes r h) [
      | inl old ↦ taken_stays inputs (facts_of lines) taken (y ∷ []) r (was.fresh_caused r old)
      | inr made ↦ inr (
        first_facts inputs lines r.fact (λ x in_roots. was.work.ordered.level.complete x (roots_stay (rules_of inputs) was.work.rank x in_roots)) made.1,
        subst (λ l. option_and_then (in_lines l) (citing inputs (taken ++ y ∷ []) r.fact) ≡ Some r.cause) whole
            (more_lines (taken ++ y ∷ []) rest (citing inputs (taken ++ y ∷ []) r.fact) r.cause
            (new_caused inputs taken y r (λ follows. elim (was.work.work.complete r.fact follows) [ inl known ↦ made.1 known | inr noted ↦ made.2 noted ]) (produces.cited r made.0))),
      )
    ];
  }

  -- all lines are taken up: the fresh ones, in order, are the next level
  pub closing_next : (lines fresh sorted : List Reason) → IsClosing inputs lines (facts_of lines) fresh → IsWithin fresh sorted → IsWithin sorted fresh → NoRepeats (facts_of sorted) → Ascends fact_key (facts_of sorted) → IsClosing inputs (lines ++ sorted) (facts_of lines) []
  closing_next lines fresh sorted was to from distinct ascends = record {
    work = subst (λ l. IsWork (rules_of inputs) fact_key l (facts_of lines) []) (sym (facts_more lines sorted))
        (work_next (rules_of inputs) fact_key (facts_of lines) (facts_of fresh) (facts_of sorted) was.work (facts_within fresh sorted to) (facts_within sorted fresh from) distinct ascends);
    caused = λ r h. subst (λ l. IsCaused inputs l (facts_of lines) r) (sym (facts_more lines sorted)) (elim (Contains-append_cases lines sorted r h) [
      | inl old ↦ lines_stays inputs (facts_of lines) (facts_of sorted) (facts_of lines) r (was.caused r old)
      | inr new ↦ lines_stays inputs (facts_of lines) (facts_of sorted) (facts_of lines) r (was.fresh_caused r (from r new))
    ]);
    fresh_caused = λ r h. absurd (contains_nothing r h);
  }

  -- all lines are taken up, and nothing is fresh: these are the reasons
  pub closing_last : (lines : List Reason) → IsClosing inputs lines (facts_of lines) [] → IsReasons inputs lines
  closing_last lines was = record {
    facts = work_last (rules_of inputs) fact_key (facts_of lines) was.work;
    causes = λ r h. caused_last inputs (facts_of lines) r (was.caused r h);
  }

  -- where some of what was brought up has no room, there are too many facts
  pub closing_forced : (lines : List Reason) (taken : List Fact) (fresh : List Reason) (y : Fact) (brought : List Reason)
      → Contains (facts_of lines) y → IsClosing inputs lines taken fresh → Produces inputs taken y brought → IsTooMuch (facts_of lines) brought fresh inputs.setting.max_facts → HasTooManyFacts inputs
  closing_forced lines taken fresh y brought here was produces much =
      let facts : List Fact = facts_of lines in
      let noted : List Fact = facts_of much.new in
      let follows : (x : Fact) → Contains (facts_of brought) x → FollowsFrom (rules_of inputs) (Contains facts) x =
      λ x h. follows_more (λ z held. elim (Contains-push_cases taken y z held) [ inl old ↦ was.work.within z old | inr same ↦ subst (Contains facts) same here ]) (produces.facts.sound x h) in
      too_many inputs (facts ++ (noted ++ much.next.fact ∷ []))
      (more_forced (rules_of inputs) facts (noted ++ much.next.fact ∷ []) (level_forced (rules_of inputs) was.work.rank facts was.work.ordered.level) (record {
        sound = λ x h. elim (Contains-push_cases noted much.next.fact x h) [
          | inl old ↦ elim (much.noted.facts.sound x old) [
            | inl was_fresh ↦ follows_more was.work.within (was.work.work.sound x was_fresh)
            | inr made ↦ follows x (facts_within much.done brought much.within x made)
          ]
          | inr same ↦ subst (FollowsFrom (rules_of inputs) (Contains facts)) same (follows much.next.fact (map_contains (λ (q : Reason). q.fact) brought much.next much.brings))
        ];
        apart = λ x h known. elim (Contains-push_cases noted much.next.fact x h) [
          | inl old ↦ elim (much.noted.facts.fresh x old) [ inl was_fresh ↦ was.work.work.apart x was_fresh known | inr unknown ↦ unknown known ]
          | inr same ↦ much.unknown (subst (Contains facts) (sym same) known)
        ];
        distinct = no_repeats_push noted much.next.fact (much.noted.facts.distinct was.work.work.distinct) much.unnoted;
      }))
      (let a = length-append facts (noted ++ much.next.fact ∷ []) in
      let b = length-append noted (much.next.fact ∷ []) in
      let c = much.more in
      let d = length-map lines (λ (q : Reason). q.fact) in
      let e = length-map much.new (λ (q : Reason). q.fact) in
      omega (arith, a, b, c, d, e))
