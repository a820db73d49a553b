-- One reason more is noted, or is one too many.
use Rattle.std.proofs.Common.{◌≡◌, ◌<◌, ◌≤◌, ◌+◌, ◌⊎◌, ℕ, Bool, true, false, List, [], ◌∷◌, ◌++◌, length, length-append, inl, inr, refl, ap, sym, ◌∙◌, subst, arith}
use Rattle.std.specs.Prelude.{Result, Ok, Err, OnOk, is_some}
use Rattle.std.specs.Map.{lookup}
use Rattle.std.proofs.lemmas.List.{map-append, length-map, append-nil, append_assoc}
use Rattle.std.specs.List.{Contains}
use Rattle.std.proofs.lemmas.List.Elements.{Contains-append_left, Contains-append_right, Contains-append_cases}
use Rattle.vk_spec.specs.Lists.{NoRepeats, IsWithin}
use Rattle.vk_spec.proofs.ListLemmas.{contains_nothing, contains_first, contains_later, contains_cases, no_repeats_append}
use Rattle.vk_resolution.specs.Asking as plain
use Rattle.vk_resolution.specs.Reasons.{Reason, facts_of}
use Rattle.vk_resolution.specs.Worklist.{Notes}
use Rattle.vk_resolution.specs.Closing.{NotesReasons, IsTooMuch}
use Rattle.vk_resolution.proofs.ClosingLemmas.{reasons_nothing, reasons_known, reasons_new, reasons_then, facts_more, facts_within}
use Rattle.vk_resolution.proofs.Members.{true_false}
use Rattle.vk_model.specs.declared.facts.Fact.{Fact}
use Rattle.vk_model.specs.declared.reasons.Cause.{Cause}
use Rattle.vk_model.specs.FactViews.{fact_view}
use Rattle.vk_worklist.specs.Entries.{reason_of, reasons_in, facts_in, IsNoted}
use Rattle.vk_worklist.specs.Orders.{is_same}
use Rattle.vk_worklist.proofs.MapLemmas.{Entries, found_contains, contains_found}

-- a fact that is at hand is one too many
pub one_too_many : (es : Entries) (x : Fact) (c : Cause) (most : ℕ) → (Contains (facts_in es) (fact_view x) → ⊥) → most < length es + 1 → IsTooMuch (facts_in es) (reason_of (x, c) ∷ []) [] most
one_too_many es x c most unknown more = record {
  done = [];
  new = [];
  noted = reasons_nothing (facts_in es) [];
  within = λ r h. absurd (contains_nothing r h);
  next = reason_of (x, c);
  brings = contains_first (reason_of (x, c)) [];
  unknown = unknown;
  unnoted = λ h. contains_nothing (fact_view x) h;
  more = (let a = length-map es reason_of in let b = length-map (reasons_in es) (λ (r : Reason). r.fact) in omega (arith, a, b, more));
}

-- one more stands behind the others, unless it is there
module _ (es new : Entries) (x : Fact) (c : Cause) (same : Contains (facts_in es) (fact_view x) → new ≡ es) (more : (Contains (facts_in es) (fact_view x) → ⊥) → new ≡ es ++ (x, c) ∷ []) where
  known_or : {P : Type 0} → (Contains (facts_in es) (fact_view x) → P) → ((Contains (facts_in es) (fact_view x) → ⊥) → P) → P
  known_or {P} known unknown = by (is_some (lookup (is_same x) es)) refl
    where
      by : (b : Bool) → is_some (lookup (is_same x) es) ≡ b → P
      by true e = known (found_contains x es e)
      by false e = unknown (λ h. true_false (is_some (lookup (is_same x) es)) (contains_found x es h) e)

  pub noted_first : IsNoted es ((x, c) ∷ []) new
  noted_first = known_or
      (λ there. record { more = []; behind = same there ∙ sym (append-nil es); noted = reasons_known (facts_in es) [] (reason_of (x, c)) (inl there) })
      (λ unknown. record { more = (x, c) ∷ []; behind = more unknown; noted = reasons_new (facts_in es) [] (reason_of (x, c)) unknown (contains_nothing (fact_view x)) })

  pub noted_few : (most : ℕ) → length es ≤ most → Contains (facts_in es) (fact_view x) ⊎ (length es + 1 ≤ most) → length new ≤ most
  noted_few most few (inl there) = let long = ap length (same there) in omega (arith, few, long)
  noted_few most few (inr room) = known_or
      (λ there. (let long = ap length (same there) in omega (arith, few, long)))
      (λ unknown. (let long = ap length (more unknown) in let pushed = length-append es ((x, c) ∷ []) in omega (arith, room, long, pushed)))

-- ---- the first of the entries are lines, and the others are fresh

pub facts_split : (first fresh all : Entries) → all ≡ first ++ fresh → facts_in all ≡ facts_in first ++ facts_in fresh
facts_split first fresh all split = ap facts_in split ∙ ap facts_of (map-append reason_of first fresh) ∙ facts_more (reasons_in first) (reasons_in fresh)

-- what stands behind all of them stands behind the fresh ones
module _ (lines : List plain.Fact) (brought fresh more : List Reason) (notes : NotesReasons (lines ++ facts_of fresh) brought [] more) where
  unknown : (x : plain.Fact) → Contains (facts_of more) x → Contains (lines ++ facts_of fresh) x → ⊥
  unknown x h known = elim (notes.facts.fresh x h) [ inl none ↦ contains_nothing x none | inr apart ↦ apart known ]

  on_line : (x : plain.Fact) → Contains lines x → Contains (lines ++ facts_of fresh) x
  on_line x h = Contains-append_left lines (facts_of fresh) x h

  among : (x : plain.Fact) → Contains (facts_of fresh) x → Contains (lines ++ facts_of fresh) x
  among x h = Contains-append_right lines (facts_of fresh) x h

  all_notes : Notes lines (facts_of brought) (facts_of fresh) (facts_of fresh ++ facts_of more)
  all_notes = record {
    kept = λ x h. Contains-append_left (facts_of fresh) (facts_of more) x h;
    sound = λ x h. elim (Contains-append_cases (facts_of fresh) (facts_of more) x h) [
      | inl was ↦ inl was
      | inr new ↦ elim (notes.facts.sound x new) [ inl none ↦ absurd (contains_nothing x none) | inr made ↦ inr made ]
    ];
    fresh = λ x h. elim (Contains-append_cases (facts_of fresh) (facts_of more) x h) [ inl was ↦ inl was | inr new ↦ inr (λ held. unknown x new (on_line x held)) ];
    complete = λ x h. elim (notes.facts.complete x h) [
      | inl known ↦ elim (Contains-append_cases lines (facts_of fresh) x known) [ inl held ↦ inl held | inr was ↦ inr (Contains-append_left (facts_of fresh) (facts_of more) x was) ]
      | inr new ↦ inr (Contains-append_right (facts_of fresh) (facts_of more) x new)
    ];
    distinct = λ each. no_repeats_append (facts_of fresh) (facts_of more) each (notes.facts.distinct tt) (λ x was new. unknown x new (among x was));
  }

  fresh_more : NotesReasons lines brought fresh (fresh ++ more)
  fresh_more = record {
    facts = subst (Notes lines (facts_of brought) (facts_of fresh)) (sym (facts_more fresh more)) all_notes;
    causes = λ r h. elim (Contains-append_cases fresh more r h) [
      | inl was ↦ inl was
      | inr new ↦ elim (notes.causes r new) [
        | inl none ↦ absurd (contains_nothing r none)
        | inr made ↦ inr (made.0, (λ held. made.1 (on_line r.fact held)), (λ was. made.1 (among r.fact was)))
      ]
    ];
  }

pub noted_behind : (first fresh all brought new : Entries) → all ≡ first ++ fresh → (noted : IsNoted all brought new) → NotesReasons (facts_in first) (reasons_in brought) (reasons_in fresh) (reasons_in (fresh ++ noted.more))
noted_behind first fresh all brought new split noted =
    subst (NotesReasons (facts_in first) (reasons_in brought) (reasons_in fresh)) (sym (map-append reason_of fresh noted.more))
    (fresh_more (facts_in first) (reasons_in brought) (reasons_in fresh) (reasons_in noted.more) (subst (λ l. NotesReasons l (reasons_in brought) [] (reasons_in noted.more)) (facts_split first fresh all split) noted.noted))

-- and what is one too many behind all of them is one too many behind the fresh ones
pub much_behind : (first fresh all brought : Entries) (most : ℕ) → all ≡ first ++ fresh → IsTooMuch (facts_in all) (reasons_in brought) [] most → IsTooMuch (facts_in first) (reasons_in brought) (reasons_in fresh) most
much_behind first fresh all brought most split much =
    let whole : facts_in all ≡ facts_in first ++ facts_in fresh = facts_split first fresh all split in
    record {
      done = much.done;
      new = reasons_in fresh ++ much.new;
      noted = fresh_more (facts_in first) much.done (reasons_in fresh) much.new (subst (λ l. NotesReasons l much.done [] much.new) whole much.noted);
      within = much.within;
      next = much.next;
      brings = much.brings;
      unknown = λ h. much.unknown (subst (λ l. Contains l much.next.fact) (sym whole) (Contains-append_left (facts_in first) (facts_in fresh) much.next.fact h));
      unnoted = λ h. elim (Contains-append_cases (facts_in fresh) (facts_of much.new) much.next.fact (subst (λ l. Contains l much.next.fact) (facts_more (reasons_in fresh) much.new) h)) [
        | inl was ↦ much.unknown (subst (λ l. Contains l much.next.fact) (sym whole) (Contains-append_right (facts_in first) (facts_in fresh) much.next.fact was))
        | inr new ↦ much.unnoted new
      ];
      more = (let a = ap length whole in let b = length-append (facts_in first) (facts_in fresh) in let c = length-map (reasons_in fresh) (λ (r : Reason). r.fact) in let d = length-append (reasons_in fresh) much.new in let e = much.more in omega (arith, a, b, c, d, e));
    }

-- no fact stands twice afterwards either
pub noted_distinct : (old brought new : Entries) → IsNoted old brought new → NoRepeats (facts_in old) → NoRepeats (facts_in new)
noted_distinct old brought new noted each =
    subst NoRepeats (sym (facts_split old noted.more new noted.behind))
    (no_repeats_append (facts_in old) (facts_in noted.more) each (noted.noted.facts.distinct tt) (λ x was h. elim (noted.noted.facts.fresh x h) [ inl none ↦ contains_nothing x none | inr apart ↦ apart was ]))

-- ---- one after the other, from the last on

-- the order of what is brought up doesn't matter
noted_turned : {lines : List plain.Fact} {one other a b : List Reason} → IsWithin one other → IsWithin other one → NotesReasons lines one a b → NotesReasons lines other a b
noted_turned {one = one} {other = other} to from r = record {
  facts = record {
    kept = r.facts.kept;
    sound = λ x h. elim (r.facts.sound x h) [ inl was ↦ inl was | inr made ↦ inr (facts_within one other to x made) ];
    fresh = r.facts.fresh;
    complete = λ x h. r.facts.complete x (facts_within other one from x h);
    distinct = r.facts.distinct;
  };
  causes = λ q h. elim (r.causes q h) [ inl was ↦ inl was | inr new ↦ inr (to q new.0, new.1, new.2) ];
}

at_front : (r : Reason) (done : List Reason) → IsWithin (done ++ r ∷ []) (r ∷ done)
at_front r done q h = elim (Contains-append_cases done (r ∷ []) q h) [ inl old ↦ contains_later r q done old | inr new ↦ Contains-append_left (r ∷ []) done q new ]

at_end : (r : Reason) (done : List Reason) → IsWithin (r ∷ done) (done ++ r ∷ [])
at_end r done q h = elim (contains_cases r q done h) [ inl same ↦ subst (Contains (done ++ r ∷ [])) same (Contains-append_right done (r ∷ []) r (contains_first r [])) | inr old ↦ Contains-append_left done (r ∷ []) q old ]

pub noted_more : (done a b c : Entries) (e : Fact × Cause) → IsNoted a done b → IsNoted b (e ∷ []) c → IsNoted a (e ∷ done) c
noted_more done a b c e one two = record {
  more = one.more ++ two.more;
  behind = two.behind ∙ ap (λ l. l ++ two.more) one.behind ∙ append_assoc a one.more two.more;
  noted = noted_turned (at_front (reason_of e) (reasons_in done)) (at_end (reason_of e) (reasons_in done)) (reasons_then one.noted (noted_behind a one.more b (e ∷ []) c one.behind two));
}

-- one too many of these is one too many of all
pub much_more : (rest done all a b : Entries) (e : Fact × Cause) (most : ℕ) → all ≡ rest ++ e ∷ done → IsNoted a done b → IsTooMuch (facts_in b) (reason_of e ∷ []) [] most → IsTooMuch (facts_in a) (reasons_in all) [] most
much_more rest done all a b e most split noted last =
    let much : IsTooMuch (facts_in a) (reason_of e ∷ []) (reasons_in noted.more) most = much_behind a noted.more b (e ∷ []) most noted.behind last in
    let whole : reasons_in all ≡ reasons_in rest ++ (reason_of e ∷ reasons_in done) = ap reasons_in split ∙ map-append reason_of rest (e ∷ done) in
    let among : (r : Reason) → Contains (reason_of e ∷ reasons_in done) r → Contains (reasons_in all) r = λ r h. subst (λ l. Contains l r) (sym whole) (Contains-append_right (reasons_in rest) (reason_of e ∷ reasons_in done) r h) in
    let this : (r : Reason) → Contains (reason_of e ∷ []) r → Contains (reasons_in all) r = λ r h. among r (Contains-append_left (reason_of e ∷ []) (reasons_in done) r h) in
    record {
      done = reasons_in done ++ much.done;
      new = much.new;
      noted = reasons_then noted.noted much.noted;
      within = λ r h. elim (Contains-append_cases (reasons_in done) much.done r h) [
        | inl old ↦ among r (contains_later (reason_of e) r (reasons_in done) old)
        | inr new ↦ this r (much.within r new)
      ];
      next = much.next;
      brings = this much.next much.brings;
      unknown = much.unknown;
      unnoted = much.unnoted;
      more = much.more;
    }

-- what follows of what holds where a call is done
pub done_means : {A E P Q : Type 0} (result : Result A E) → (P → Q) → OnOk result P → OnOk result Q
done_means (Ok x) f h = f h
done_means (Err e) f h = tt

pub done_both : {A E P Q R : Type 0} (result : Result A E) → (P → Q → R) → OnOk result P → OnOk result Q → OnOk result R
done_both (Ok x) f g h = f g h
done_both (Err e) f g h = tt
