use Rattle.std.proofs.Common.{◌∙◌, ◌∷◌, ◌++◌, [], inl, inr, ap, subst}
use Rattle.std.specs.List.{Contains}
use Rattle.std.proofs.lemmas.List.{append_assoc}
use Rattle.vk_spec.proofs.ListLemmas.{contains_cases}
use Rattle.vk_model.specs.FactViews.{fact_view}
use Rattle.vk_worklist.specs.Entries.{facts_in, reason_of, reasons_in}
use Rattle.vk_check.proofs.EntryLemmas.{popped_stands}
use Rattle.vk_check.proofs.MarkLemmas.{marks_then}
use Rattle.vk_check.proofs.marks.note_all.Goals as goal

pub returns-then-not-note-clause-there : goal.returns-then-not-note-clause-there
returns-then-not-note-clause-there c = λ within.
    let missing = rw c.if-not-note.true at c.note.ensures.there in
    missing (within (fact_view c.in-Some.fact)
    (popped_stands c.args.brought.now.items c.loop-fact.brought.items c.pop.new.self.items c.loop-fact.invariant.done (c.in-Some.fact, c.in-Some.cause) c.loop-fact.invariant.split c.in-Some.ensures.items))

pub loop-fact-preserved : goal.loop-fact-preserved
loop-fact-preserved c =
    let there = rw c.if-not-note.false at c.note.ensures.there in
    record {
      done = (c.in-Some.fact, c.in-Some.cause) ∷ c.loop-fact.invariant.done;
      split = c.loop-fact.invariant.split ∙ ap (λ l. l ++ c.loop-fact.invariant.done) c.in-Some.ensures.items ∙ append_assoc c.pop.new.self.items ((c.in-Some.fact, c.in-Some.cause) ∷ []) c.loop-fact.invariant.done;
      marks = marks_then (reasons_in c.args.lines.now.entries) c.args.marks.now.items c.loop-fact.marks.items c.note.new.marks.items (reasons_in c.loop-fact.invariant.done) (reason_of (c.in-Some.fact, c.in-Some.cause) ∷ [])
          c.loop-fact.invariant.marks (c.note.ensures.marks c.if-not-note.false);
      within = λ x h. elim (contains_cases (fact_view c.in-Some.fact) x (facts_in c.loop-fact.invariant.done) h) [
        | inl same ↦ subst (Contains (facts_in c.args.lines.now.entries)) same there
        | inr later ↦ c.loop-fact.invariant.within x later
      ];
      long = c.note.ensures.long ∙ c.loop-fact.invariant.long;
    }
