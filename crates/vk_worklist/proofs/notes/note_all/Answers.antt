use Rattle.std.proofs.Common.{◌∙◌, ◌∷◌, ◌++◌, [], ap}
use Rattle.std.proofs.lemmas.List.{append_assoc}
use Rattle.std.proofs.lemmas.Result.{err_from_is_err_and}
use Rattle.vk_worklist.proofs.NoteLemmas.{noted_more, much_more}
use Rattle.vk_worklist.proofs.EndLemmas.{fault_means}
use Rattle.vk_worklist.proofs.notes.note_all.Goals as goal

pub loop-fact-preserved : goal.loop-fact-preserved
loop-fact-preserved c = record {
  done = (c.in-Some.fact, c.in-Some.cause) ∷ c.loop-fact.invariant.done;
  split = c.loop-fact.invariant.split ∙ ap (λ l. l ++ c.loop-fact.invariant.done) c.in-Some.ensures.items ∙ append_assoc c.pop.new.self.items ((c.in-Some.fact, c.in-Some.cause) ∷ []) c.loop-fact.invariant.done;
  noted = noted_more c.loop-fact.invariant.done c.args.lines.now.entries c.loop-fact.lines.entries c.note.new.lines.entries (c.in-Some.fact, c.in-Some.cause) c.loop-fact.invariant.noted c.in_ok-note.ensures.ok;
  few = c.in_ok-note.ensures.few;
}

pub returns-in_err-note-clause-facts : goal.returns-in_err-note-clause-facts
returns-in_err-note-clause-facts c =
    let p = err_from_is_err_and c.from_residual.result c.from_residual.ensures.1 in
    rw (p.1, p.2) (fault_means c.in_err-note.field-0.0 c.args.most (much_more c.pop.new.self.items c.loop-fact.invariant.done c.args.brought.now.items c.args.lines.now.entries c.loop-fact.lines.entries (c.in-Some.fact, c.in-Some.cause) c.args.most
    (c.loop-fact.invariant.split ∙ ap (λ l. l ++ c.loop-fact.invariant.done) c.in-Some.ensures.items ∙ append_assoc c.pop.new.self.items ((c.in-Some.fact, c.in-Some.cause) ∷ []) c.loop-fact.invariant.done)
    c.loop-fact.invariant.noted) c.in_err-note.ensures.facts)
