use Rattle.std.proofs.Common.{◌+◌, refl, ap}
use Rattle.vk_spec.proofs.AskLemmas.{asked_nothing, asked_then, pages_before}
use Rattle.vk_model.specs.FactViews.{fact_view}
use Rattle.vk_faults.specs.Met.{met_on}
use Rattle.vk_faults.specs.Notes.{IsNoted, noted}
use Rattle.vk_faults.proofs.NoteLemmas.{noted_more, nothing_noted}
use Rattle.vk_faults.proofs.EntryLemmas.{nothing_keyed}
use Rattle.vk_faults.proofs.notes.notes_of.Goals as goal

pub loop-reason-init : goal.loop-reason-init
loop-reason-init g c = record {
  line = refl;
  keyed = nothing_keyed c.new-notes.result.entries c.new-notes.ensures.empty c.new-notes.ensures.ordered;
  asked = asked_nothing (g.C.Catalogue.state c.args.cat.now);
  noted = nothing_noted (g.C.Catalogue.state c.args.cat.now).pages c.new-notes.result.entries c.new-notes.ensures.empty;
}

pub loop-reason-preserved : goal.loop-reason-preserved
loop-reason-preserved g c = record {
  line = ap (λ n. n + 1) c.loop-reason.invariant.line;
  keyed = c.in_ok-note_fact.ensures.keyed;
  asked = asked_then c.loop-reason.invariant.asked c.in_ok-note_fact.ensures.asked;
  noted = noted_more (g.C.Catalogue.state c.args.cat.now).pages c.args.reasons.now c.loop-reason.reason-index (c.loop-reason.line + 1) c.reason-item.result (noted c.loop-reason.notes.entries) (noted c.note_fact.new.notes.entries)
      c.loop-reason-test.true c.reason-item.is (ap (λ n. n + 1) c.loop-reason.invariant.line) c.loop-reason.invariant.noted
      (pages_before (λ pages. IsNoted (met_on pages (fact_view c.reason-item.result.fact)) (c.loop-reason.line + 1) (noted c.loop-reason.notes.entries) (noted c.note_fact.new.notes.entries)) c.loop-reason.invariant.asked c.in_ok-note_fact.ensures.noted);
}
