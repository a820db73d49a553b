use Rattle.std.proofs.Common.{◌∷◌, [], refl, sym, subst, arith}
use Rattle.vk_model.specs.FactViews.{cause_view, fact_view}
use Rattle.vk_worklist.specs.Entries.{reason_of, reasons_in}
use Rattle.vk_check.specs.Certifying.{MarksMore}
use Rattle.vk_check.proofs.EntryLemmas.{get_contains}
use Rattle.vk_check.proofs.MarkLemmas.{marks_one}
use Rattle.vk_check.proofs.marks.note.Goals as goal

pub returns-in-Some-clause-there : goal.returns-in-Some-clause-there
returns-in-Some-clause-there c = get_contains (reasons_in c.args.lines.now.entries) c.in-Some.place (record { fact = fact_view c.args.fact; cause = cause_view c.in-Some.claimed }) c.in-Some.ensures.found

pub returns-in-Some-clause-marks : goal.returns-in-Some-clause-marks
returns-in-Some-clause-marks c = λ goes.
    subst (λ new. MarksMore (reasons_in c.args.lines.now.entries) c.args.marks.now.items new (reason_of (c.args.fact, c.args.cause) ∷ [])) (sym c.mark.ensures)
    (marks_one (reasons_in c.args.lines.now.entries) c.requires.distinct c.args.marks.now.items c.in-Some.place (record { fact = fact_view c.args.fact; cause = cause_view c.in-Some.claimed }) (reason_of (c.args.fact, c.args.cause)) c.is_same.result
    c.in-Some.ensures.found refl (omega (arith, c.requires.long, c.in-Some.ensures.within)) c.is_same.ensures)
