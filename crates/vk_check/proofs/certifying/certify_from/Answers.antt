use Rattle.vk_worklist.specs.Entries.{reasons_in}
use Rattle.vk_check.proofs.StepLemmas.{lines_first, lines_lack}
use Rattle.vk_check.proofs.certifying.certify_from.Goals as goal

pub returns-then-not-note_all-clause-certified : goal.returns-then-not-note_all-clause-certified
returns-then-not-note_all-clause-certified g c =
    lines_lack (g.C.Catalogue.state c.args.cat.now).pages (g.S.Source.setting c.args.source.now) (reasons_in c.args.lines.now.entries) (reasons_in c.args.given.now.items) c.requires.roots
    (rw c.if-not-note_all.true at c.note_all.ensures.there)

pub certify_lines-requires-clause-certified : goal.certify_lines-requires-clause-certified
certify_lines-requires-clause-certified g c =
    lines_first (g.C.Catalogue.state c.args.cat.now).pages (g.S.Source.setting c.args.source.now) (reasons_in c.args.lines.now.entries) (reasons_in c.args.given.now.items) c.in_ok-marks.marks.items c.note_all.new.marks.items
    c.requires.roots c.in_ok-marks.ensures.none (c.note_all.ensures.marks c.if-not-note_all.false) (rw c.if-not-note_all.false at c.note_all.ensures.there)
