use Rattle.std.proofs.Common.{ap, ◌∙◌}
use Rattle.vk_resolution.specs.Lines.{fault_line}
use Rattle.vk_resolution.specs.Outcomes.{lines_of}
use Rattle.vk_model.specs.FactViews.{reasons_view}
use Rattle.vk_model.specs.FaultViews.{faults_view}
use Rattle.vk_faults.specs.Notes.{noted}
use Rattle.vk_faults.proofs.EntryLemmas.{entries_ascend}
use Rattle.vk_faults.proofs.MetLemmas.{lines_are}
use Rattle.vk_faults.proofs.firsts.first_faults.Goals as goal

pub returns-clause-faults : goal.returns-clause-faults
returns-clause-faults g c =
    lines_are (g.C.Catalogue.state c.args.cat.now).pages (reasons_view c.args.reasons.now) (noted c.in_ok-notes.notes.entries) (faults_view c.in_ok-sorted.field-0)
    (entries_ascend c.in_ok-notes.notes.entries c.in_ok-notes.ensures.keyed) c.in_ok-notes.ensures.noted (c.in_ok-sorted.ensures ∙ ap (lines_of fault_line) c.in_ok-faults.ensures)
