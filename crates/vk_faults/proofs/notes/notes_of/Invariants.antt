use Rattle.std.proofs.Common.{◌≡◌, false, take}
use Rattle.vk_spec.specs.Catalogues.{OnPages, OnlyAsked}
use Rattle.vk_resolution.specs.Reasons.{facts_of}
use Rattle.vk_model.specs.FactViews.{reasons_view}
use Rattle.vk_faults.specs.Met.{met_on}
use Rattle.vk_faults.specs.Notes.{AreKeyed, HaveFirstLines, noted}
use Rattle.vk_faults.proofs.notes.notes_of.Given as goal

abbrev pub invariant-loop-reason : goal.invariant-loop-reason
invariant-loop-reason g l = record {
  line : l.line ≡ l.reason-index;
  keyed : AreKeyed l.notes.entries;
  asked : OnlyAsked false (g.C.Catalogue.state l.initial.cat) (g.C.Catalogue.state l.cat);
  noted : OnPages (λ pages. HaveFirstLines (met_on pages) (facts_of (reasons_view (take l.reason-index l.reasons))) (noted l.notes.entries)) (g.C.Catalogue.state l.initial.cat);
}
