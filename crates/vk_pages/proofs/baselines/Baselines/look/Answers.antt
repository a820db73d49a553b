use Rattle.std.proofs.Common.{◌∙◌, sym, ap, refl}
use Rattle.std.specs.Option.{is_some}
use Rattle.vk_files.proofs.NotedLemmas.{none_noted, placed_note}
use Rattle.vk_pages.specs.BaselineNotes.{same_served}
use Rattle.vk_pages.specs.NoteViews.{read_view}
use Rattle.vk_files.proofs.FindLemmas.{finds_here}
use Rattle.vk_pages.proofs.baselines.Baselines.look.Goals as goal

pub returns-in-Some-clause-there : goal.returns-in-Some-clause-there
returns-in-Some-clause-there g c = placed_note read_view (same_served c.args.served.now) c.args.self.now.read.entries c.in-Some.place c.in-Some.ensures.index c.in-Some.ensures.within c.in-Some.ensures.value

pub note-requires : goal.note-requires
note-requires g c = none_noted read_view (same_served c.args.served.now) c.args.self.now.read.entries (sym c.get_index_of.ensures.found ∙ ap is_some c.in-None.is)

pub returns-in-Some-clause-noted : goal.returns-in-Some-clause-noted
returns-in-Some-clause-noted g c = finds_here refl (λ f. refl)
