use Rattle.std.proofs.Common.{sym, subst}
use Rattle.vk_files.specs.Notes.{AreRight}
use Rattle.vk_world.specs.ManifestNotes.{IsNoteOf}
use Rattle.vk_opening.specs.Views.{layout_view}
use Rattle.vk_world.proofs.libraries.Library.new.Goals as goal

pub returns-clause-right : goal.returns-clause-right
returns-clause-right c files = record {
  homes = c.new.ensures.right (layout_view c.args.layout) files;
  manifests = subst (AreRight (IsNoteOf (layout_view c.args.layout) files)) (sym c.new-2.ensures) tt;
}
