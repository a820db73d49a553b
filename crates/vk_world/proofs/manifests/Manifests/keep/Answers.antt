use Rattle.std.proofs.Common.{sym, ap, subst}
use Rattle.vk_version.specs.AskViews.{ask_view}
use Rattle.vk_files.specs.Notes.{AreRight}
use Rattle.vk_files.proofs.NotedLemmas.{noted}
use Rattle.vk_world.specs.ManifestNotes.{IsManifestOf, IsNoteOf, kept_manifest}
use Rattle.vk_world.specs.PortAsks.{same_asked}
use Rattle.vk_world.proofs.NoteLemmas.{key_is, right_put}
use Rattle.vk_world.proofs.manifests.Manifests.keep.Goals as goal

pub returns-clause-right : goal.returns-clause-right
returns-clause-right c layout files right new =
    subst (AreRight (IsNoteOf layout files)) (sym (ap (noted kept_manifest) c.in_ok-insert.ensures.entries))
    (right_put (IsNoteOf layout files) kept_manifest same_asked key_is c.args.self.now.found.entries c.args.key c.in_ok-kept.kept right
    (subst (IsManifestOf layout files c.args.key.port (ask_view c.args.key.ask)) (sym c.in_ok-kept.ensures.told) new))
