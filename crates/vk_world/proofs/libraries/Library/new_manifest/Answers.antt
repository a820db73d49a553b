use Rattle.std.proofs.Common.{refl}
use Rattle.vk_version.specs.AskViews.{ask_view}
use Rattle.vk_world.proofs.LibraryLemmas.{serves_kept}
use Rattle.vk_world.proofs.libraries.Library.new_manifest.Goals as goal

pub returns-in-Ok : goal.returns-in-Ok
returns-in-Ok g c = serves_kept (ask_view c.args.key.ask) c.keep.new.self c.in_ok-found.ensures refl refl c.keep.ensures.right

pub returns-in-Err : goal.returns-in-Err
returns-in-Err g c = serves_kept (ask_view c.args.key.ask) c.keep.new.self c.in_ok-found.ensures (rw c.in-Err.is at c.keep.ensures.calm) tt c.keep.ensures.right
