use Rattle.std.proofs.Common.{refl}
use Rattle.vk_opening.proofs.StoreLemmas.{registries_seen}
use Rattle.vk_opening.proofs.stores.outer_folders.Goals as goal

pub returns : goal.returns
returns c =
    rw (c.in_ok-push_folders-2.ensures, c.in_ok-push_folders.ensures, c.in_ok-push_default.ensures, c.in_ok-push_registries.ensures, c.new-outer.ensures, c.as_slice.ensures, c.as_slice-2.ensures, c.as_slice-3.ensures, c.as_slice-4.ensures, c.as_slice-5.ensures, registries_seen c.args.project.now.folder c.args.config.now.registries) refl
