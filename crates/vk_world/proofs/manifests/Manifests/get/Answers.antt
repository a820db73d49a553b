use Rattle.std.proofs.Common.{◌∙◌, sym, ap}
use Rattle.std.specs.Prelude.{option_map}
use Rattle.vk_world.specs.ManifestNotes.{kept_manifest}
use Rattle.vk_files.proofs.NotedLemmas.{found_noted}
use Rattle.vk_world.specs.PortAsks.{same_asked}
use Rattle.vk_world.proofs.manifests.Manifests.get.Goals as goal

pub returns : goal.returns
returns c =
    ap (option_map kept_manifest) c.get.ensures.value
    ∙ sym (found_noted kept_manifest (same_asked c.args.key.now) c.args.self.now.found.entries)
