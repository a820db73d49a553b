use Rattle.std.proofs.Common.{◌∙◌, sym}
use Rattle.vk_tree.proofs.FileMapLemmas.{get_path}
use Rattle.vk_tree.proofs.file_maps.FileMap.get.Goals as goal

pub returns : goal.returns
returns c = rw (← c.self.view_is) (c.get.ensures.value ∙ sym (get_path c.self.inside.inner.entries c.args.path.now))
