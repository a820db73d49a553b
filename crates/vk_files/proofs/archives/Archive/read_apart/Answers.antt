use Rattle.vk_files.specs.Views.{kept_of}
use Rattle.vk_files.proofs.ReadLemmas.{faithful_apart}
use Rattle.vk_files.proofs.archives.Archive.read_apart.Goals as goal

pub invariant_of-self : goal.invariant_of-self
invariant_of-self g c = faithful_apart (kept_of c.self.inside.files) c.read.ensures c.self.invariant
