use Rattle.vk_resolution.proofs.ProjectLemmas.{damaged_manifest}
use Rattle.vk_resolution.proofs.projects.bad_files.Goals as goal

pub returns : goal.returns
returns c = record { manifest = damaged_manifest }
