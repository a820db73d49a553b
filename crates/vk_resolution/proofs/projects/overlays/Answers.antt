use Rattle.vk_resolution.proofs.ProjectLemmas.{unsupported_port}
use Rattle.vk_resolution.proofs.projects.overlays.Goals as goal

pub returns : goal.returns
returns c = record { refused = unsupported_port }
