use Rattle.vk_version.proofs.TailLemmas.{semver_numbers, semver_pre}
use Rattle.vk_version.proofs.laws.semantic_parts.Goals as goal

pub returns : goal.returns
returns c = record { numbers = semver_numbers; pre_release = semver_pre }
