use Rattle.std.proofs.Common.{refl}
use Rattle.vk_world.proofs.LearnLemmas.{learns_pure}
use Rattle.vk_world.proofs.row_manifests.manifest_for.Goals as goal

pub returns-in-Err : goal.returns-in-Err
returns-in-Err g c = rw c.no_answer.ensures (learns_pure refl (λ f known. (known, tt)))
