use Rattle.std.proofs.Common.{refl}
use Rattle.vk_walk.specs.Walked.{walk_limits}
use Rattle.vk_walk.proofs.WalkTells.{walk_tells}
use Rattle.vk_walk.proofs.laws.a_walk_tells_the_files.Goals as goal

pub returns : goal.returns
returns c = λ folder d. walk_tells walk_limits folder d refl
