use Rattle.vk_version.proofs.WrittenLemmas.{semantic_is_relaxed}
use Rattle.vk_version.proofs.laws.semantic_is_relaxed.Goals as goal

pub returns : goal.returns
returns c = semantic_is_relaxed
