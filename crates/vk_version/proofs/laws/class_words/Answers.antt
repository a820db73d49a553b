use Rattle.vk_version.proofs.WordLemmas.{words_differ}
use Rattle.vk_version.proofs.laws.class_words.Goals as goal

pub returns : goal.returns
returns c = words_differ
