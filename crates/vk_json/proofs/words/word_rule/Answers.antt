use Rattle.vk_json.proofs.WordLemmas.{words_differ}
use Rattle.vk_json.proofs.words.word_rule.Goals as goal

pub returns : goal.returns
returns c = words_differ
