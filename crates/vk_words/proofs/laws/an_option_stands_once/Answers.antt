use Rattle.vk_words.proofs.OnceLemmas.{stands_once, names_are_apart}
use Rattle.vk_words.proofs.laws.an_option_stands_once.Goals as goal

pub returns-clause-once : goal.returns-clause-once
returns-clause-once c = stands_once

pub returns-clause-apart : goal.returns-clause-apart
returns-clause-apart c = names_are_apart
