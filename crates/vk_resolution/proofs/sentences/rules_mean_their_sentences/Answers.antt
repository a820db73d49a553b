use Rattle.vk_resolution.proofs.SentenceLemmas.{asked_means, rules_mean}
use Rattle.vk_resolution.proofs.CauseLemmas.{causes_mean}
use Rattle.vk_resolution.proofs.sentences.rules_mean_their_sentences.Goals as goal

pub returns-clause-asked : goal.returns-clause-asked
returns-clause-asked c = asked_means

pub returns-clause-follows : goal.returns-clause-follows
returns-clause-follows c = rules_mean

pub returns-clause-causes : goal.returns-clause-causes
returns-clause-causes c = causes_mean
