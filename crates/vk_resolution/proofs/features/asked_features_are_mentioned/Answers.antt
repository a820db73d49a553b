use Rattle.vk_resolution.proofs.MentionLemmas.{asked_is_mentioned, mentioned_is_closed}
use Rattle.vk_resolution.proofs.features.asked_features_are_mentioned.Goals as goal

pub returns-clause-asked : goal.returns-clause-asked
returns-clause-asked c = asked_is_mentioned

pub returns-clause-closed : goal.returns-clause-closed
returns-clause-closed c = mentioned_is_closed
