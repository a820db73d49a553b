use Rattle.vk_resolution.proofs.RootFactLemmas.{root_facts_mean, root_features_are_needed}
use Rattle.vk_resolution.proofs.roots.the_root_is_asked_what_it_says.Goals as goal

pub returns-clause-facts : goal.returns-clause-facts
returns-clause-facts c = root_facts_mean

pub returns-clause-needed : goal.returns-clause-needed
returns-clause-needed c = root_features_are_needed
