use Rattle.vk_resolution.proofs.HeightLemmas.{height_is_one_more, height_there, targets_heights}
use Rattle.vk_resolution.proofs.heights.a_height_is_one_more_than_those_below.Goals as goal

pub returns-clause-more : goal.returns-clause-more
returns-clause-more c = height_is_one_more

pub returns-clause-targets : goal.returns-clause-targets
returns-clause-targets c = targets_heights

pub returns-clause-exists : goal.returns-clause-exists
returns-clause-exists c = height_there
