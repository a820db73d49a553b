use Rattle.vk_resolution.proofs.ProjectLemmas.{new_feature, dropped_feature, early_feature}
use Rattle.vk_resolution.proofs.projects.a_feature_of_one_version.Goals as goal

pub returns-clause-planned : goal.returns-clause-planned
returns-clause-planned c = new_feature

pub returns-clause-refused : goal.returns-clause-refused
returns-clause-refused c = dropped_feature

pub returns-clause-early : goal.returns-clause-early
returns-clause-early c = early_feature
