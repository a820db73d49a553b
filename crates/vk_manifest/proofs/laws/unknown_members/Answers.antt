use Rattle.vk_manifest.proofs.KeyLemmas.{manifest_same, dependency_same, use_same, feature_same, override_same}
use Rattle.vk_manifest.proofs.laws.unknown_members.Goals as goal

pub returns-clause-manifest : goal.returns-clause-manifest
returns-clause-manifest c = λ root ms ns agree. manifest_same ms ns root agree

pub returns-clause-dependency : goal.returns-clause-dependency
returns-clause-dependency c = dependency_same

pub returns-clause-feature_use : goal.returns-clause-feature_use
returns-clause-feature_use c = use_same

pub returns-clause-feature : goal.returns-clause-feature
returns-clause-feature c = λ name ms ns agree. feature_same ms ns name agree

pub returns-clause-version_override : goal.returns-clause-version_override
returns-clause-version_override c = λ earlier ms ns agree. override_same ms ns earlier agree
