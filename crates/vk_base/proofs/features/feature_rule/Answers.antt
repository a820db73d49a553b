use Rattle.vk_base.proofs.FeatureLemmas.{feature-holds, feature-same, feature-only, reserved-only, reserved-from, bad-first}
use Rattle.vk_base.proofs.features.feature_rule.Goals as goal

pub returns-clause-holds : goal.returns-clause-holds
returns-clause-holds c = feature-holds

pub returns-clause-same : goal.returns-clause-same
returns-clause-same c = feature-same

pub returns-clause-only : goal.returns-clause-only
returns-clause-only c = feature-only

pub returns-clause-reserved : goal.returns-clause-reserved
returns-clause-reserved c = λ text. (reserved-only text, reserved-from text)

pub returns-clause-first : goal.returns-clause-first
returns-clause-first c = bad-first
