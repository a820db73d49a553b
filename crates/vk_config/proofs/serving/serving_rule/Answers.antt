use Rattle.vk_config.proofs.ServingLaws.{one_registry, served_exactly, unserved}
use Rattle.vk_config.proofs.serving.serving_rule.Goals as goal

pub returns : goal.returns
returns c = record { place = served_exactly; none = unserved; one = one_registry }
