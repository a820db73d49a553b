use Rattle.vk_config.specs.Views.{config_view}
use Rattle.vk_config.proofs.ServingLaws.{served, unserved}
use Rattle.vk_config.proofs.serving.registry_of.Goals as goal

pub returns-clause-found : goal.returns-clause-found
returns-clause-found c =
    rw c.place_of.ensures (served (config_view c.args.config.now) c.args.port.now)

pub returns-clause-none : goal.returns-clause-none
returns-clause-none c =
    rw c.place_of.ensures (unserved (config_view c.args.config.now) c.args.port.now)
