use Rattle.std.proofs.Common.{◌∙◌, sym, map}
use Rattle.vk_config.specs.Configs.{exact}
use Rattle.vk_config.specs.RegistryViews.{registry_view}
use Rattle.vk_config.proofs.FirstLemmas.{best_by_name, best_here, none_here}
use Rattle.vk_config.proofs.serving.pattern_place.Goals as goal

pub returns-in-Some-clause-best : goal.returns-in-Some-clause-best
returns-in-Some-clause-best c =
    best_by_name (map registry_view c.args.config.now.registries) c.args.port.now c.in-Some.place
    (sym (c.args.config.now.indexed (exact c.args.port.now)) ∙ sym c.by_name.ensures ∙ c.in-Some.is)

pub returns-in-None-clause-best : goal.returns-in-None-clause-best
returns-in-None-clause-best c =
    best_here (map registry_view c.args.config.now.registries) c.args.port.now _ c.by_beginning.result
    c.args.config.now.indexed (sym c.by_name.ensures ∙ c.in-None.is) c.by_beginning.ensures.found

pub returns-in-None-clause-none : goal.returns-in-None-clause-none
returns-in-None-clause-none c =
    none_here (map registry_view c.args.config.now.registries) c.args.port.now _ c.by_beginning.result
    c.args.config.now.indexed (sym c.by_name.ensures ∙ c.in-None.is) c.by_beginning.ensures.none
