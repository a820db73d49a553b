use Rattle.std.proofs.Common.{List, ℕ, map, subst, ◌∙◌}
use Rattle.vk_config.specs.Serving.{IsBest, NoneTakes}
use Rattle.vk_config.specs.Views.{registry_view, config_view}
use Rattle.vk_config.proofs.FirstLemmas.{found_place, default_found}
use Rattle.vk_config.proofs.serving.place_of.Goals as goal

pub returns-in-Some : goal.returns-in-Some
returns-in-Some c =
    found_place (config_view c.args.config.now) c.args.port.now c.in-Some.found
    (subst
    (λ (port : List ℕ). IsBest (map registry_view c.args.config.now.registries) port c.in-Some.found)
    (c.as_bytes.ensures.value ∙ c.as_str.ensures.text) c.in-Some.ensures.best)

pub returns-in-None : goal.returns-in-None
returns-in-None c =
    c.default_place.ensures
    ∙ default_found (config_view c.args.config.now) c.args.port.now
    (subst (λ (port : List ℕ). NoneTakes (map registry_view c.args.config.now.registries) port)
    (c.as_bytes.ensures.value ∙ c.as_str.ensures.text) c.in-None.ensures.none)
