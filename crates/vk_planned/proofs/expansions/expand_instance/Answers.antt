use Rattle.std.proofs.Common.{ap}
use Rattle.vk_base.specs.FeatureViews.{feature_view}
use Rattle.vk_model.specs.FactViews.{who_view}
use Rattle.vk_model.specs.SettingViews.{instance_view, setting_view}
use Rattle.vk_planned.specs.Manifests.{found_view}
use Rattle.vk_planned.specs.Needs.{facts_view}
use Rattle.vk_planned.proofs.ChosenLemmas.{may_ask, may_asks, may_judge}
use Rattle.vk_planned.proofs.expansions.expand_instance.Goals as goal

pub chosen_manifest-requires : goal.chosen_manifest-requires
chosen_manifest-requires g c =
    may_ask c.args.basis.now (who_view c.args.who.now) (instance_view c.args.inst.now) (feature_view c.args.feature.now) c.requires.who (g.C.Catalogue.state c.args.cat.now).pages c.requires.sound c.requires.needed

pub returns-clause-asked : goal.returns-clause-asked
returns-clause-asked g c =
    may_asks c.args.basis.now (who_view c.args.who.now) (instance_view c.args.inst.now) (feature_view c.args.feature.now) c.requires.who (setting_view c.args.basis.now.rules) (ap setting_view c.requires.ruled) (found_view c.in_ok-found.found)
    (facts_view c.in_ok-expand_found.field-0.asked) (g.C.Catalogue.state c.args.cat.now).pages c.in_ok-expand_found.ensures.asked c.requires.sound c.requires.needed c.in_ok-found.ensures.found

pub returns-clause-flaw : goal.returns-clause-flaw
returns-clause-flaw g c =
    may_judge c.args.basis.now (who_view c.args.who.now) (instance_view c.args.inst.now) (feature_view c.args.feature.now) c.requires.who (setting_view c.args.basis.now.rules) (ap setting_view c.requires.ruled) (found_view c.in_ok-found.found)
    c.in_ok-expand_found.field-0.flaw (g.C.Catalogue.state c.args.cat.now).pages c.in_ok-expand_found.ensures.flaw c.requires.sound c.requires.needed c.in_ok-found.ensures.found
