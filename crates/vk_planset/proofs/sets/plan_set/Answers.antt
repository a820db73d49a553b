use Rattle.std.proofs.Common.{map, subst, sym}
use Rattle.vk_spec.specs.Catalogues.{OnlyAsked}
use Rattle.vk_resolution.specs.Planner.{inputs_of}
use Rattle.vk_resolution.specs.Reasons.{facts_of}
use Rattle.vk_model.specs.FactViews.{fact_view, reasons_view}
use Rattle.vk_model.specs.FaultViews.{item_view}
use Rattle.vk_model.specs.SettingViews.{setting_view}
use Rattle.vk_planset.specs.Sets.{IsSet}
use Rattle.vk_planset.proofs.SetLemmas.{judged_on, set_on_pages, third_on_pages}
use Rattle.vk_planset.proofs.sets.plan_set.Goals as goal

pub returns-clause-set : goal.returns-clause-set
returns-clause-set g c =
    let planned = c.in_ok-planned.planned in
    let setting = setting_view c.args.setting.now in
    let reasons = reasons_view c.args.reasons.now in
    let entries = c.args.choices.now.ports.entries in
    let needs = map fact_view planned.needs.keys in
    let pages = (g.C.Catalogue.state c.args.cat.now).pages in
    set_on_pages reasons entries needs planned.edges.items planned.flaws.items setting (λ s setting pages. IsSet (inputs_of setting pages) (facts_of reasons) (map item_view s.items)) c.set_of.result pages
    (judged_on reasons entries needs planned.edges.items planned.flaws.items setting pages c.requires.clear c.requires.choices c.in_ok-planned.ensures.graph c.in_ok-planned.ensures.flaws) c.set_of.ensures.set

pub returns-clause-faults : goal.returns-clause-faults
returns-clause-faults g c =
    let planned = c.in_ok-planned.planned in
    let setting = setting_view c.args.setting.now in
    let reasons = reasons_view c.args.reasons.now in
    let entries = c.args.choices.now.ports.entries in
    let needs = map fact_view planned.needs.keys in
    let pages = (g.C.Catalogue.state c.args.cat.now).pages in
    third_on_pages reasons entries needs planned.edges.items planned.flaws.items setting c.set_of.result pages
    (judged_on reasons entries needs planned.edges.items planned.flaws.items setting pages c.requires.clear c.requires.choices c.in_ok-planned.ensures.graph c.in_ok-planned.ensures.flaws) c.set_of.ensures.faults

pub returns-clause-asked : goal.returns-clause-asked
returns-clause-asked g c = subst (λ failed. OnlyAsked failed (g.C.Catalogue.state c.args.cat.now) (g.C.Catalogue.state c.plan_needs.new.cat)) (sym c.set_of.ensures.calm) c.in_ok-planned.ensures.asked
