use Rattle.vk_base.specs.FeatureViews.{feature_view}
use Rattle.vk_version.specs.AskViews.{ask_view}
use Rattle.vk_model.specs.SettingViews.{setting_view, instance_view}
use Rattle.vk_worklist.specs.Entries.{reasons_in}
use Rattle.vk_close.proofs.AloneLemmas.{visit_follows, visit_alone}
use Rattle.vk_close.proofs.page_askers.PageAsker.see.Goals as goal

pub ask_visit-requires-clause-visited : goal.ask_visit-requires-clause-visited
ask_visit-requires-clause-visited g c =
    visit_follows (g.C.Catalogue.state c.args.cat.now).pages (setting_view c.args.self.now.setting.now) (instance_view c.in-Visit.inst) (feature_view c.in-Visit.feature) (ask_view c.in-Visit.ask) (rw c.in-Visit.is at c.requires.follows)

pub returns-in_ok-clear-in-Visit-clause-brought : goal.returns-in_ok-clear-in-Visit-clause-brought
returns-in_ok-clear-in-Visit-clause-brought g c =
    rw c.in-Visit.is (visit_alone (setting_view c.args.self.now.setting.now) c.args.line (reasons_in c.args.brought.now.items) _ (g.C.Catalogue.state c.args.cat.now).pages (instance_view c.in-Visit.inst) (feature_view c.in-Visit.feature) (ask_view c.in-Visit.ask) c.in_ok-clear-in-Visit.ensures.brought)
