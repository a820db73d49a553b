use Rattle.vk_base.specs.FeatureViews.{feature_view}
use Rattle.vk_model.specs.SettingViews.{setting_view}
use Rattle.vk_worklist.specs.Entries.{reasons_in}
use Rattle.vk_close.proofs.AloneLemmas.{root_alone}
use Rattle.vk_close.proofs.page_askers.PageAsker.see_need.Goals as goal

pub returns-in_ok-ask_rules-in-Root-clause-brought : goal.returns-in_ok-ask_rules-in-Root-clause-brought
returns-in_ok-ask_rules-in-Root-clause-brought g c =
    rw c.in-Root.is (root_alone (setting_view c.args.self.now.setting.now) c.args.line (reasons_in c.args.brought.now.items) (reasons_in c.ask_rules.new.brought.items) (g.C.Catalogue.state c.args.cat.now).pages c.in-Root.field-0 (feature_view c.args.feature.now)
    (rw c.in-Root.is at c.in_ok-ask_rules-in-Root.ensures.brought))
