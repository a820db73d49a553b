use Rattle.std.proofs.Common.{◌∙◌}
use Rattle.vk_model.specs.SettingViews.{setting_view}
use Rattle.vk_root.specs.Requirers.{requirer_view}
use Rattle.vk_root.specs.Roots.{root_setting, instance_at}
use Rattle.vk_rules.proofs.AskedLemmas.{own_same}
use Rattle.vk_rules.proofs.setting_rules.Rules.is_own.Goals as goal

pub returns : goal.returns
returns c = c.is_own.ensures ∙ own_same (root_setting c.root.result) (setting_view c.args.self.now) (requirer_view c.args.who) (instance_at c.args.port.now c.args.triplet.now) c.root.ensures.root
