use Rattle.std.proofs.Common.{◌∙◌, sym}
use Rattle.vk_spec.proofs.ListLemmas.{any_by}
use Rattle.vk_resolution.specs.Settings.{same_instance}
use Rattle.vk_model.specs.SettingViews.{instance_view}
use Rattle.vk_rules.proofs.setting_rules.Rules.is_off.Goals as goal

pub returns : goal.returns
returns c =
    rw (← c.self.view_is)
    (c.contains.ensures ∙ c.self.invariant c.args.instance.now ∙ sym (any_by instance_view (same_instance (instance_view c.args.instance.now)) c.self.inside.setting.now.off))
