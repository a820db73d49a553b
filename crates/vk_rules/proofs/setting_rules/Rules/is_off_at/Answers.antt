use Rattle.std.proofs.Common.{◌∙◌, sym}
use Rattle.vk_spec.proofs.ListLemmas.{any_by}
use Rattle.vk_resolution.specs.Settings.{same_instance}
use Rattle.vk_base.specs.declared.instances.Instance.{Instance}
use Rattle.vk_model.specs.SettingViews.{instance_view}
use Rattle.vk_root.proofs.OffSetLemmas.{nothing_there}
use Rattle.vk_rules.proofs.setting_rules.Rules.is_off_at.Goals as goal

pub returns-then-is_empty : goal.returns-then-is_empty
returns-then-is_empty c =
    let j : Instance = record { port = c.args.port.now; triplet = c.args.triplet.now } in
    rw (← c.self.view_is)
    (nothing_there c.self.inside.off.keys j (c.is_empty.ensures.0 c.if-is_empty.true) ∙ c.self.invariant j ∙ sym (any_by instance_view (same_instance (instance_view j)) c.self.inside.setting.now.off))
