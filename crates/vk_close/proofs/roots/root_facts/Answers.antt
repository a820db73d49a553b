use Rattle.std.proofs.Common.{ap, map}
use Rattle.vk_base.specs.FeatureViews.{feature_view}
use Rattle.vk_model.specs.SettingViews.{setting_view}
use Rattle.vk_worklist.specs.Entries.{reasons_in}
use Rattle.vk_close.proofs.RootLemmas.{roots_are}
use Rattle.vk_close.proofs.roots.root_facts.Goals as goal

pub returns : goal.returns
returns c =
    roots_are (setting_view c.args.setting.now) c.name-triplet.result.now feature_view c.as_slice.result.now (reasons_in c.new-given.result.items) (reasons_in c.push_root.new.given.items) (reasons_in c.push_features.new.given.items) (reasons_in c.push_default.new.given.items)
    c.name-triplet.ensures (ap (map feature_view) c.as_slice.ensures) (ap reasons_in c.new-given.ensures.items) c.in_ok-push_root.ensures c.in_ok-push_features.ensures c.in_ok-push_default.ensures
