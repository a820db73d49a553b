use Rattle.std.proofs.Common.{ap, map}
use Rattle.std.proofs.lemmas.Result.{IfOk-weaker}
use Rattle.vk_base.specs.FeatureViews.{feature_view}
use Rattle.vk_model.specs.SettingViews.{setting_view}
use Rattle.vk_planned.proofs.RootLemmas.{roots_all}
use Rattle.vk_planned.proofs.roots.put_all.Goals as goal

pub returns : goal.returns
returns c =
    IfOk-weaker c.put_default.result _ _ (λ done last. roots_all (setting_view c.args.setting.now) c.name-triplet.result.now (map feature_view c.as_slice.result.now) c.name-triplet.ensures (ap (map feature_view) c.as_slice.ensures) c.in_ok-put_feature.ensures c.in_ok-put_features.ensures last) c.put_default.ensures
