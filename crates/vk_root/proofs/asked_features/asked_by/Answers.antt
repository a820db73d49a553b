use Rattle.vk_base.specs.FeatureViews.{feature_view}
use Rattle.vk_root.specs.Roots.{root_setting}
use Rattle.vk_root.proofs.AskedNameLemmas.{asked_made}
use Rattle.vk_root.proofs.asked_features.asked_by.Goals as goal

pub returns : goal.returns
returns c =
    asked_made (root_setting c.args.root) (feature_view c.args.feature.now) c.own_marks-marks.result.now.names c.dependencies_of.result.now c.defaults_of.result.now
    c.new-names.result c.push_all.new.names c.push_uses.new.names c.new-names.ensures c.in_ok-push_all.ensures c.in_ok-push_uses.ensures
    c.own_marks-marks.ensures c.dependencies_of.ensures c.defaults_of.ensures
