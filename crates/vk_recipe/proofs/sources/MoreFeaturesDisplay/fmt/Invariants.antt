use Rattle.std.proofs.Common.{take, map}
use Rattle.std.specs.Fmt.{HasWritten, IsPlainFormatter}
use Rattle.vk_base.specs.FeatureViews.{feature_view}
use Rattle.vk_model.specs.Lines.{more_features_text}
use Rattle.vk_recipe.proofs.sources.MoreFeaturesDisplay.fmt.Given as goal

abbrev pub invariant-loop-feature : goal.invariant-loop-feature
invariant-loop-feature g l =
    IsPlainFormatter l.initial.f → HasWritten g.W.Write.write_str_gives l.initial.f (more_features_text (map feature_view (take l.feature-index l.self.0.now))) l.f
