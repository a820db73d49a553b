use Rattle.std.proofs.Common.{length, map}
use denote.Shadow.{shadow}
use denote.Text.{Utf8}
use Rattle.vk_base.specs.FeatureViews.{feature_view}
use Rattle.vk_forms.proofs.FeatureForms.{GoesAlong}
use Rattle.vk_forms.proofs.features.read_named.Given as goal

abbrev pub invariant-loop-front : goal.invariant-loop-front
invariant-loop-front l = shadow (Utf8 l.last) × shadow (Utf8 l.rest) × GoesAlong l.fn.text l.last l.rest (map feature_view l.features)

abbrev pub decreases-loop-front : goal.decreases-loop-front
decreases-loop-front l = length l.rest
