use Rattle.std.proofs.Common.{map}
use Rattle.std.proofs.Output.{has_written_of_eq}
use Rattle.vk_base.specs.FeatureViews.{feature_view}
use Rattle.vk_model.proofs.FeatureLines.{features_joined}
use Rattle.vk_recipe.proofs.sources.FeaturesDisplay.fmt.Goals as goal

pub returns-in-Some-clause-writes : goal.returns-in-Some-clause-writes
returns-in-Some-clause-writes g c = λ plain fine.
    let cut = rw c.in-Some.is at c.split_first.ensures.cases in
    has_written_of_eq _ _ _ _ _
    (rw (cut.0, c.as_bytes.ensures.value, c.as_str.ensures) (features_joined (feature_view c.in-Some.first.now) (map feature_view c.in-Some.rest.now)))
    (c.write.ensures.writes plain fine)
