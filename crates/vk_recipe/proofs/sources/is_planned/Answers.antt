use Rattle.std.proofs.Common.{sym}
use Rattle.std.specs.Str.{bytes_eq}
use Rattle.vk_base.specs.FeatureViews.{feature_view}
use Rattle.vk_spec.proofs.ListLemmas.{any_by}
use Rattle.vk_recipe.proofs.sources.is_planned.Goals as goal

pub returns-in-Some : goal.returns-in-Some
returns-in-Some c =
    rw (c.in-Some.is, c.has_name.ensures, c.as_str.ensures)
    (sym (any_by feature_view (bytes_eq (feature_view c.in-Some.feature)) c.args.features.now))
