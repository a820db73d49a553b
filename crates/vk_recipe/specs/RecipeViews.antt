-- What contracts see of a recorded build: plain data.
use Rattle.std.specs.Prelude.{List, map, option_map}
use Rattle.vk_base.specs.FeatureViews.{feature_view}
use Rattle.vk_expr.specs.Views.{condition_of}
use Rattle.vk_recipe.specs.Recipes as plain
use Rattle.vk_recipe.specs.RecipeReading as reading
use Rattle.vk_recipe.specs.declared.recipes.Action.{Action}
use Rattle.vk_recipe.specs.declared.recipes.Action.TheVariants as action
use Rattle.vk_recipe.specs.declared.recipes.Step.{Step}
use Rattle.vk_recipe.specs.declared.reading.Origin.{Origin}
use Rattle.vk_recipe.specs.declared.reading.Terms.{Terms}

abbrev pub action_view : Action → plain.Action
action_view (action.Copy file) = plain.copy file
action_view (action.Write text) = plain.write text
action_view (action.Take file from host) = plain.take file from host
action_view action.Info = plain.info

abbrev pub step_view : Step → plain.Step
step_view s = record {
  action = action_view s.action;
  to = s.to;
  platform = condition_of s.platform;
  feature = option_map feature_view s.feature;
}

abbrev pub steps_view : List Step → List plain.Step
steps_view = map step_view

abbrev pub terms_view : Terms → reading.Terms
terms_view t = record {
  platform = condition_of t.platform;
  feature = option_map feature_view t.feature;
}

abbrev pub origin_view : Origin → reading.Origin
origin_view o = record { from = o.from; host = o.host }
