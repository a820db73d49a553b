-- What contracts see of a job: plain data.
use Rattle.std.specs.Prelude.{map}
use Rattle.vk_base.specs.FeatureViews.{feature_view}
use Rattle.vk_model.specs.SettingViews.{instance_view}
use Rattle.vk_spec.specs.Paths.{Path}
use Rattle.vk_recipe.specs.Builds as plain
use Rattle.vk_recipe.specs.Recipes as plain_recipe
use Rattle.vk_recipe.specs.RecipeViews.{action_view}
use Rattle.vk_recipe.specs.declared.recipes.Action.{Action}
use Rattle.vk_recipe.specs.declared.jobs.Child.{Child}
use Rattle.vk_recipe.specs.declared.jobs.Job.{Job}

abbrev pub child_view : Child → plain.Child
child_view c = record { instance = instance_view c.inst.now; files = c.package.now }

abbrev pub job_view : Job → plain.Job
job_view j = record {
  instance = instance_view j.item.now.inst;
  version = j.item.now.version;
  features = map feature_view j.item.now.features;
  marks = j.marks.now.names;
  folder = j.folder.now;
  children = map child_view j.deps.now;
}

abbrev pub made_view : Action × Path → plain_recipe.Action × Path
made_view made = (action_view made.0, made.1)
