use Rattle.std.proofs.Common.{ap, sym, ◌∙◌}
use Rattle.std.specs.Prelude.{option_map}
use Rattle.vk_spec.proofs.ListLemmas.{find_by}
use Rattle.vk_model.specs.SettingViews.{instance_view}
use Rattle.vk_recipe.specs.Builds.{is_own}
use Rattle.vk_recipe.specs.JobViews.{child_view}
use Rattle.vk_recipe.proofs.sources.own_child.Goals as goal

pub returns : goal.returns
returns c =
    ap (option_map child_view) c.first_own.ensures
    ∙ sym (find_by child_view (is_own (instance_view c.args.job.now.item.now.inst) c.args.port.now) c.args.job.now.deps.now)
