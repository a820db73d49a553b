use Rattle.vk_recipe.proofs.FaultLemmas.{all_done, is_built, lacks_source, clashes}
use Rattle.vk_recipe.proofs.laws.step_rule.Goals as goal

pub returns : goal.returns
returns c = record { done = all_done; built = is_built; no_source = lacks_source; double_path = clashes }
