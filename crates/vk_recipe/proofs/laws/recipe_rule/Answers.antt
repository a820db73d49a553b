use Rattle.vk_recipe.proofs.TellingLemmas.{few_steps, goes_right}
use Rattle.vk_recipe.proofs.laws.recipe_rule.Goals as goal

pub returns : goal.returns
returns c = record { few = few_steps; paths = goes_right }
