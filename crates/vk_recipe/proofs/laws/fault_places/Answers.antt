use Rattle.vk_recipe.proofs.TellingLemmas.{recipe_stands}
use Rattle.vk_recipe.proofs.laws.fault_places.Goals as goal

pub returns : goal.returns
returns c = recipe_stands
