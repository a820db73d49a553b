use Rattle.vk_recipe.proofs.LawLemmas.{package_built, paths_built, apart_built}
use Rattle.vk_recipe.proofs.laws.package_rule.Goals as goal

pub returns : goal.returns
returns c = record { ordered = package_built; paths = paths_built; apart = apart_built }
