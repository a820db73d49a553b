use Rattle.vk_abi.proofs.Existence.{texts_exist}
use Rattle.vk_abi.proofs.Uniques.{texts_are_one}
use Rattle.vk_abi.proofs.laws.a_plan_has_texts_or_passes_a_limit.Goals as goal

pub returns-clause-exists : goal.returns-clause-exists
returns-clause-exists c = texts_exist

pub returns-clause-one : goal.returns-clause-one
returns-clause-one c = texts_are_one
