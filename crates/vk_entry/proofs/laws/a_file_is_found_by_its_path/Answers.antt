use Rattle.vk_entry.proofs.PackageRules.{file_found, found_of, none_found}
use Rattle.vk_entry.proofs.laws.a_file_is_found_by_its_path.Goals as goal

pub returns-clause-found : goal.returns-clause-found
returns-clause-found c = file_found

pub returns-clause-only : goal.returns-clause-only
returns-clause-only c = found_of

pub returns-clause-none : goal.returns-clause-none
returns-clause-none c = none_found
