use Rattle.vk_entry.proofs.PackageRules.{one_package, put_has}
use Rattle.vk_entry.proofs.laws.a_package_is_its_files.Goals as goal

pub returns-clause-one : goal.returns-clause-one
returns-clause-one c = one_package

pub returns-clause-put : goal.returns-clause-put
returns-clause-put c = put_has
