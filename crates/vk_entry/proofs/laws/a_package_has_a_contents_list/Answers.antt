use Rattle.vk_entry.proofs.PackageLists.{package_listed}
use Rattle.vk_entry.proofs.laws.a_package_has_a_contents_list.Goals as goal

pub returns : goal.returns
returns c = package_listed
