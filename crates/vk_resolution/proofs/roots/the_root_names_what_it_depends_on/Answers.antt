use Rattle.vk_resolution.proofs.RootNameLemmas.{named_means, off_list_is_one}
use Rattle.vk_resolution.proofs.roots.the_root_names_what_it_depends_on.Goals as goal

pub returns-clause-named : goal.returns-clause-named
returns-clause-named c = named_means

pub returns-clause-off : goal.returns-clause-off
returns-clause-off c = off_list_is_one
