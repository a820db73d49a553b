use Rattle.vk_entry.proofs.ContentsFound.{files_in, none_in, refused_in, told_in}
use Rattle.vk_entry.proofs.laws.a_contents_list_is_read_by_a_function.Goals as goal

pub returns-clause-files : goal.returns-clause-files
returns-clause-files c = files_in

pub returns-clause-none : goal.returns-clause-none
returns-clause-none c = none_in

pub returns-clause-refused : goal.returns-clause-refused
returns-clause-refused c = refused_in

pub returns-clause-told : goal.returns-clause-told
returns-clause-told c = told_in
