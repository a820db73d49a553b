use Rattle.vk_entry.proofs.Outcomes.{read_these}
use Rattle.vk_entry.proofs.laws.a_contents_list_is_read_as_it_is_written.Goals as goal

pub returns-clause-read : goal.returns-clause-read
returns-clause-read c = read_these
