use Rattle.vk_resolution.proofs.WorkLemmas.{work_first, work_more, work_next, work_last}
use Rattle.vk_resolution.proofs.worklists.a_worklist_ends_in_the_least_list.Goals as goal

pub returns : goal.returns
returns g c = record { first = work_first; more = work_more; next = work_next; last = work_last }
