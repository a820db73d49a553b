use Rattle.vk_resolution.proofs.ClosingLemmas.{closing_first, closing_more, closing_next, closing_last, closing_forced}
use Rattle.vk_resolution.proofs.worklists.a_worklist_of_reasons_ends_in_the_reasons.Goals as goal

pub returns : goal.returns
returns c = record { first = closing_first; more = closing_more; next = closing_next; last = closing_last; forced = closing_forced }
