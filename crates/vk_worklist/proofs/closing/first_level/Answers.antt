use Rattle.vk_worklist.proofs.EndLemmas.{first_made}
use Rattle.vk_worklist.proofs.closing.first_level.Goals as goal

pub returns-clause-ok : goal.returns-clause-ok
returns-clause-ok c = first_made c.args.given.now.items c.note_all.new.lines.entries c.next_level.new.lines.entries (rw c.requires.lines at c.in_ok-note_all.ensures.ok) c.in_ok-next_level.ensures.ok
