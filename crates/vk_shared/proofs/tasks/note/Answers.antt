use Rattle.vk_shared.proofs.TaskLemmas.{is_noted}
use Rattle.vk_shared.proofs.tasks.note.Goals as goal

pub returns : goal.returns
returns c = is_noted c.args.digests.now.keys c.insert.new.self.keys c.args.digest c.in_ok-new.new c.in_ok-new.ensures.added c.in_ok-new.ensures.keys
