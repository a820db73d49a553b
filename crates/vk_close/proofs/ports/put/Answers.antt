use Rattle.vk_close.proofs.KnownLemmas.{put_keeps}
use Rattle.vk_close.proofs.ports.put.Goals as goal

pub returns-clause-seats : goal.returns-clause-seats
returns-clause-seats c = put_keeps c.args.ports.now.entries c.insert.new.self.entries c.args.key _ c.in_ok-insert.ensures.entries
