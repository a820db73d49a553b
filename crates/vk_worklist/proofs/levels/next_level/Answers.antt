use Rattle.vk_worklist.proofs.LevelLemmas.{level_of}
use Rattle.vk_worklist.proofs.NoteLemmas.{done_means}
use Rattle.vk_worklist.proofs.levels.next_level.Goals as goal

pub returns-clause-ok : goal.returns-clause-ok
returns-clause-ok c = done_means c.put_in_order.result (λ put. (level_of c.args.settled c.args.lines.now.entries c.put_in_order.new.lines.entries c.requires.distinct put).level) c.put_in_order.ensures

pub returns-clause-len : goal.returns-clause-len
returns-clause-len c = done_means c.put_in_order.result (λ put. put.arranged.long) c.put_in_order.ensures

pub returns-clause-distinct : goal.returns-clause-distinct
returns-clause-distinct c = done_means c.put_in_order.result (λ put. (level_of c.args.settled c.args.lines.now.entries c.put_in_order.new.lines.entries c.requires.distinct put).distinct) c.put_in_order.ensures
