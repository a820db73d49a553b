use Rattle.std.proofs.Common.{arith}
use Rattle.vk_worklist.proofs.ArrangeLemmas.{arranged_swap}
use Rattle.vk_worklist.proofs.orders.exchange.Goals as goal

pub returns-then-other-len : goal.returns-then-other-len
returns-then-other-len c =
    arranged_swap c.args.settled c.args.one c.args.other c.args.lines.now.entries c.swap_indices.new.self.entries c.if-settled-one.true c.if-settled-other.true
    (omega (arith, c.if-one-len.true, c.len.ensures.len)) (omega (arith, c.if-other-len.true, c.len-then-settled-other.ensures.len)) c.swap_indices.ensures.entries
