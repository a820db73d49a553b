use Rattle.std.proofs.Common.{◌-◌, ◌+◌, arith}
use Rattle.vk_worklist.proofs.ArrangeLemmas.{arranged_swap, arranged_then, sifted_back, sifted_last}
use Rattle.vk_worklist.proofs.orders.sift.Goals as goal

pub loop-lines-preserved : goal.loop-lines-preserved
loop-lines-preserved c =
    let place = c.loop-lines.place in
    let es = c.loop-lines.lines.entries in
    let fs = c.swap_indices.new.self.entries in
    let goes = c.loop-lines-test.ensures in
    let long = c.loop-lines.invariant.arranged.long in
    record {
      from = omega (arith, goes.0);
      to = omega (arith, c.loop-lines.invariant.to);
      arranged = arranged_then c.args.settled c.args.lines.now.entries es fs c.loop-lines.invariant.arranged
          (arranged_swap c.args.settled (place - 1) place es fs (omega (arith, goes.0)) c.loop-lines.invariant.from (omega (arith, goes.0, long, c.requires.within, c.loop-lines.invariant.to)) (omega (arith, long, c.requires.within, c.loop-lines.invariant.to)) c.swap_indices.ensures.entries);
      sifted = sifted_back c.args.settled (c.args.at + 1) place es fs goes.0 (omega (arith, c.loop-lines.invariant.to)) (omega (arith, long, c.requires.within)) c.loop-lines.invariant.sifted goes.1 c.swap_indices.ensures.entries;
    }

pub returns-clause-order : goal.returns-clause-order
returns-clause-order c = sifted_last c.args.settled (c.args.at + 1) c.loop-lines.place c.loop-lines.lines.entries c.loop-lines.invariant.sifted c.loop-lines-test.ensures
