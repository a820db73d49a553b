use Rattle.std.proofs.Common.{◌+◌, ap}
use Rattle.vk_choices.proofs.AskLemmas.{asks_more}
use Rattle.vk_choices.proofs.asks.noted.Goals as goal

pub loop-reason-preserved : goal.loop-reason-preserved
loop-reason-preserved c = record {
  line = ap (λ n. n + 1) c.loop-reason.invariant.line;
  asks = asks_more c.args.reasons.now c.loop-reason.reason-index (c.loop-reason.line + 1) c.reason-item.result c.loop-reason.rows.entries c.note_fact.new.rows.entries
      c.loop-reason-test.true c.reason-item.is (ap (λ n. n + 1) c.loop-reason.invariant.line) c.loop-reason.invariant.asks c.in_ok-note_fact.ensures;
}
