use Rattle.std.proofs.Common.{◌∙◌}
use Rattle.vk_spec.proofs.SinkLemmas.{sent_more}
use Rattle.vk_tree.proofs.sending.send.Goals as goal

pub loop-rest-preserved : goal.loop-rest-preserved
loop-rest-preserved g c =
    let more = sent_more c.args.bytes.now c.loop-rest.invariant.1 c.loop-rest.rest.now c.split_at.result.1.now c.in-Ok.count c.loop-rest.invariant.2 c.loop-rest.invariant.3 c.in-Ok.ensures c.if-count-eq0.false c.split_at.ensures.back in
    (c.in-Ok.ensures.failures ∙ c.loop-rest.invariant.0, more.0, more.1, more.2)
