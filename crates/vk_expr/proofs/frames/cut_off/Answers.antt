use Rattle.std.proofs.Common.{◌∙◌, sym}
use Rattle.vk_expr.proofs.FrameLemmas.{cut_nothing, cut_around, cut_pending}
use Rattle.vk_expr.proofs.frames.cut_off.Goals as goal

pub returns-in-None : goal.returns-in-None
returns-in-None c =
    sym (cut_nothing c.args.length c.loop-frames.frames c.pop.new.self c.in-None.ensures.last c.in-None.ensures.rest)
    ∙ c.loop-frames.invariant

pub returns-in-Some-Around : goal.returns-in-Some-Around
returns-in-Some-Around c =
    let here = c.in-Some-Around in
    sym (cut_around c.args.length here.at here.field-0-1 c.loop-frames.frames c.pop.new.self here.field-0 here.ensures.last here.field-0-is)
    ∙ c.loop-frames.invariant

pub loop-frames-preserved-in-Some-Pending-3 : goal.loop-frames-preserved-in-Some-Pending-3
loop-frames-preserved-in-Some-Pending-3 c = sym (cut_pending c.args.length c.loop-frames.frames c.pop.new.self c.in-Some-Pending.field-0 c.in-Some-Pending.ensures.last c.in-Some-Pending.field-0-is) ∙ c.loop-frames.invariant
