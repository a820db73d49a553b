use Rattle.std.proofs.Common.{refl}
use Rattle.vk_worklist.proofs.NoteLemmas.{noted_first, noted_few, one_too_many, done_both}
use Rattle.vk_worklist.proofs.notes.note.Goals as goal

pub returns-then-is_too_much-clause-facts : goal.returns-then-is_too_much-clause-facts
returns-then-is_too_much-clause-facts c =
    let new = rw c.if-is_too_much.true at c.is_too_much.ensures in
    (refl, one_too_many c.args.lines.now.entries c.args.fact c.args.cause c.args.most new.0 new.1)

pub returns-clause-ok : goal.returns-clause-ok
returns-clause-ok c = done_both c.put.result (λ same more. noted_first c.args.lines.now.entries c.put.new.lines.entries c.args.fact c.args.cause same more) c.put.ensures.known c.put.ensures.new

pub returns-clause-few : goal.returns-clause-few
returns-clause-few c =
    let room = rw c.if-is_too_much.false at c.is_too_much.ensures in
    done_both c.put.result (λ same more. noted_few c.args.lines.now.entries c.put.new.lines.entries c.args.fact c.args.cause same more c.args.most c.requires room) c.put.ensures.known c.put.ensures.new
