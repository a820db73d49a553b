use Rattle.vk_check.proofs.CutLemmas.{split_ended, split_last}
use Rattle.vk_check.proofs.lines.split_line.Goals as goal

pub returns-in-Some-clause-lines : goal.returns-in-Some-clause-lines
returns-in-Some-clause-lines c = split_ended c.args.text.now c.in-Some.line.now c.in-Some.field-0-1.now c.split_at.result.0.now c.split_at.result.1.now c.in-Some.ensures.0 c.in-Some.ensures.1 c.split_at.ensures.front c.split_at.ensures.back

pub returns-in-None-clause-lines : goal.returns-in-None-clause-lines
returns-in-None-clause-lines c = split_last c.args.text.now c.split_at-in-None.result.0.now c.split_at-in-None.result.1.now c.in-None.ensures c.split_at-in-None.ensures.front c.split_at-in-None.ensures.back
