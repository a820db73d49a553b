use Rattle.vk_entry.proofs.DifferenceLemmas.{are_same, is_extra, is_missing, seen}
use Rattle.vk_entry.proofs.differences.compare.Goals as goal

pub returns-then-has_outside : goal.returns-then-has_outside
returns-then-has_outside c = is_extra (seen c.args.found.now) (seen c.args.listed.now) c.has_outside.result c.has_outside.ensures c.if-has_outside.true

pub returns-then-has_outside-2 : goal.returns-then-has_outside-2
returns-then-has_outside-2 c =
    is_missing (seen c.args.found.now) (seen c.args.listed.now) c.has_outside.result c.has_outside-2.result c.has_outside.ensures c.has_outside-2.ensures c.if-has_outside.false c.if-has_outside-2.true

pub returns : goal.returns
returns c =
    are_same (seen c.args.found.now) (seen c.args.listed.now) c.has_outside.result c.has_outside-2.result c.has_outside.ensures c.has_outside-2.ensures c.if-has_outside.false c.if-has_outside-2.false
