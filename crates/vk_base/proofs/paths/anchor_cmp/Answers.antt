use Rattle.std.proofs.Common.{sym}
use Rattle.vk_spec.proofs.AnchorLemmas.{rooted_after, rooted_before, ups_order}
use Rattle.vk_base.proofs.paths.anchor_cmp.Goals as goal

pub returns-in-true-false : goal.returns-in-true-false
returns-in-true-false c = rw (c.in-true-false.is-0, c.in-true-false.is-1) (sym (rooted_after c.args.ups c.args.other_ups))

pub returns-in-false-true : goal.returns-in-false-true
returns-in-false-true c = rw (c.in-false-true.is-0, c.in-false-true.is-1) (sym (rooted_before c.args.other_ups c.args.ups))

pub returns-in-false-false : goal.returns-in-false-false
returns-in-false-false c = rw (c.in-false-false.is-0, c.in-false-false.is-1, c.cmp.ensures) (sym (ups_order c.args.ups c.args.other_ups))
