use Rattle.std.proofs.Common.{sym}
use Rattle.vk_spec.proofs.AnchorLemmas.{ups_same, rooted_apart, apart_rooted}
use Rattle.vk_base.proofs.paths.same_anchor.Goals as goal

pub returns-in-false-false : goal.returns-in-false-false
returns-in-false-false c = rw (c.in-false-false.is-0, c.in-false-false.is-1) (sym (ups_same c.args.ups c.args.other_ups))

pub returns-in-true-false : goal.returns-in-true-false
returns-in-true-false c = rw (c.in-true-false.is-0, c.in-true-false.is-1) (sym (rooted_apart c.args.ups c.args.other_ups))

pub returns-in-false-true : goal.returns-in-false-true
returns-in-false-true c = rw (c.in-false-true.is-0, c.in-false-true.is-1) (sym (apart_rooted c.args.other_ups c.args.ups))
