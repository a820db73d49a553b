use Rattle.std.proofs.Common.{◌∙◌, ap, sym}
use Rattle.vk_check.specs.Lines.{without_feed}
use Rattle.vk_check.proofs.CutLemmas.{feed_dropped, feed_missing}
use Rattle.vk_check.proofs.lines.before_feed.Goals as goal

pub returns-in-Some : goal.returns-in-Some
returns-in-Some c = sym (ap without_feed c.in-Some.ensures.0 ∙ feed_dropped c.in-Some.before.now c.in-Some.field-0-1.now c.in-Some.ensures.1)

pub returns-in-None : goal.returns-in-None
returns-in-None c = sym (feed_missing c.args.line.now c.in-None.ensures)
