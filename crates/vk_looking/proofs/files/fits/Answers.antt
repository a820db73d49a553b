use Rattle.vk_looking.proofs.SizeLemmas.{too_many}
use Rattle.vk_looking.proofs.files.fits.Goals as goal

pub returns-then-line-left : goal.returns-then-line-left
returns-then-line-left c = too_many c.args.lines.now c.loop-line.line-index c.line-item.result c.loop-line.left c.args.most c.loop-line-test.true c.line-item.is c.loop-line.invariant c.if-line-left.true
