use Rattle.std.proofs.Common.{◌<◌, subst}
use Rattle.vk_shared.proofs.SizeLemmas.{too_many}
use Rattle.vk_shared.proofs.stocks.room_left.Goals as goal

pub returns-then-size-left : goal.returns-then-size-left
returns-then-size-left c = too_many c.args.files.now c.loop-file.file-index c.file-item.result c.loop-file.left c.args.room c.loop-file-test.true c.file-item.is c.loop-file.invariant (subst (λ n. c.loop-file.left < n) c.size_of-size.ensures c.if-size-left.true)
