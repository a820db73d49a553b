use Rattle.vk_expr.proofs.ReadingLaws.{one_reading}
use Rattle.vk_expr.proofs.laws.one_reading.Goals as goal

pub returns : goal.returns
returns c = one_reading
