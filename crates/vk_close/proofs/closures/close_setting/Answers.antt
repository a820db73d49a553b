use Rattle.std.proofs.Common.{refl}
use Rattle.vk_close.proofs.closures.close_setting.Goals as goal

pub close_by-closed-requires-clause-limit : goal.close_by-closed-requires-clause-limit
close_by-closed-requires-clause-limit g c = refl
