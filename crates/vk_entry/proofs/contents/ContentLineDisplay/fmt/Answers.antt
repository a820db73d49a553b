use Rattle.std.proofs.Common.{refl}
use Rattle.std.proofs.Output.{has_written_of_eq}
use Rattle.vk_entry.proofs.contents.ContentLineDisplay.fmt.Goals as goal

pub returns-clause-writes : goal.returns-clause-writes
returns-clause-writes g c = λ plain fine.
    has_written_of_eq _ _ _ _ _ refl (c.write.ensures.writes plain fine)
