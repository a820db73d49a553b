use Rattle.std.proofs.Common.{refl}
use Rattle.vk_entry.proofs.LineForms.{no_form}
use Rattle.vk_entry.proofs.reading.take_line.Goals as goal

pub returns-in-None : goal.returns-in-None
returns-in-None c = (no_form c.args.line.now (rw c.in-None.is at c.in_ok-read_line.ensures), refl)
