use Rattle.std.specs.Prelude.{decimal}
use Rattle.vk_base.proofs.PathLemmas.{lacks_byte}
use Rattle.vk_forms.specs.Lines.{IsLine}
use Rattle.vk_report_reader.proofs.PlaceLemmas.{headed_some, headed_none}
use Rattle.vk_report_reader.proofs.advances.read_count.Goals as goal

pub returns-in-Some : goal.returns-in-Some
returns-in-Some c = headed_some decimal IsLine c.args.line.now c.args.word.now c.in-Some.found (rw c.in-Some.is at c.in_ok-found.ensures)

pub returns-in-None : goal.returns-in-None
returns-in-None c = headed_none decimal IsLine c.args.line.now c.args.word.now (lacks_byte 32 c.args.word.now c.requires) (rw c.in-None.is at c.in_ok-found.ensures)
