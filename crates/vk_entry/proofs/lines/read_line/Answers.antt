use Rattle.vk_entry.proofs.LineForms.{not_text}
use Rattle.vk_entry.proofs.lines.read_line.Goals as goal

pub returns-in-Err : goal.returns-in-Err
returns-in-Err c = not_text c.args.line.now c.in-Err.ensures.cases.0
