use Rattle.std.proofs.Common.{◌∙◌, sym, ap}
use Rattle.std.specs.Prelude.{option_map}
use Rattle.vk_worklist.proofs.LevelLemmas.{next_at}
use Rattle.vk_worklist.proofs.levels.line_at.Goals as goal

pub returns : goal.returns
returns c = next_at c.args.lines.now.entries c.args.n (c.unwrap.result.0.now, c.unwrap.result.1.now) (sym c.get_index.ensures.entry ∙ ap (option_map (λ p. (p.0.now, p.1.now))) c.unwrap.ensures)
