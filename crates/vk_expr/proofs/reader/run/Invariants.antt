use Rattle.std.proofs.Common.{◌≡◌, drop}
use Rattle.vk_expr.specs.Tokens.{tokens_from, tokens_of}
use Rattle.vk_expr.specs.Reading.{start, steps}
use Rattle.vk_expr.specs.ReaderViews.{state_of}
use Rattle.vk_expr.proofs.reader.run.Given as goal

abbrev pub invariant-loop-at : goal.invariant-loop-at
invariant-loop-at l = steps (state_of l.state) (tokens_from l.at l.inside (drop l.at l.bytes)) ≡ steps start (tokens_of l.bytes)
