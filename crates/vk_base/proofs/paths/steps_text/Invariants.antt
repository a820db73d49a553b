use Rattle.std.proofs.Common.{◌≡◌}
use Rattle.vk_base.specs.Paths.{steps_of}
use Rattle.vk_base.proofs.paths.steps_text.Given as goal

abbrev pub invariant-loop : goal.invariant-loop
invariant-loop l = l.text ≡ steps_of l.counter
