use Rattle.std.specs.Fmt.{HasWritten, IsPlainFormatter}
use Rattle.vk_base.specs.Paths.{steps_of}
use Rattle.vk_base.proofs.path_texts.StepsUpDisplay.fmt.Given as goal

abbrev pub invariant-loop : goal.invariant-loop
invariant-loop g l = IsPlainFormatter l.initial.f → HasWritten g.W.Write.write_str_gives l.initial.f (steps_of l.counter) l.f
