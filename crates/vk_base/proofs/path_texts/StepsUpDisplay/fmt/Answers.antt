use Rattle.std.proofs.Common.{◌∷◌, [], rules}
use Rattle.std.proofs.Output.{has_written_append, has_written_of_eq}
use Rattle.vk_base.specs.Paths.{steps_of}
use Rattle.vk_base.proofs.PathLemmas.{steps_next}
use Rattle.vk_base.proofs.path_texts.StepsUpDisplay.fmt.Goals as goal

pub loop-preserved : goal.loop-preserved
loop-preserved g c = λ plain.
    has_written_of_eq _ _ _ _ _ (steps_next c.loop.counter)
    (has_written_append _ _ (steps_of c.loop.counter) c.loop.f (46 ∷ 46 ∷ 47 ∷ []) c.write_str.new.self (c.loop.invariant plain) (search rules))
