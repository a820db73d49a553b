use Rattle.std.proofs.Common.{ap, ◌++◌, ◌∷◌, [], ◌∙◌}
use Rattle.vk_base.proofs.PathLemmas.{steps_next}
use Rattle.vk_base.proofs.paths.steps_text.Goals as goal

pub loop-preserved : goal.loop-preserved
loop-preserved c = c.in_ok-push_str.ensures.ok ∙ ap (λ t. t ++ 46 ∷ 46 ∷ 47 ∷ []) c.loop.invariant ∙ steps_next c.loop.counter
