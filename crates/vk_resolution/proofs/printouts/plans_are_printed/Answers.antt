use Rattle.std.specs.Prelude.{[], ◌∷◌, codes}
use Rattle.std.proofs.Common.{refl}
use Rattle.std.specs.Fmt.{digits}
use Rattle.vk_base.specs.Tokens.{token_of}
use Rattle.vk_resolution.specs.Projects
use Rattle.vk_resolution.specs.Printouts
use Rattle.vk_resolution.proofs.PrintLemmas.{tells}
use Rattle.vk_resolution.proofs.printouts.plans_are_printed.Goals as goal

pub returns-clause-realistic : goal.returns-clause-realistic
unfolding token_of digits
returns-clause-realistic c = tells Projects.realistic Printouts.realistic_told 29 refl

pub returns-clause-feature : goal.returns-clause-feature
unfolding token_of digits
returns-clause-feature c = tells Projects.new_feature (codes "1 a x64-linux 2.0#0 15 core,x" ∷ codes "2 c x64-linux 1#0 9 core" ∷ []) 18 refl
