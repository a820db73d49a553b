use Rattle.std.proofs.Common.{refl}
use Rattle.std.specs.Fmt.{digits}
use Rattle.vk_base.specs.Tokens.{token_of}
use Rattle.vk_resolution.specs.Projects
use Rattle.vk_resolution.specs.Printouts
use Rattle.vk_resolution.proofs.PrintLemmas.{prints}
use Rattle.vk_resolution.proofs.printouts.reports_are_printed.Goals as goal

pub returns-clause-raised : goal.returns-clause-raised
unfolding token_of digits
returns-clause-raised c = prints Projects.raised_minimum Printouts.raised_minimum_printed refl

pub returns-clause-overridden : goal.returns-clause-overridden
unfolding token_of digits
returns-clause-overridden c = prints Projects.overridden Printouts.overridden_printed refl
