use Rattle.std.proofs.Common.{ap, ◌∙◌}
use Rattle.std.proofs.Output.{has_written_of_eq}
use Rattle.vk_base.specs.Tokens.{token_of}
use Rattle.vk_base.proofs.PathTextLemmas.{left_token}
use Rattle.vk_base.proofs.path_texts.PathTokenDisplay.fmt.Goals as goal

pub returns-clause-writes : goal.returns-clause-writes
returns-clause-writes g c = λ plain fine.
    has_written_of_eq _ _ _ _ _ (left_token c.all_left-left.result ∙ ap token_of c.all_left-left.ensures) (c.write.ensures.writes plain fine)
