use Rattle.vk_base.proofs.TokenLemmas.{tokens_differ, token_plain}
use Rattle.vk_base.proofs.tokens.token_rule.Goals as goal

pub returns-clause-differ : goal.returns-clause-differ
returns-clause-differ c = tokens_differ

pub returns-clause-plain : goal.returns-clause-plain
returns-clause-plain c = token_plain
