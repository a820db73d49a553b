use Rattle.vk_base.specs.Names.{word_rule}
use Rattle.vk_base.proofs.NameLemmas.{rule_from_no_fault}
use Rattle.vk_publish.proofs.names.known.Goals as goal

pub returns : goal.returns
returns c = rule_from_no_fault word_rule c.args.target.now.agent.now c.args.target.now.named
