use Rattle.vk_base.proofs.NameLemmas.{rule_from_no_fault, no_fault_from_rule, breaks_first}
use Rattle.vk_base.proofs.names.triplet_rule.Goals as goal

pub returns-clause-holds : goal.returns-clause-holds
returns-clause-holds c = rule_from_no_fault _

pub returns-clause-only : goal.returns-clause-only
returns-clause-only c = no_fault_from_rule _

pub returns-clause-first : goal.returns-clause-first
returns-clause-first c = breaks_first _
