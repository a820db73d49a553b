use Rattle.vk_gen.proofs.LawLemmas.{table_held, older_held, newer_held, no_other}
use Rattle.vk_gen.proofs.laws.each_port_has_two_versions.Goals as goal

pub returns-clause-table : goal.returns-clause-table
returns-clause-table c = table_held

pub returns-clause-older : goal.returns-clause-older
returns-clause-older c = older_held

pub returns-clause-newer : goal.returns-clause-newer
returns-clause-newer c = newer_held

pub returns-clause-others : goal.returns-clause-others
returns-clause-others c = no_other
