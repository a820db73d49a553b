use Rattle.vk_registry.proofs.TableLemmas.{table_read}
use Rattle.vk_registry.proofs.TableLemmas.{one_row}
use Rattle.vk_registry.proofs.tables.table_rule.Goals as goal

pub returns-clause-table : goal.returns-clause-table
returns-clause-table c = table_read

pub returns-clause-one : goal.returns-clause-one
returns-clause-one c rows ask place other table one two =
    one_row rows ask place other table.distinct one two
