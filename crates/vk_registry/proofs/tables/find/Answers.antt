use Rattle.vk_registry.proofs.TableLemmas.{found_at, none_at}
use Rattle.vk_registry.specs.TableViews.{row_view}
use Rattle.std.proofs.Common.{map}
use Rattle.vk_registry.proofs.tables.find.Goals as goal

pub returns-clause-found : goal.returns-clause-found
returns-clause-found c =
    rw (← c.table.view_is)
    (found_at (map row_view c.table.inside.rows) c.table.inside.asks.keys c.table.invariant.0
    c.args.ask.now c.get_index_of.result c.get_index_of.ensures.index)

pub returns-clause-none : goal.returns-clause-none
returns-clause-none c =
    rw (← c.table.view_is)
    (none_at (map row_view c.table.inside.rows) c.table.inside.asks.keys c.table.invariant.0
    c.args.ask.now c.get_index_of.result c.get_index_of.ensures.index
    c.get_index_of.ensures.found)
