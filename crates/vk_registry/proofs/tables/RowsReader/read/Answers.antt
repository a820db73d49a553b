use Rattle.std.proofs.Common.{map}
use Rattle.vk_json.specs.Values.{view}
use Rattle.vk_registry.specs.TableViews.{row_view}
use Rattle.vk_registry.proofs.TableLemmas.{rows_read}
use Rattle.vk_registry.proofs.tables.RowsReader.read.Goals as goal

pub invariant_of-result : goal.invariant_of-result
invariant_of-result c = (
  c.in_ok-rows.ensures.keys,
  rows_read (view c.args.value.now) (map row_view c.in_ok-rows.rows) c.in_ok-rows.ensures.read,
)
