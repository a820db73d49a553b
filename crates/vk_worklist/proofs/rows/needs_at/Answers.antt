use Rattle.std.proofs.Common.{ap, sym, ◌∙◌}
use Rattle.vk_worklist.specs.Rows.{needs_in}
use Rattle.vk_worklist.proofs.RowLemmas.{found_at, row_there}
use Rattle.vk_worklist.proofs.rows.needs_at.Goals as goal

pub returns : goal.returns
returns c seats port is =
    c.as_slice.ensures.value ∙ ap (λ r. r.needs.items) (sym c.index-rows-place.is) ∙ ap needs_in (sym (found_at c.args.rows.now c.args.place c.index-rows-place.result (row_there c.args.rows.now c.args.place c.index-rows-place.result c.requires c.index-rows-place.is) seats port is))
