use Rattle.std.proofs.Common.{◌≡◌, ◌++◌, take}
use Rattle.std.specs.List.{flat_map}
use Rattle.vk_triplet.specs.Marks.{marks_by}
use Rattle.vk_triplet.specs.RowViews.{row_view}
use Rattle.vk_triplet.proofs.tables.push_rows.Given as goal

abbrev pub invariant-loop-row : goal.invariant-loop-row
invariant-loop-row l = l.names ≡ l.initial.names ++ flat_map (λ r. marks_by l.vars (row_view r)) (take l.row-index l.rows)
