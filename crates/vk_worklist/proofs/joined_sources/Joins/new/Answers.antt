use Rattle.vk_resolution.specs.Planner.{inputs_of}
use Rattle.vk_worklist.proofs.RowLemmas.{rows_begin}
use Rattle.vk_worklist.proofs.joined_sources.Joins.new.Goals as goal

pub returns-clause-rows : goal.returns-clause-rows
returns-clause-rows g c pages = rows_begin (inputs_of (g.A.Asker.setting c.args.asker) pages) (g.A.Asker.seats c.args.asker) c.new.result.items c.new.ensures.items
