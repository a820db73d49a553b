use Rattle.std.proofs.Common.{ap, ◌∙◌}
use Rattle.std.specs.Prelude.{Some}
use Rattle.std.specs.Option.{option_copied}
use Rattle.vk_world.proofs.ListedLemmas.{folder_by}
use Rattle.vk_world.proofs.answering.table_folder.Goals as goal

pub returns-in_ok-row_folder-in-Some : goal.returns-in_ok-row_folder-in-Some
returns-in_ok-row_folder-in-Some c =
    let there = folder_by c.args.registry.now c.rows.result.now c.args.table.now c.args.version.now (option_copied c.row_with.result) c.row_with.ensures c.rows.ensures.rows in
    ap Some c.in_ok-row_folder-in-Some.ensures ∙ rw c.in-Some.is at there

pub returns-in-None : goal.returns-in-None
returns-in-None c =
    let there = folder_by c.args.registry.now c.rows.result.now c.args.table.now c.args.version.now (option_copied c.row_with.result) c.row_with.ensures c.rows.ensures.rows in
    rw c.in-None.is at there
