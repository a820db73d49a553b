use Rattle.std.proofs.Common.{◌∷◌, [], refl}
use Rattle.vk_worklist.specs.declared.rows.Row.{Row}
use Rattle.vk_worklist.specs.Rows.{needs_in, floors_in}
use Rattle.vk_worklist.proofs.RowLemmas.{written_at, kept_at, row_there}
use Rattle.vk_worklist.proofs.rows.add_need.Goals as goal

pub returns-clause-needs : goal.returns-clause-needs
returns-clause-needs c =
    let w : Row = record { needs = c.push.new.self; floors = c.index_mut.result.now.floors } in
    written_at needs_in c.args.rows.now.items c.args.place w c.index_mut.result.now (c.args.line ∷ []) (row_there c.args.rows.now.items c.args.place c.index_mut.result.now c.requires c.index_mut.ensures.value) c.in_ok-push.ensures.items

pub returns-clause-floors : goal.returns-clause-floors
returns-clause-floors c =
    let w : Row = record { needs = c.push.new.self; floors = c.index_mut.result.now.floors } in
    kept_at floors_in c.args.rows.now.items c.args.place w c.index_mut.result.now (row_there c.args.rows.now.items c.args.place c.index_mut.result.now c.requires c.index_mut.ensures.value) refl
