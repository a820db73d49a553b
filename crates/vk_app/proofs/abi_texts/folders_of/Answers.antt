use Rattle.std.proofs.Common.{◌∷◌, [], map, length-append, arith}
use Rattle.std.proofs.lemmas.Result.{err_from_is_err_and}
use Rattle.vk_spec.proofs.AskLemmas.{asked_then}
use Rattle.vk_model.specs.FaultViews.{item_view}
use Rattle.vk_world.specs.Worlds.{state_of}
use Rattle.vk_app.proofs.FolderLemmas.{have_item, item_there, folders_more, stands_before}
use Rattle.vk_app.proofs.abi_texts.folders_of.Goals as goal

pub folder_of-requires : goal.folder_of-requires
folder_of-requires g c = have_item (state_of g.T.Tree.state c.args.world.now) (state_of g.T.Tree.state c.loop-item.world) (map item_view c.args.items.now) (item_view c.item-item.result) c.loop-item.invariant.2
    (item_there c.args.items.now c.loop-item.item-index c.item-item.result c.loop-item-test.true c.item-item.is) c.requires

pub returns-in_err-folder-clause-asked : goal.returns-in_err-folder-clause-asked
returns-in_err-folder-clause-asked g c =
    let p = err_from_is_err_and c.from_residual.result c.from_residual.ensures.1 in rw (p.1, p.2) (asked_then c.loop-item.invariant.2 c.in_err-folder.ensures.asked)

pub returns-in_err-push-clause-asked : goal.returns-in_err-push-clause-asked
returns-in_err-push-clause-asked g c =
    let p = err_from_is_err_and c.from_residual-in_err-push.result c.from_residual-in_err-push.ensures.1 in rw (p.1, p.2) (asked_then c.loop-item.invariant.2 c.in_ok-folder.ensures.asked)

pub loop-item-preserved : goal.loop-item-preserved
loop-item-preserved g c = (
  rw (c.in_ok-push.ensures.ok) (folders_more (state_of g.T.Tree.state c.args.world.now) c.args.items.now c.loop-item.item-index c.item-item.result c.loop-item.folders c.in_ok-folder.folder c.loop-item-test.true c.item-item.is c.loop-item.invariant.0
      (stands_before (state_of g.T.Tree.state c.args.world.now) (state_of g.T.Tree.state c.loop-item.world) (item_view c.item-item.result ∷ []) (c.in_ok-folder.folder ∷ []) c.loop-item.invariant.2 c.in_ok-folder.ensures.stands)),
  rw (c.in_ok-push.ensures.ok) (omega (arith, c.loop-item.invariant.1, length-append c.loop-item.folders (c.in_ok-folder.folder ∷ []))),
  asked_then c.loop-item.invariant.2 c.in_ok-folder.ensures.asked,
)
