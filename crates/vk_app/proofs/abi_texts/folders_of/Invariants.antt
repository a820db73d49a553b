use Rattle.std.proofs.Common.{◌≡◌, false, length, map, take}
use Rattle.vk_spec.specs.Catalogues.{OnlyAsked}
use Rattle.vk_model.specs.FaultViews.{item_view}
use Rattle.vk_world.specs.Worlds.{state_of}
use Rattle.vk_app.specs.Folders.{AreItemFolders}
use Rattle.vk_app.proofs.abi_texts.folders_of.Given as goal

abbrev pub invariant-loop-item : goal.invariant-loop-item
invariant-loop-item g l =
    AreItemFolders (map item_view (take l.item-index l.items)) l.folders (state_of g.T.Tree.state l.initial.world)
    × (length l.folders ≡ l.item-index)
    × OnlyAsked false (state_of g.T.Tree.state l.initial.world) (state_of g.T.Tree.state l.world)
