use Rattle.std.proofs.Common.{false}
use Rattle.vk_spec.specs.States.{IsNarrow}
use Rattle.vk_model.specs.SettingViews.{setting_view}
use Rattle.vk_folder.specs.Folders.{ReadsOnly}
use Rattle.vk_abi.specs.Plans.{IsBelowSome}
use Rattle.vk_abi.proofs.TextLemmas.{Comes}
use Rattle.vk_abi.proofs.plans.texts.Given as goal

abbrev pub invariant-loop-at : goal.invariant-loop-at
invariant-loop-at g l =
    Comes (record { builder = l.builder; setting = setting_view l.setting; most = l.max_bytes }) l.plan.items l.folders l.at l.pairs (g.T.Tree.state l.initial.tree)
    × ReadsOnly (IsBelowSome l.folders) false (g.T.Tree.state l.initial.tree) (g.T.Tree.state l.tree)
    × IsNarrow 65536 (g.T.Tree.state l.initial.tree) (g.T.Tree.state l.tree)
