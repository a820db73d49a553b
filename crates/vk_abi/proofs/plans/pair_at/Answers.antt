use Rattle.std.proofs.Common.{map}
use Rattle.vk_model.specs.FaultViews.{item_view}
use Rattle.vk_model.specs.SettingViews.{instance_view}
use Rattle.vk_abi.specs.Plans.{pair_view}
use Rattle.vk_abi.specs.Written.{shared_in}
use Rattle.vk_abi.proofs.TextLemmas.{pair_told}
use Rattle.vk_abi.proofs.plans.pair_at.Goals as goal

pub returns-clause-is : goal.returns-clause-is
returns-clause-is g c =
    pair_told (shared_in c.args.job) (map (λ i. instance_view i.inst) c.args.job.items.now) (item_view c.args.item.now, c.args.folder.now) (map pair_view c.args.done.now) c.in_ok-files.files c.in_ok-pair_of.field-0 (g.T.Tree.state c.args.tree.now)
    c.in_ok-files.ensures.is (rw (c.as_slice.ensures) at c.in_ok-pair_of.ensures.pair) (rw (c.as_slice.ensures) at c.in_ok-pair_of.ensures.right) c.in_ok-files.ensures.paths
