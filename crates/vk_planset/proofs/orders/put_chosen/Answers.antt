use Rattle.std.proofs.Common.{subst, map}
use Rattle.std.specs.Prelude.{OnOk}
use Rattle.vk_planset.proofs.MemberLemmas.{done_means}
use Rattle.vk_model.specs.SettingViews.{instance_view}
use Rattle.vk_planset.specs.Members.{HasMore}
use Rattle.vk_planset.proofs.OrderLemmas.{put_more}
use Rattle.vk_planset.proofs.orders.put_chosen.Goals as goal

pub returns-in-Some : goal.returns-in-Some
returns-in-Some c =
    subst (λ l. OnOk c.put.result (HasMore (map instance_view c.args.set.now.keys) l (map instance_view c.put.new.set.keys))) c.in-Some.ensures
    (done_means c.put.result (put_more c.args.set.now.keys c.put.new.set.keys c.in-Some.inst.now) c.put.ensures)
