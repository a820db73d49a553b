use Rattle.std.proofs.Common.{arith}
use Rattle.vk_model.specs.SettingViews.{instance_view}
use Rattle.vk_abi_text.specs.Views.{dep_view}
use Rattle.vk_abi_text.proofs.Lasts.{instance_decides, tells_last}
use Rattle.vk_abi_text.proofs.gathering.is_last_instance.Goals as goal

pub returns-in-len1-up : goal.returns-in-len1-up
returns-in-len1-up c =
    tells_last dep_view (λ d. d.instance) c.args.deps.now c.last-item.result (instance_view c.args.inst.now) c.eq.result _ c.eq.ensures (omega (arith, c.in-len1-up.len_at_least)) c.last-item.is
    (instance_decides (instance_view c.last-item.result.inst) (instance_view c.args.inst.now))
