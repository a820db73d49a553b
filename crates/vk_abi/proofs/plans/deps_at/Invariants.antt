use Rattle.std.proofs.Common.{◌≡◌, map, take}
use Rattle.vk_model.specs.SettingViews.{instance_view}
use Rattle.vk_abi_text.specs.Views.{dep_view}
use Rattle.vk_abi.specs.Plans.{pair_view}
use Rattle.vk_abi.specs.Written.{deps_by}
use Rattle.vk_abi.proofs.plans.deps_at.Given as goal

abbrev pub invariant-loop-need : goal.invariant-loop-need
invariant-loop-need l = map dep_view l.deps ≡ deps_by (map (λ i. instance_view i.inst) l.items) (map pair_view l.done) (take l.need-index l.needs)
