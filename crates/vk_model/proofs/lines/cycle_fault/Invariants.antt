use Rattle.std.proofs.Common.{◌≡◌, ◌++◌, take, map, codes}
use Rattle.std.specs.List.{flat_map}
use Rattle.vk_resolution.specs.Settings.{inst}
use Rattle.vk_resolution.specs.Lines.{who_text}
use Rattle.vk_model.specs.SettingViews.{instance_view}
use Rattle.vk_model.proofs.lines.cycle_fault.Given as goal

abbrev pub invariant-loop-instance : goal.invariant-loop-instance
invariant-loop-instance l = l.line ≡ codes "cycle" ++ flat_map (λ i. codes " " ++ who_text (inst i)) (map instance_view (take l.instance-index l.walk))
