use Rattle.std.proofs.Common.{◌≡◌, ◌++◌, take}
use Rattle.std.specs.Prelude.{flat_map}
use Rattle.vk_model.specs.SettingViews.{setting_view}
use Rattle.vk_root.specs.Requirers.{requirer_view}
use Rattle.vk_rules.specs.Asked.{facts_view, asked_where}
use Rattle.vk_rules.proofs.setting_rules.push_all.Given as goal

abbrev pub invariant-loop-dependency : goal.invariant-loop-dependency
invariant-loop-dependency l = facts_view l.facts ≡ facts_view l.initial.facts ++ flat_map (asked_where (setting_view l.rules) (requirer_view l.who)) (take l.dependency-index l.dependencies)
