use Rattle.std.proofs.Common.{◌≡◌, ◌++◌, take}
use Rattle.std.specs.Prelude.{flat_map}
use Rattle.vk_root.specs.Requirers.{requirer_view}
use Rattle.vk_rules.specs.Asked.{facts_view, use_need}
use Rattle.vk_rules.proofs.asking.push_uses.Given as goal

abbrev pub invariant-loop-wanted : goal.invariant-loop-wanted
invariant-loop-wanted l = facts_view l.facts ≡ facts_view l.initial.facts ++ flat_map (use_need (requirer_view l.who) l.marks.names) (take l.wanted-index l.uses)
