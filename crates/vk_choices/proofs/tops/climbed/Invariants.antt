use Rattle.std.proofs.Common.{take}
use Rattle.vk_choices.specs.Tops.{LeadsUp}
use Rattle.vk_choices.proofs.tops.climbed.Given as goal

abbrev pub invariant-loop-place : goal.invariant-loop-place
invariant-loop-place l = LeadsUp l.floors (take l.place l.floors) l.version l.top
