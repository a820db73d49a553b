use Rattle.std.proofs.Common.{◌<◌, take}
use Rattle.vk_choices.specs.Tops.{IsHighest}
use Rattle.vk_choices.proofs.tops.highest.Given as goal

abbrev pub invariant-loop-place : goal.invariant-loop-place
invariant-loop-place l = record {
  below : l.best < l.place;
  highest : IsHighest (take l.place l.floors) l.best;
}
