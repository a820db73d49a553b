use Rattle.std.proofs.Common.{take, map}
use Rattle.vk_model.specs.Views.{override_view}
use Rattle.vk_root.specs.Overrides.{ArePlaces}
use Rattle.vk_root.proofs.overrides.places_of.Given as goal

abbrev pub invariant-loop-place : goal.invariant-loop-place
invariant-loop-place l = ArePlaces (map override_view (take l.place l.overrides)) l.places.entries
