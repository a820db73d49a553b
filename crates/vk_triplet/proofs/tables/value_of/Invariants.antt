use Rattle.std.proofs.Common.{◌≡◌, take}
use Rattle.std.specs.Str.{IsUtf8}
use Rattle.vk_triplet.specs.TripletReadings.{value_of}
use Rattle.vk_triplet.proofs.tables.value_of.Given as goal

abbrev pub invariant-loop-variable : goal.invariant-loop-variable
invariant-loop-variable l = record { text : IsUtf8 l.value; value : l.value ≡ value_of l.name (take l.variable-index l.vars) }
