-- What a triplet file means to a plan.
use Rattle.std.specs.Prelude.{false}
use Rattle.vk_spec.specs.Settings as the
use Rattle.vk_triplet.specs.TripletReadings.{Triplet}
use Rattle.vk_triplet.specs.Marks.{marks_of}

-- its name, its bytes, and the marks that hold for its instances, but for `native`
abbrev pub meaning_of : Triplet → the.Triplet
meaning_of t = record { name = t.name; bytes = t.bytes; marks = marks_of t.variables false }
