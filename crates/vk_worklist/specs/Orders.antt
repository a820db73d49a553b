-- How a map of facts tells them apart, and how they are ordered.
use Rattle.std.specs.Prelude.{Bool, ◌==◌}
use Rattle.std.specs.declared.cmp.Ordering.{Ordering}
use Rattle.std.specs.Ordering.{on, nat_cmp}
use Rattle.std.specs.Cmp.Lexicographic.{slice_cmp, pointwise}
use Rattle.vk_model.specs.declared.facts.Fact.{Fact}
use Rattle.vk_model.specs.FactKeys.{key_of}

abbrev pub is_same : Fact → Fact → Bool
is_same = on key_of (pointwise (pointwise ◌==◌))

abbrev pub fact_order : Fact → Fact → Ordering
fact_order = on key_of (slice_cmp (slice_cmp nat_cmp))
