use Rattle.std.proofs.Common.{◌≡◌, ◌++◌}
use Rattle.std.specs.Vec.Iter.{into_iter_items}
use Rattle.vk_registry.specs.Baselines.{those_there}
use Rattle.vk_registry.proofs.baselines.those_there.Given as goal

abbrev pub invariant-loop-one : goal.invariant-loop-one
invariant-loop-one g l = l.there
    ++ those_there (into_iter_items l.one-iterator) ≡ those_there l.fn.found
