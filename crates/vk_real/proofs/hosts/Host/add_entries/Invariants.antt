use Rattle.vk_real.specs.Listings.{AreParts}
use Rattle.vk_real.proofs.hosts.Host.add_entries.Given as goal

abbrev pub invariant-loop-entry : goal.invariant-loop-entry
invariant-loop-entry g l =
    (goal.iterator-loop-entry g).can_next l.entry-iterator
    × (goal.iterator-loop-entry g).is_finite l.entry-iterator
    × AreParts l.found.items
