use Rattle.std.proofs.Common.{◌≡◌, ◌<◌, ℕ}
use Rattle.std.specs.Prelude.{None, slice_get}
use Rattle.vk_planned.specs.Flaws.{flaw_in}
use Rattle.vk_planset.proofs.sets.none_kept.Given as goal

abbrev pub invariant-loop-flaw : goal.invariant-loop-flaw
invariant-loop-flaw l = (m : ℕ) → m < l.flaw-index → flaw_in (slice_get l.flaws m) ≡ None
