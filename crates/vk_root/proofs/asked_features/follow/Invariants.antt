use Rattle.std.proofs.Common.{ℕ, Bool, List, ◌-◌, ◌^◌, []}
use Rattle.vk_resolution.specs.Settings.{first_features_of, root_rules_of}
use Rattle.vk_root.specs.Roots.{setting_at}
use Rattle.vk_root.specs.AskedNames.{Grows, IsAskedSoFar}
use Rattle.vk_root.proofs.asked_features.follow.Given as goal

abbrev pub invariant-loop-n : goal.invariant-loop-n
invariant-loop-n l = (words : List (List ℕ)) (defaults : Bool) → Grows [] l.initial.names.keys (first_features_of (setting_at l.root words defaults [] 0)) → IsAskedSoFar (root_rules_of (setting_at l.root words defaults [] 0)) l.n l.names.keys

abbrev pub decreases-loop-n : goal.decreases-loop-n
decreases-loop-n l = 2 ^ 63 - l.n
