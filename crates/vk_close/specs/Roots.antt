-- The root facts with their cause.
use Rattle.std.specs.Prelude.{ℕ, List}
use Rattle.vk_resolution.specs.Settings.{root}
use Rattle.vk_resolution.specs.Asking.{need}
use Rattle.vk_resolution.specs.Consequences.{by_root}
use Rattle.vk_resolution.specs.Reasons.{Reason}

-- a feature of the root, for the target's triplet, is needed
abbrev pub root_reason : List ℕ → List ℕ → Reason
root_reason triplet f = record { fact = need (root triplet) f; cause = by_root }
