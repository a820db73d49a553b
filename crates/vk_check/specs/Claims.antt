-- The fact of a line.
use Rattle.std.specs.Prelude.{◌≡◌, ℕ, List, Some, slice_get}
use Rattle.vk_resolution.specs.Asking.{Fact}
use Rattle.vk_resolution.specs.Reasons.{Reason}

-- the reason of a line, counted from 0, which has this fact
pub record IsOnLine (lines : List Reason) (place : ℕ) (x : Fact) : Type 0 where
  pub reason : Reason
  pub at : slice_get lines place ≡ Some reason
  pub fact : reason.fact ≡ x
