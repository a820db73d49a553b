-- How far the lines of reasons are certified: some are taken up, and lines are marked that these show.
use Rattle.std.specs.Prelude.{◌≡◌, ◌↔◌, ◌⊎◌, ℕ, Bool, true, false, List, [], Some, take, get_or, slice_get}
use Rattle.std.specs.List.{Contains}
use Rattle.vk_spec.specs.Lists.{IsWithin}
use Rattle.vk_resolution.specs.Least.{FollowsFrom}
use Rattle.vk_resolution.specs.Asking.{Fact, root_facts_of}
use Rattle.vk_resolution.specs.Consequences.{Inputs, rules_of}
use Rattle.vk_resolution.specs.Reasons.{Reason, facts_of, IsShownBy, IsDerivation}
use Rattle.vk_worklist.specs.Alone.{Follows}

-- a line, counted from 0, is marked
abbrev pub IsMarked : List Bool → ℕ → Type 0
IsMarked marks n = get_or marks n false ≡ true

-- the lines of these reasons are marked besides
pub record MarksMore (lines : List Reason) (old new : List Bool) (noted : List Reason) : Type 0 where
  pub each : (n : ℕ) (r : Reason) → slice_get lines n ≡ Some r → IsMarked new n ↔ (IsMarked old n ⊎ Contains noted r)

-- the marked lines are those that these facts show
pub record MarksShown (inputs : Inputs) (lines : List Reason) (taken : List Fact) (marks : List Bool) : Type 0 where
  pub each : (n : ℕ) (r : Reason) → slice_get lines n ≡ Some r → IsMarked marks n ↔ IsShownBy inputs taken r

-- so many lines are taken up: they are a derivation, all that follows from them stands on a line, and the lines are marked that they show
pub record IsCertified (inputs : Inputs) (lines : List Reason) (n : ℕ) (marks : List Bool) : Type 0 where
  pub shown : MarksShown inputs lines (take n (facts_of lines)) marks
  pub derivation : IsDerivation inputs [] (take n lines)
  pub reached : (x : Fact) → Contains (take n (facts_of lines)) x → Follows inputs x
  pub roots : IsWithin (root_facts_of inputs.setting) (facts_of lines)
  pub steps : (x : Fact) → FollowsFrom (rules_of inputs) (Contains (take n (facts_of lines))) x → Contains (facts_of lines) x
