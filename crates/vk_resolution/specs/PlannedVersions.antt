-- The version of each planned port, in the words of a manifest's author.
use Rattle.std.specs.Prelude.{◌≡◌, ℕ, true, List, Some, Ok}
use Rattle.std.specs.List.{Contains}
use Rattle.vk_spec.specs.Versions.{Version, Ask, IsOrder}
use Rattle.vk_spec.specs.Pages.{overlay, override, baseline}
use Rattle.vk_resolution.specs.Givens.{version_at}
use Rattle.vk_resolution.specs.Asking.{Fact, floor}
use Rattle.vk_resolution.specs.Consequences.{Inputs}
use Rattle.vk_resolution.specs.Reasons.{Reason, facts_of}
use Rattle.vk_resolution.specs.Planning.{Item}
use Rattle.vk_resolution.specs.Outcomes.{Printing, planned, IsOutcome}
use Rattle.vk_resolution.specs.Laws.{IsAboveFloors}

-- the least of the versions at or above the floors: the baseline's is a floor, and so is each minimum
pub record IsLeastAllowed (inputs : Inputs) (facts : List Fact) (p : List ℕ) (a : Ask) (v : Version) : Type 0 where
  pub baseline : Contains facts (floor p a)
  pub above : IsAboveFloors inputs facts p v
  pub least : (w : Version) → IsAboveFloors inputs facts p w → inputs.at_most v w ≡ true

-- a port has its overlay's version, or the one that its override asks for, or else the least one allowed
pub data IsPlannedVersion (inputs : Inputs) (facts : List Fact) (p : List ℕ) (v : Version) : Type 0 where
  of_overlay : (inputs.pages p).given ≡ Ok (overlay v) → IsPlannedVersion inputs facts p v
  of_override : (a : Ask) → (inputs.pages p).given ≡ Ok (override a) → version_at inputs.pages p a ≡ Some v → IsPlannedVersion inputs facts p v
  of_floors : (a : Ask) → (inputs.pages p).given ≡ Ok (baseline a) → IsLeastAllowed inputs facts p a v → IsPlannedVersion inputs facts p v

-- so it is of each item of a plan, by the floors of its reasons
abbrev pub PlannedVersions : Type 0
PlannedVersions = (inputs : Inputs) → IsOrder inputs.at_most → (bytes : Printing) (items : List Item) (reasons : List Reason) → IsOutcome inputs bytes (planned items reasons)
    → (item : Item) → Contains items item → IsPlannedVersion inputs (facts_of reasons) item.instance.port item.version
