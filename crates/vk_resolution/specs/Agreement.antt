-- Only what was asked matters: pages that agree on it lead to the same outcome.
use Rattle.std.specs.Prelude.{◌≡◌, ℕ, List, [], ◌∷◌, ◌++◌, bytes_eq, if◌then◌else◌}
use Rattle.std.specs.List.{Contains}
use Rattle.vk_spec.specs.Versions.{Ask, ask_of, IsOrder}
use Rattle.vk_spec.specs.Pages.{Row}
use Rattle.vk_spec.specs.Conditions.{Condition}
use Rattle.vk_spec.specs.Settings.{Instance}
use Rattle.vk_resolution.specs.Least.{IsLeast, IsLeastInOrder}
use Rattle.vk_resolution.specs.Settings.{inst}
use Rattle.vk_resolution.specs.Givens.{Pages, version_at, manifest_at}
use Rattle.vk_resolution.specs.Asking.{Fact, need, floor, visit, fact_key}
use Rattle.vk_resolution.specs.Consequences.{Inputs, rules_of}
use Rattle.vk_resolution.specs.Reasons.{Reason, facts_of}
use Rattle.vk_resolution.specs.Outcomes.{Printing, Outcome, planned, refused, IsOutcome}

-- the same setting and order, with other pages
abbrev pub with_pages : Inputs → Pages → Inputs
with_pages inputs pages = record { setting = inputs.setting; pages = pages; at_most = inputs.at_most }

-- the other pages have the same given versions of the ports that are needed, the same versions (or none) where floors ask for them, and the same manifests where there are visits
pub record AgreesOn (one other : Pages) (facts : List Fact) : Type 0 where
  pub givens : (i : Instance) (f : List ℕ) → Contains facts (need (inst i) f) → (other i.port).given ≡ (one i.port).given
  pub versions : (p : List ℕ) (a : Ask) → Contains facts (floor p a) → version_at other p a ≡ version_at one p a
  pub manifests : (i : Instance) (f : List ℕ) (a : Ask) → Contains facts (visit i f a) → manifest_at other i.port a ≡ manifest_at one i.port a

-- the least list in its order is the same
abbrev pub SameLeastList : Type 0
SameLeastList = (inputs : Inputs) (pages : Pages) (facts : List Fact) → IsLeastInOrder (rules_of inputs) fact_key facts → AgreesOn inputs.pages pages facts → IsLeastInOrder (rules_of (with_pages inputs pages)) fact_key facts

-- the reasons that an outcome has
abbrev pub reasons_in : Outcome → List Reason
reasons_in (planned items reasons) = reasons
reasons_in (refused lines reasons) = reasons

-- and so is the outcome
abbrev pub SameOutcome : Type 0
SameOutcome = (inputs : Inputs) → IsOrder inputs.at_most → (pages : Pages) (bytes : Printing) (o : Outcome) → IsOutcome inputs bytes o → AgreesOn inputs.pages pages (facts_of (reasons_in o)) → IsOutcome (with_pages inputs pages) bytes o

-- a row more in the table of a port
abbrev pub published : Pages → List ℕ → Row Condition → Pages
published pages p row q = if bytes_eq q p then (record { given = (pages q).given; rows = (pages q).rows ++ row ∷ [] }) else pages q

-- pages with a version more that no floor asks for agree on what was asked
abbrev pub UnaskedAgrees : Type 0
UnaskedAgrees = (inputs : Inputs) (p : List ℕ) (row : Row Condition) (facts : List Fact) → IsLeast (rules_of inputs) facts → (Contains facts (floor p (ask_of row.version)) → ⊥) → AgreesOn inputs.pages (published inputs.pages p row) facts

-- to publish a version that no floor asks for changes no outcome; a visit is where a floor asks
abbrev pub UnaskedChangesNothing : Type 0
UnaskedChangesNothing = (inputs : Inputs) → IsOrder inputs.at_most → (p : List ℕ) (row : Row Condition) (bytes : Printing) (o : Outcome) → IsOutcome inputs bytes o → (Contains (facts_of (reasons_in o)) (floor p (ask_of row.version)) → ⊥)
    → IsOutcome (with_pages inputs (published inputs.pages p row)) bytes o
