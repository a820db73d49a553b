-- Needs that are taken up one after the other.
use Rattle.std.specs.Prelude.{◌≡◌, ◌<◌, ℕ, true, List, length, Option, Some, slice_get}
use Rattle.std.specs.List.{Contains}
use Rattle.vk_spec.specs.Lists.{NoRepeats, IsWithin}
use Rattle.vk_resolution.specs.Asking.{Fact, root_facts_of}
use Rattle.vk_resolution.specs.Consequences.{Inputs}
use Rattle.vk_resolution.specs.Givens.{Pages}
use Rattle.vk_resolution.specs.Least.{IsClosed}
use Rattle.vk_resolution.specs.Planning.{is_need, planned_rules_of}
use Rattle.vk_rules.specs.declared.flaws.Flaw.{Flaw}
use Rattle.vk_planned.specs.Bases.{inputs_at, facts_at}
use Rattle.vk_planned.specs.Graphs.{asked_by_need}
use Rattle.vk_planned.specs.Flaws.{HasFlaw, flaw_in}
use Rattle.vk_planned.specs.Needs.{facts_view}
use Rattle.vk_planned.specs.declared.bases.Basis.{Basis}
use Rattle.vk_planned.specs.declared.planning.Planned.{Planned}

-- an edge leads from the place of a need that is taken up to that of one that it asks for
pub record Leads (inputs : Inputs) (facts : List Fact) (n : ℕ) (needs : List Fact) (edge : ℕ × ℕ) : Type 0 where
  pub taken : edge.0 < n
  pub from : Fact
  pub to : Fact
  pub at : slice_get needs edge.0 ≡ Some from
  pub other : slice_get needs edge.1 ≡ Some to
  pub asks : Contains (asked_by_need inputs facts from) to

-- the first n of the needs are taken up: what they ask for is among them all, which are in every closed list, and what is wrong with each is kept
pub record IsFollowed (inputs : Inputs) (facts : List Fact) (n : ℕ) (needs : List Fact) (edges : List (ℕ × ℕ)) (flaws : List (Option Flaw)) : Type 0 where
  pub roots : IsWithin (root_facts_of inputs.setting) needs
  pub distinct : NoRepeats needs
  pub within : (other : List Fact) → IsClosed (planned_rules_of inputs facts) other → IsWithin needs other
  pub are_needs : (x : Fact) → Contains needs x → is_need x ≡ true
  pub lead : (edge : ℕ × ℕ) → Contains edges edge → Leads inputs facts n needs edge
  pub complete : (m : ℕ) (x y : Fact) → m < n → slice_get needs m ≡ Some x → Contains (asked_by_need inputs facts x) y → (k : ℕ) × (slice_get needs k ≡ Some y) × Contains edges (m, k)
  pub long : length flaws ≡ n
  pub judged : (m : ℕ) (x : Fact) → m < n → slice_get needs m ≡ Some x → HasFlaw inputs facts x (flaw_in (slice_get flaws m))

-- so for a plan in the making
abbrev pub IsTakenUp : Basis → ℕ → Planned → Pages → Type 0
IsTakenUp b n p pages = IsFollowed (inputs_at b pages) (facts_at b) n (facts_view p.needs.keys) p.edges.items p.flaws.items
