-- There is exactly one outcome, and its orders are total.
use Rattle.std.specs.Prelude.{◌≡◌, ◌<◌, ℕ, List, [], ◌∷◌, ◌++◌, length, map, codes}
use Rattle.std.specs.declared.cmp.Ordering.TheVariants.{Less, Equal}
use Rattle.std.specs.Cmp.{IsTotalOrder}
use Rattle.std.specs.List.{Contains}
use Rattle.vk_spec.specs.Versions.{IsOrder}
use Rattle.vk_spec.specs.Lists.{IsWithin}
use Rattle.vk_resolution.specs.Keys.{Key, key_cmp, IsKey, IsListing}
use Rattle.vk_resolution.specs.Least.{IsClosed}
use Rattle.vk_resolution.specs.Asking.{Fact, fact_key}
use Rattle.vk_resolution.specs.Consequences.{Inputs, rules_of}
use Rattle.vk_resolution.specs.Planning.{instance_key, feature_key, IsPlanned, targets_of, instances_of, Item, IsPlan}
use Rattle.vk_resolution.specs.Faults.{Fault}
use Rattle.vk_resolution.specs.Outcomes.{Printing, lines_of, Outcome, IsOutcome}
use Rattle.vk_resolution.specs.Service.{OverlaysHaveRows}
use Rattle.vk_resolution.specs.Walks.{AreEdgesOf}

-- keys are compared totally, and keys that tie are one
pub record KeysAreOrdered : Type 0 where
  pub total : IsTotalOrder key_cmp
  pub ties : (k l : Key) → key_cmp k l ≡ Equal → k ≡ l
  pub facts : IsKey fact_key
  pub instances : IsKey instance_key
  pub features : IsKey feature_key
  pub bytes_first : key_cmp (codes "10" ∷ []) (codes "9" ∷ []) ≡ Less

-- each line of a phase is one of its faults, and what they print is what the faults print: each text once, in the order of bytes
pub record ListsLines (bytes : Printing) (faults lines : List Fault) : Type 0 where
  pub from : IsWithin lines faults
  pub printed : IsListing (λ text. text ∷ []) (Contains (map bytes faults)) (map bytes lines)

-- whatever the faults print
abbrev pub LinesAreListed : Type 0
LinesAreListed = (bytes : Printing) (faults : List Fault) → ListsLines bytes faults (lines_of bytes faults)

-- the planned instances depend on planned instances, and none on itself
abbrev pub PlannedEdges : Type 0
PlannedEdges = (inputs : Inputs) (facts planned : List Fact) → IsPlanned inputs facts planned → AreEdgesOf (targets_of inputs planned) (instances_of planned)

-- the places of what an item needs are below its own
abbrev pub NeedsAreBefore : Type 0
NeedsAreBefore = (inputs : Inputs) (facts planned : List Fact) → IsPlanned inputs facts planned → (items : List Item) → IsPlan inputs facts planned items → (before after : List Item) (item : Item) → items ≡ before ++ item ∷ after
    → (n : ℕ) → Contains item.needs n → n < length before

-- where any list is closed, there is an outcome
abbrev pub OutcomeExists : Type 0
OutcomeExists = (inputs : Inputs) → IsOrder inputs.at_most → OverlaysHaveRows inputs.pages → (bytes : Printing) (closed : List Fact) → IsClosed (rules_of inputs) closed → (o : Outcome) × IsOutcome inputs bytes o

-- and no other
abbrev pub OutcomeIsOne : Type 0
OutcomeIsOne = (inputs : Inputs) (bytes : Printing) (one other : Outcome) → IsOutcome inputs bytes one → IsOutcome inputs bytes other → one ≡ other
