-- Laws of worklists: where they begin, how they go on, and in what they end.
use Rattle.std.specs.Prelude.{◌≡◌, ◌++◌, List, [], ◌∷◌}
use Rattle.std.specs.List.{Contains}
use Rattle.vk_spec.specs.Lists.{NoRepeats, IsWithin}
use Rattle.vk_resolution.specs.Keys.{Key, Ascends}
use Rattle.vk_resolution.specs.Least.{Rules, IsLeastInOrder}
use Rattle.vk_resolution.specs.Asking.{Fact, fact_key, root_facts_of}
use Rattle.vk_resolution.specs.Consequences.{Inputs, by_root}
use Rattle.vk_resolution.specs.Reasons.{Reason, facts_of, IsReasons}
use Rattle.vk_resolution.specs.Worklist.{IsBrought, Notes, IsWork}
use Rattle.vk_resolution.specs.Closing.{Produces, NotesReasons, IsTooMuch, IsClosing}
use Rattle.vk_resolution.specs.Closures.{HasTooManyFacts}

-- the roots in order are a worklist; a line more is taken up; the fresh facts, in order, are the next level; where nothing is fresh, the lines are the least list in its order
pub record WorklistsLead (X : Type 0) : Type 0 where
  pub first : (rules : Rules X) (key : X → Key) (lines : List X) → IsWithin lines rules.roots → IsWithin rules.roots lines → NoRepeats lines → Ascends key lines → IsWork rules key lines [] []
  pub more : (rules : Rules X) (key : X → Key) (lines taken fresh : List X) (y : X) (brought new : List X)
      → IsWork rules key lines taken fresh → Contains lines y → IsBrought rules taken y brought → Notes lines brought fresh new → IsWork rules key lines (taken ++ y ∷ []) new
  pub next : (rules : Rules X) (key : X → Key) (lines fresh sorted : List X)
      → IsWork rules key lines lines fresh → IsWithin fresh sorted → IsWithin sorted fresh → NoRepeats sorted → Ascends key sorted → IsWork rules key (lines ++ sorted) lines []
  pub last : (rules : Rules X) (key : X → Key) (lines : List X) → IsWork rules key lines lines [] → IsLeastInOrder rules key lines

-- the same with causes: the lines end as the reasons; and where something that was brought up has no room, there are too many facts
pub record ClosingsLead : Type 0 where
  pub first : (inputs : Inputs) (lines : List Reason) → IsWithin (facts_of lines) (root_facts_of inputs.setting) → IsWithin (root_facts_of inputs.setting) (facts_of lines) → NoRepeats (facts_of lines) → Ascends fact_key (facts_of lines)
      → ((r : Reason) → Contains lines r → r.cause ≡ by_root) → IsClosing inputs lines [] []
  pub more : (inputs : Inputs) (lines : List Reason) (taken rest : List Fact) (fresh : List Reason) (y : Fact) (brought new : List Reason)
      → (taken ++ y ∷ []) ++ rest ≡ facts_of lines → IsClosing inputs lines taken fresh → Produces inputs taken y brought → NotesReasons (facts_of lines) brought fresh new → IsClosing inputs lines (taken ++ y ∷ []) new
  pub next : (inputs : Inputs) (lines fresh sorted : List Reason)
      → IsClosing inputs lines (facts_of lines) fresh → IsWithin fresh sorted → IsWithin sorted fresh → NoRepeats (facts_of sorted) → Ascends fact_key (facts_of sorted) → IsClosing inputs (lines ++ sorted) (facts_of lines) []
  pub last : (inputs : Inputs) (lines : List Reason) → IsClosing inputs lines (facts_of lines) [] → IsReasons inputs lines
  pub forced : (inputs : Inputs) (lines : List Reason) (taken : List Fact) (fresh : List Reason) (y : Fact) (brought : List Reason)
      → Contains (facts_of lines) y → IsClosing inputs lines taken fresh → Produces inputs taken y brought → IsTooMuch (facts_of lines) brought fresh inputs.setting.max_facts → HasTooManyFacts inputs
