-- A worklist of reasons: each line and each fresh fact with its cause, so far.
use Rattle.std.specs.Prelude.{◌≡◌, ◌<◌, ◌⊎◌, ◌++◌, ◌+◌, ℕ, true, false, List, [], ◌∷◌, length, Some, option_and_then}
use Rattle.std.specs.List.{Contains, list_any}
use Rattle.vk_spec.specs.Settings.{Instance}
use Rattle.vk_resolution.specs.Settings.{inst}
use Rattle.vk_resolution.specs.Asking.{Fact, need, floor, visit, fact_key, same_fact, root_facts_of}
use Rattle.vk_resolution.specs.Consequences.{Inputs, Cause, by_root, by_two, steps_from, rules_of}
use Rattle.vk_resolution.specs.Reasons.{Reason, facts_of, citing, in_lines}
use Rattle.vk_resolution.specs.Worklist.{IsBrought, Notes, IsWork}

-- a reason that y brings up cites the lines up to that of y: by a step from y, or as the visit of a need and a floor
pub data IsCited (inputs : Inputs) (lines : List Fact) (y : Fact) (r : Reason) : Type 0 where
  by_step : (c : Cause Fact) → Contains (steps_from inputs y) (record { fact = r.fact; cause = c }) → in_lines lines c ≡ Some r.cause → IsCited inputs lines y r
  by_visit : (i : Instance) (f : List ℕ) (a : _) → r.fact ≡ visit i f a → in_lines lines (by_two (need (inst i) f) (floor i.port a)) ≡ Some r.cause → IsCited inputs lines y r

-- what y brings up behind those that were taken up before it, each with its cause
pub record Produces (inputs : Inputs) (taken : List Fact) (y : Fact) (brought : List Reason) : Type 0 where
  pub facts : IsBrought (rules_of inputs) taken y (facts_of brought)
  pub cited : (r : Reason) → Contains brought r → IsCited inputs (taken ++ y ∷ []) y r

-- a reason's cause is the one that the definition gives it, by the lines and by those of them that were taken up
abbrev pub IsCaused : Inputs → List Fact → List Fact → Reason → Type 0
IsCaused inputs lines taken r =
    ((list_any (same_fact r.fact) (root_facts_of inputs.setting) ≡ true) × (r.cause ≡ by_root))
    ⊎ ((list_any (same_fact r.fact) (root_facts_of inputs.setting) ≡ false) × (option_and_then (in_lines lines) (citing inputs taken r.fact) ≡ Some r.cause))

-- what was brought up and stands on no line yet is noted once, with the cause that came first
pub record NotesReasons (lines : List Fact) (brought old new : List Reason) : Type 0 where
  pub facts : Notes lines (facts_of brought) (facts_of old) (facts_of new)
  pub causes : (r : Reason) → Contains new r → Contains old r ⊎ (Contains brought r × (Contains lines r.fact → ⊥) × (Contains (facts_of old) r.fact → ⊥))

-- some of what was brought up is noted, one more is at hand that stands nowhere, and with it there are more than the most
pub record IsTooMuch (lines : List Fact) (brought old : List Reason) (most : ℕ) : Type 0 where
  pub done : List Reason
  pub new : List Reason
  pub noted : NotesReasons lines done old new
  pub within : (r : Reason) → Contains done r → Contains brought r
  pub next : Reason
  pub brings : Contains brought next
  pub unknown : Contains lines next.fact → ⊥
  pub unnoted : Contains (facts_of new) next.fact → ⊥
  pub more : most < length lines + length new + 1

-- these lines are taken up
pub record IsClosing (inputs : Inputs) (lines : List Reason) (taken : List Fact) (fresh : List Reason) : Type 0 where
  pub work : IsWork (rules_of inputs) fact_key (facts_of lines) taken (facts_of fresh)
  pub caused : (r : Reason) → Contains lines r → IsCaused inputs (facts_of lines) taken r
  pub fresh_caused : (r : Reason) → Contains fresh r → IsCaused inputs (facts_of lines) taken r
