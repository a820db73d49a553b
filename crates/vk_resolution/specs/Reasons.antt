-- The reasons: the least list in its order, numbered from 1, each fact with its cause.
use Rattle.std.specs.Prelude.{◌≡◌, ◌≢◌, ◌<◌, ℕ, zero, suc, Bool, List, [], ◌∷◌, ◌++◌, map, Option, Some, None, option_map, option_and_then, slice_get, if◌then◌else◌}
use Rattle.std.specs.List.{Contains, list_any, find}
use Rattle.std.specs.Option.{option_or}
use Rattle.vk_resolution.specs.Least.{IsLeastInOrder}
use Rattle.vk_resolution.specs.Settings.{inst}
use Rattle.vk_resolution.specs.Asking.{Fact, need, floor, visit, fact_key, same_fact, root_facts_of}
use Rattle.vk_resolution.specs.Consequences.{Inputs, steps_from, rules_of, FollowsBy, Cause, by_root, by_baseline, by_override, by_overlay, by_minimum, by_one, by_two}

-- a fact and its cause, in which facts are cited by their lines
pub record Reason : Type 0 where
  pub fact : Fact
  pub cause : Cause ℕ

-- the facts of the reasons
abbrev pub facts_of : List Reason → List Fact
facts_of reasons = map (λ r. r.fact) reasons

-- the number of the first that passes, from 1
abbrev pub first_line : {X : Type 0} → (X → Bool) → List X → Option ℕ
first_line test [] = None
first_line test (x ∷ xs) = if test x then Some 1 else option_map suc (first_line test xs)

-- the line of a fact
abbrev pub line_of : List Fact → Fact → Option ℕ
line_of facts x = first_line (same_fact x) facts

-- the cause by which a fact follows from the first of these from which it does
abbrev pub first_cause : Inputs → List Fact → Fact → Option (Cause Fact)
first_cause inputs [] x = None
first_cause inputs (y ∷ ys) x = option_or (option_map (λ step. step.cause) (find (λ step. same_fact x step.fact) (steps_from inputs y))) (first_cause inputs ys x)

-- a visit cites its need and its floor, any other fact the first from which it follows
abbrev pub citing : Inputs → List Fact → Fact → Option (Cause Fact)
citing inputs facts (need who f) = first_cause inputs facts (need who f)
citing inputs facts (floor p a) = first_cause inputs facts (floor p a)
citing inputs facts (visit i f a) = Some (by_two (need (inst i) f) (floor i.port a))

-- the lines of what is cited
abbrev pub in_lines : List Fact → Cause Fact → Option (Cause ℕ)
in_lines facts by_root = Some by_root
in_lines facts (by_baseline x) = option_map by_baseline (line_of facts x)
in_lines facts (by_override x) = option_map by_override (line_of facts x)
in_lines facts (by_overlay x) = option_map by_overlay (line_of facts x)
in_lines facts (by_minimum x) = option_map by_minimum (line_of facts x)
in_lines facts (by_one x) = option_map by_one (line_of facts x)
in_lines facts (by_two x y) = option_and_then (λ n. option_map (by_two n) (line_of facts y)) (line_of facts x)

-- the cause that a fact has among the facts
abbrev pub cause_of : Inputs → List Fact → Fact → Option (Cause ℕ)
cause_of inputs facts x = if list_any (same_fact x) (root_facts_of inputs.setting) then Some by_root else option_and_then (in_lines facts) (citing inputs facts x)

-- the least list in its order, each fact with its cause
pub record IsReasons (inputs : Inputs) (reasons : List Reason) : Type 0 where
  pub facts : IsLeastInOrder (rules_of inputs) fact_key (facts_of reasons)
  pub causes : (r : Reason) → Contains reasons r → cause_of inputs (facts_of reasons) r.fact ≡ Some r.cause

-- the fact of a line
abbrev pub fact_at : List Fact → ℕ → Option Fact
fact_at facts zero = None
fact_at facts (suc n) = slice_get facts n

-- the facts on the lines that are cited
abbrev pub with_facts : List Fact → Cause ℕ → Option (Cause Fact)
with_facts facts by_root = Some by_root
with_facts facts (by_baseline n) = option_map by_baseline (fact_at facts n)
with_facts facts (by_override n) = option_map by_override (fact_at facts n)
with_facts facts (by_overlay n) = option_map by_overlay (fact_at facts n)
with_facts facts (by_minimum n) = option_map by_minimum (fact_at facts n)
with_facts facts (by_one n) = option_map by_one (fact_at facts n)
with_facts facts (by_two n m) = option_and_then (λ x. option_map (by_two x) (fact_at facts m)) (fact_at facts n)

-- the lines before it show the fact: it is a root fact, or follows by its cause from the lines that it cites
pub record IsShownBy (inputs : Inputs) (before : List Fact) (r : Reason) : Type 0 where
  pub cited : Cause Fact
  pub found : with_facts before r.cause ≡ Some cited
  pub follows : FollowsBy inputs cited r.fact

-- each reason is shown by those before it
abbrev pub IsDerivation : Inputs → List Fact → List Reason → Type 0
IsDerivation inputs before [] = Unit {0}
IsDerivation inputs before (r ∷ rs) = IsShownBy inputs before r × IsDerivation inputs (before ++ r.fact ∷ []) rs

-- the lines that a cause cites
abbrev pub cited_by : Cause ℕ → List ℕ
cited_by by_root = []
cited_by (by_baseline n) = n ∷ []
cited_by (by_override n) = n ∷ []
cited_by (by_overlay n) = n ∷ []
cited_by (by_minimum n) = n ∷ []
cited_by (by_one n) = n ∷ []
cited_by (by_two n m) = n ∷ m ∷ []

-- the reason of a line
abbrev pub reason_at : List Reason → ℕ → Option Reason
reason_at reasons zero = None
reason_at reasons (suc n) = slice_get reasons n

-- every chain of cited lines from a line on has falling numbers, and ends in a root fact
pub data LeadsToRoots (inputs : Inputs) (reasons : List Reason) : ℕ → Type 0 where
  at_root : (n : ℕ) (r : Reason) → reason_at reasons n ≡ Some r → r.cause ≡ by_root → Contains (root_facts_of inputs.setting) r.fact → LeadsToRoots inputs reasons n
  through : (n : ℕ) (r : Reason) → reason_at reasons n ≡ Some r → cited_by r.cause ≢ [] → ((m : ℕ) → Contains (cited_by r.cause) m → m < n) → ((m : ℕ) → Contains (cited_by r.cause) m → LeadsToRoots inputs reasons m) → LeadsToRoots inputs reasons n
