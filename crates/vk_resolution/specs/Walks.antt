-- Laws of heights and cycles, over any edges.
use Rattle.std.specs.Prelude.{◌≡◌, ◌↔◌, ◌<◌, ◌≤◌, ℕ, suc, true, List, [], ◌∷◌, ◌++◌, length, Some}
use Rattle.std.specs.List.{Contains}
use Rattle.vk_spec.specs.Lists.{NoRepeats, IsWithin}
use Rattle.vk_spec.specs.Settings.{Instance}
use Rattle.vk_resolution.specs.Keys.{Ascends}
use Rattle.vk_resolution.specs.Planning.{instance_key, HasHeight, IsByHeight, has_way, IsOnCycle, IsCycle}
use Rattle.vk_resolution.specs.Computed.{cycle_by}

-- what each instance depends on
abbrev pub Targets : Type 0
Targets = Instance → List Instance

-- edges lead from listed instances to listed ones
abbrev pub EdgesStay : Targets → List Instance → Type 0
EdgesStay targets instances = (i : Instance) → Contains instances i → IsWithin (targets i) instances

-- no edge leads from an instance to itself
abbrev pub EdgesLeave : Targets → Type 0
EdgesLeave targets = (i : Instance) → Contains (targets i) i → ⊥

-- edges lead from listed instances to listed ones, and from none to itself
pub record AreEdgesOf (targets : Targets) (instances : List Instance) : Type 0 where
  pub stay : EdgesStay targets instances
  pub leave : EdgesLeave targets

-- an instance with a height is on no cycle; where none is on a cycle, each has a height
abbrev pub HeightsHaveNoCycle : Type 0
HeightsHaveNoCycle = (targets : Targets) (n : ℕ) (i : Instance) → HasHeight targets n i → IsOnCycle targets i → ⊥

-- where no instance is on a cycle, each has a height
abbrev pub NoCycleGivesHeights : Type 0
NoCycleGivesHeights = (targets : Targets) (instances : List Instance) → EdgesStay targets instances → ((i : Instance) → Contains instances i → IsOnCycle targets i → ⊥) → (i : Instance) → Contains instances i → (n : ℕ) × HasHeight targets n i

-- a target is lower, so in an order by heights it stands before
abbrev pub TargetsAreLower : Type 0
TargetsAreLower = (targets : Targets) (m n : ℕ) (i j : Instance) → HasHeight targets m i → HasHeight targets n j → Contains (targets i) j → n < m

-- in an order by heights, a target stands before
abbrev pub TargetsStandBefore : Type 0
TargetsStandBefore = (targets : Targets) (before after : List Instance) (i j : Instance) → IsByHeight targets (before ++ i ∷ after) → ((k : Instance) → Contains (before ++ i ∷ after) k → (n : ℕ) × HasHeight targets n k)
    → Contains (before ++ i ∷ after) j → Contains (targets i) j → Contains before j

-- where there is a cycle, exactly one walk is told
abbrev pub CycleExists : Type 0
CycleExists = (targets : Targets) (instances : List Instance) → Ascends instance_key instances → EdgesStay targets instances → (i : Instance) → Contains instances i → IsOnCycle targets i → (walk : List Instance) × IsCycle targets instances walk

-- the search answers that walk, and no other
abbrev pub CycleIsFound : Type 0
CycleIsFound = (targets : Targets) (instances : List Instance) → Ascends instance_key instances → EdgesStay targets instances → (walk : List Instance) → (cycle_by targets instances ≡ Some walk) ↔ IsCycle targets instances walk

-- the walk is one
abbrev pub CycleIsOne : Type 0
CycleIsOne = (targets : Targets) (instances one other : List Instance) → IsCycle targets instances one → IsCycle targets instances other → one ≡ other

-- each has an edge to the next, and the last to the first
abbrev pub IsRound : Targets → Instance → Instance → List Instance → Type 0
IsRound targets first i [] = Contains (targets i) first
IsRound targets first i (j ∷ js) = Contains (targets i) j × IsRound targets first j js

-- a round without repeats than which none through its first is shorter
pub record IsShortestRound (targets : Targets) (first : Instance) (rest : List Instance) : Type 0 where
  pub distinct : NoRepeats (first ∷ rest)
  pub some : 2 ≤ length (first ∷ rest)
  pub edges : IsRound targets first first rest
  pub shortest : (n : ℕ) → has_way targets (suc n) first first ≡ true → length (first ∷ rest) ≤ suc n

-- the walk has two instances or more, none twice, and no cycle through the first is shorter
abbrev pub CycleIsShortest : Type 0
CycleIsShortest = (targets : Targets) (instances : List Instance) → EdgesLeave targets → (first : Instance) (rest : List Instance) → IsCycle targets instances (first ∷ rest) → IsShortestRound targets first rest

-- an order by heights is one list
abbrev pub HeightOrderIsOne : Type 0
HeightOrderIsOne = (targets : Targets) (one other : List Instance) → IsByHeight targets one → IsByHeight targets other → ((i : Instance) → Contains one i → (n : ℕ) × HasHeight targets n i) → IsWithin one other → IsWithin other one → one ≡ other

-- a round is a way back, of one edge for each of its instances
abbrev pub RoundIsAWay : Type 0
RoundIsAWay = (targets : Targets) (first : Instance) (rest : List Instance) → IsRound targets first first rest → has_way targets (length (first ∷ rest)) first first ≡ true
