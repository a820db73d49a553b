-- The shortest ways to a place, and the walk along them.
use Rattle.std.specs.Prelude.{◌≡◌, ◌≢◌, ◌<◌, ◌≤◌, ◌+◌, ◌⊎◌, ℕ, suc, List, [], ◌∷◌, length, Option, Some, None}
use Rattle.std.specs.Prelude.{if◌then◌else◌}
use Rattle.std.specs.Ordering.{is_le, ordering_then, nat_cmp}
use Rattle.std.specs.List.{Contains}
use Rattle.vk_order.specs.Needs.{listed_at, known_at, known_in}
use Rattle.vk_order.specs.Components.{AreComponents, StandsAbove}

-- the lengths of the shortest ways to a place
pub record AreLengths (needs : List (List ℕ)) (first : ℕ) (lengths : List (Option ℕ)) : Type 0 where
  pub long : length lengths ≡ length needs
  pub here : known_at lengths first ≡ Some 0
  pub only : (k : ℕ) → known_at lengths k ≡ Some 0 → k ≡ first
  pub down : (k m : ℕ) → known_at lengths k ≡ Some (suc m) → (n : ℕ) × Contains (listed_at needs k) n × (known_at lengths n ≡ Some m)
  pub up : (n m k : ℕ) → known_at lengths n ≡ Some m → Contains (listed_at needs k) n → (l : ℕ) × (known_at lengths k ≡ Some l) × (l ≤ suc m)

-- the lengths up to a depth, with all places of that depth
pub record AreNear (needs : List (List ℕ)) (first depth : ℕ) (lengths : List (Option ℕ)) (level : List ℕ) : Type 0 where
  pub long : length lengths ≡ length needs
  pub here : known_at lengths first ≡ Some 0
  pub only : (k : ℕ) → known_at lengths k ≡ Some 0 → k ≡ first
  pub down : (k m : ℕ) → known_at lengths k ≡ Some (suc m) → (n : ℕ) × Contains (listed_at needs k) n × (known_at lengths n ≡ Some m)
  pub near : (k m : ℕ) → known_at lengths k ≡ Some m → m ≤ depth
  pub up : (n m k : ℕ) → known_at lengths n ≡ Some m → m < depth → Contains (listed_at needs k) n → (l : ℕ) × (known_at lengths k ≡ Some l) × (l ≤ suc m)
  pub all : (k : ℕ) → known_at lengths k ≡ Some depth → Contains level k
  pub deep : (k : ℕ) → Contains level k → known_at lengths k ≡ Some depth
  pub few : depth + length level ≤ known_in lengths

-- places that had no length have this one now, and are put behind the others
pub record AreReached (places : List ℕ) (depth : ℕ) (before after : List (Option ℕ)) (old new : List ℕ) : Type 0 where
  pub long : length after ≡ length before
  pub kept : (k m : ℕ) → known_at before k ≡ Some m → known_at after k ≡ Some m
  pub fresh : (k m : ℕ) → known_at after k ≡ Some m → (known_at before k ≡ Some m) ⊎ ((m ≡ depth) × Contains places k × Contains new k)
  pub all : (k : ℕ) → Contains places k → (m : ℕ) × (known_at after k ≡ Some m)
  pub still : (k : ℕ) → Contains old k → Contains new k
  pub next : (k : ℕ) → Contains new k → Contains old k ⊎ (known_at after k ≡ Some depth)
  pub count : known_in after + length old ≡ known_in before + length new

-- a length with its place stands before another
abbrev pub IsNearer : ℕ → ℕ → ℕ → ℕ → Type 0
IsNearer m j l k = (m < l) ⊎ ((m ≡ l) × (j ≤ k))

-- the least needed place among those from which the way is shortest
pub record IsClosest (needs : List ℕ) (lengths : List (Option ℕ)) (j : ℕ) : Type 0 where
  pub needed : Contains needs j
  pub steps : ℕ
  pub way : known_at lengths j ≡ Some steps
  pub best : (k l : ℕ) → Contains needs k → known_at lengths k ≡ Some l → IsNearer steps j l k

-- from nothing that is needed there is a way
abbrev pub HaveNoWay : List ℕ → List (Option ℕ) → Type 0
HaveNoWay needs lengths = (n : ℕ) → Contains needs n → known_at lengths n ≡ None

-- the closest so far, with its length
abbrev pub IsClosestOf : List ℕ → List (Option ℕ) → Option (ℕ × ℕ) → Type 0
IsClosestOf needs lengths None = HaveNoWay needs lengths
IsClosestOf needs lengths (Some b) = Contains needs b.1 × (known_at lengths b.1 ≡ Some b.0) × ((k l : ℕ) → Contains needs k → known_at lengths k ≡ Some l → IsNearer b.0 b.1 l k)

-- the walk goes on from a place, until it is back at the first
abbrev pub GoesOn : List (List ℕ) → List (Option ℕ) → ℕ → ℕ → List ℕ → Type 0
GoesOn needs lengths first k [] = IsClosest (listed_at needs k) lengths first
GoesOn needs lengths first k (j ∷ js) = (j ≢ first) × IsClosest (listed_at needs k) lengths j × GoesOn needs lengths first j js

-- the walk up to a place
abbrev pub LeadsTo : List (List ℕ) → List (Option ℕ) → ℕ → ℕ → List ℕ → ℕ → Type 0
LeadsTo needs lengths first k [] end = IsClosest (listed_at needs k) lengths end
LeadsTo needs lengths first k (j ∷ js) end = (j ≢ first) × IsClosest (listed_at needs k) lengths j × LeadsTo needs lengths first j js end

-- the next place of a walk, or none where that is the first
abbrev pub IsNextOf : List ℕ → List (Option ℕ) → ℕ → Option ℕ → Type 0
IsNextOf needs lengths first None = IsClosest needs lengths first
IsNextOf needs lengths first (Some j) = (j ≢ first) × IsClosest needs lengths j

-- the walk so far, with the next place
abbrev pub IsWalkTo : List (List ℕ) → List (Option ℕ) → ℕ → List ℕ → Option ℕ → Type 0
IsWalkTo needs lengths first js None = GoesOn needs lengths first first js
IsWalkTo needs lengths first js (Some j) = (j ≢ first) × ((m : ℕ) × (known_at lengths j ≡ Some m)) × LeadsTo needs lengths first first js j

-- no way from what a place needs leads back to it
pub record HasNoWayBack (needs : List (List ℕ)) (k : ℕ) : Type 0 where
  pub lengths : List (Option ℕ)
  pub are : AreLengths needs k lengths
  pub none : HaveNoWay (listed_at needs k) lengths

-- a place is on no cycle: no way leads back to it, or all that it needs is in lower components
pub data IsOnNone (needs : List (List ℕ)) (k : ℕ) : Type 0 where
  by_ways : HasNoWayBack needs k → IsOnNone needs k
  by_components : (components : List (Option ℕ)) → AreComponents needs components → StandsAbove needs components k → IsOnNone needs k

-- the walk from the least place from which a way leads back
pub record IsFirstWalk (needs : List (List ℕ)) (heights : List (Option ℕ)) (first : ℕ) (rest : List ℕ) : Type 0 where
  pub within : first < length needs
  pub before : (k : ℕ) → k < first → known_at heights k ≡ None → IsOnNone needs k
  pub lengths : List (Option ℕ)
  pub are : AreLengths needs first lengths
  pub walk : GoesOn needs lengths first first rest

abbrev pub IsFoundWalk : List (List ℕ) → List (Option ℕ) → List ℕ → Type 0
IsFoundWalk needs heights [] = ⊥
IsFoundWalk needs heights (first ∷ rest) = IsFirstWalk needs heights first rest

-- where no walk is found, nothing without a height is on a cycle
abbrev pub AreOnNone : List (List ℕ) → List (Option ℕ) → Type 0
AreOnNone needs heights = (k : ℕ) → k < length needs → known_at heights k ≡ None → IsOnNone needs k

-- the walk of a place, along the shortest ways to it
abbrev pub IsWalkFrom : List (List ℕ) → List (Option ℕ) → ℕ → List ℕ → Type 0
IsWalkFrom needs lengths first [] = ⊥
IsWalkFrom needs lengths first (k ∷ ks) = (k ≡ first) × GoesOn needs lengths first first ks

-- a walk from a place back to it
pub record IsWalkBack (needs : List (List ℕ)) (first : ℕ) (walk : List ℕ) : Type 0 where
  pub lengths : List (Option ℕ)
  pub are : AreLengths needs first lengths
  pub walk_is : IsWalkFrom needs lengths first walk

-- the nearer of the best so far and a place with its way
abbrev pub nearer_of : Option (ℕ × ℕ) → Option ℕ → ℕ → Option (ℕ × ℕ)
nearer_of best None place = best
nearer_of None (Some s) place = Some (s, place)
nearer_of (Some best) (Some s) place = Some (if is_le (ordering_then (nat_cmp best.0 s) (nat_cmp best.1 place)) then best else (s, place))
