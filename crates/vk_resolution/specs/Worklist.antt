-- A worklist: facts are taken up in the order of their lines, and what they bring up that is new waits for the next level.
use Rattle.std.specs.Prelude.{◌≤◌, ◌⊎◌, ◌++◌, ℕ, List, [], ◌∷◌}
use Rattle.std.specs.List.{Contains}
use Rattle.vk_spec.specs.Lists.{NoRepeats, IsWithin}
use Rattle.vk_resolution.specs.Keys.{Key}
use Rattle.vk_resolution.specs.Least.{Rules, FollowsFrom, HasRank, IsByRank}
use Rattle.vk_resolution.specs.Rounds.{IsLevel}

-- what y brings up behind those that were taken up before it: alone, or together with itself or with one of them
pub data Brings {X : Type 0} (rules : Rules X) (taken : List X) (y x : X) : Type 0 where
  alone : Contains (rules.alone y) x → Brings rules taken y x
  first : (b : X) → Contains (taken ++ y ∷ []) b → Contains (rules.together y b) x → Brings rules taken y x
  second : (b : X) → Contains (taken ++ y ∷ []) b → Contains (rules.together b y) x → Brings rules taken y x

-- the list has all that y brings up, and nothing that doesn't follow from what is taken up with y
pub record IsBrought {X : Type 0} (rules : Rules X) (taken : List X) (y : X) (brought : List X) : Type 0 where
  pub sound : (x : X) → Contains brought x → FollowsFrom rules (Contains (taken ++ y ∷ [])) x
  pub complete : (x : X) → Brings rules taken y x → Contains brought x

-- what was brought up and stands on no line yet is noted once
pub record Notes {X : Type 0} (lines brought old new : List X) : Type 0 where
  pub kept : IsWithin old new
  pub sound : (x : X) → Contains new x → Contains old x ⊎ Contains brought x
  pub fresh : (x : X) → Contains new x → Contains old x ⊎ (Contains lines x → ⊥)
  pub complete : (x : X) → Contains brought x → Contains lines x ⊎ Contains new x
  pub distinct : NoRepeats old → NoRepeats new

-- facts stand on lines, some are taken up, and the fresh ones are all that follows from those and stands on no line
pub record IsTaken {X : Type 0} (rules : Rules X) (lines taken fresh : List X) : Type 0 where
  pub sound : (x : X) → Contains fresh x → FollowsFrom rules (Contains taken) x
  pub apart : (x : X) → Contains fresh x → Contains lines x → ⊥
  pub complete : (x : X) → FollowsFrom rules (Contains taken) x → Contains lines x ⊎ Contains fresh x
  pub distinct : NoRepeats fresh

-- the lines hold all facts of ranks up to n, in their order
pub record IsOrdered {X : Type 0} (rules : Rules X) (key : X → Key) (n : ℕ) (lines : List X) : Type 0 where
  pub level : IsLevel rules n lines
  pub order : IsByRank rules key lines
  pub ranked : (x : X) → Contains lines x → (m : ℕ) × (m ≤ n) × HasRank rules m x

-- all that a worklist keeps
pub record IsWork {X : Type 0} (rules : Rules X) (key : X → Key) (lines taken fresh : List X) : Type 0 where
  pub rank : ℕ
  pub ordered : IsOrdered rules key rank lines
  pub within : IsWithin taken lines
  pub work : IsTaken rules lines taken fresh
