-- Closing in rounds, for whoever makes the least list: what is reached so far, and what a round adds.
use Rattle.std.specs.Prelude.{◌⊎◌, ◌++◌, ℕ, List}
use Rattle.std.specs.List.{Contains}
use Rattle.vk_spec.specs.Lists.{NoRepeats}
use Rattle.vk_resolution.specs.Least.{Rules, FollowsFrom, IsReached}

-- the listed facts are those of ranks up to n, each once
pub record IsLevel {X : Type 0} (rules : Rules X) (n : ℕ) (facts : List X) : Type 0 where
  pub sound : (x : X) → Contains facts x → IsReached rules n x
  pub complete : (x : X) → IsReached rules n x → Contains facts x
  pub distinct : NoRepeats facts

-- the new facts are those that follow from the listed ones and aren't listed, each once
pub record AddsRound {X : Type 0} (rules : Rules X) (facts new : List X) : Type 0 where
  pub sound : (x : X) → Contains new x → FollowsFrom rules (Contains facts) x
  pub fresh : (x : X) → Contains new x → Contains facts x → ⊥
  pub complete : (x : X) → FollowsFrom rules (Contains facts) x → Contains facts x ⊎ Contains new x
  pub distinct : NoRepeats new

-- the new facts are those that follow from a fresh one, alone or together with any listed one, and aren't listed, each once
pub record AddsFromFresh {X : Type 0} (rules : Rules X) (old fresh new : List X) : Type 0 where
  pub sound : (x : X) → Contains new x → FollowsFrom rules (Contains (old ++ fresh)) x
  pub apart : (x : X) → Contains new x → Contains (old ++ fresh) x → ⊥
  pub alone : (a x : X) → Contains fresh a → Contains (rules.alone a) x → Contains (old ++ fresh) x ⊎ Contains new x
  pub first : (a b x : X) → Contains fresh a → Contains (old ++ fresh) b → Contains (rules.together a b) x → Contains (old ++ fresh) x ⊎ Contains new x
  pub second : (a b x : X) → Contains old a → Contains fresh b → Contains (rules.together a b) x → Contains (old ++ fresh) x ⊎ Contains new x
  pub distinct : NoRepeats new

-- each fact of the part follows from the listed facts and isn't listed, each once: a round so far
pub record IsPartOfRound {X : Type 0} (rules : Rules X) (facts part : List X) : Type 0 where
  pub sound : (x : X) → Contains part x → FollowsFrom rules (Contains facts) x
  pub apart : (x : X) → Contains part x → Contains facts x → ⊥
  pub distinct : NoRepeats part
