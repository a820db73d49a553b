-- What follows from the definition of a build.
use Rattle.std.specs.Prelude.{◌≡◌, ◌⊎◌, ◌+◌, ◌++◌, ◌∷◌, ℕ, true, List, None, IsSome, length}
use Rattle.std.specs.List.{Contains}
use Rattle.vk_spec.specs.Lists.{NoRepeats}
use Rattle.vk_spec.specs.Paths.{Path, Begins}
use Rattle.vk_recipe.specs.Recipes.{Step}
use Rattle.vk_recipe.specs.Builds.{Job, applies, source_of, paths_of}

-- no path stands twice, and none begins another
pub record AreApart (paths : List Path) : Type 0 where
  pub once : NoRepeats paths
  pub alone : (p q : Path) → Contains paths p → Contains paths q → Begins p q → p ≡ q

-- steps that can be done one after the other: for each that applies there is something to make its
-- file of, and their paths are apart
pub record CanBeDone (job : Job) (steps : List Step) : Type 0 where
  pub sources : (s : Step) → Contains steps s → applies job s ≡ true
      → IsSome (source_of job s.action)
  pub apart : AreApart (paths_of job steps)

-- the n-th step, counted from 1, applies, and all before it can be done
pub record FailsFirst (job : Job) (steps : List Step) (n : ℕ) : Type 0 where
  pub earlier : List Step
  pub step : Step
  pub later : List Step
  pub split : steps ≡ earlier ++ step ∷ later
  pub number : n ≡ length earlier + 1
  pub before : CanBeDone job earlier
  pub runs : applies job step ≡ true

-- there is nothing to make its file of
pub record LacksSource (job : Job) (steps : List Step) (n : ℕ) : Type 0 where
  pub fails : FailsFirst job steps n
  pub lacks : source_of job fails.step.action ≡ None

-- there is, but its path begins that of an earlier step, or is begun by it
pub record Clashes (job : Job) (steps : List Step) (n : ℕ) : Type 0 where
  pub fails : FailsFirst job steps n
  pub has : IsSome (source_of job fails.step.action)
  pub other : Path
  pub stands : Contains (paths_of job fails.earlier) other
  pub begun : Begins fails.step.to other ⊎ Begins other fails.step.to
