-- What follows from rules: closed lists, the least one, ranks. Nothing here knows of manifests.
use Rattle.std.specs.Prelude.{◌≡◌, ◌<◌, ◌⊎◌, ◌++◌, ℕ, zero, suc, List, [], ◌∷◌}
use Rattle.std.specs.declared.cmp.Ordering.TheVariants.{Less}
use Rattle.std.specs.List.{Contains}
use Rattle.vk_spec.specs.Lists.{NoRepeats, IsWithin}
use Rattle.vk_resolution.specs.Keys.{Key, key_cmp}

-- what holds of itself, what follows from one fact alone, and what from two together
pub record Rules (X : Type 0) : Type 0 where
  pub roots : List X
  pub alone : X → List X
  pub together : X → X → List X

-- x follows from facts of which P holds
pub data FollowsFrom {X : Type 0} (rules : Rules X) (P : X → Type 0) (x : X) : Type 0 where
  from_one : (a : X) → P a → Contains (rules.alone a) x → FollowsFrom rules P x
  from_two : (a b : X) → P a → P b → Contains (rules.together a b) x → FollowsFrom rules P x

-- the list holds the roots, and all that follows from it
pub record IsClosed {X : Type 0} (rules : Rules X) (facts : List X) : Type 0 where
  pub roots : IsWithin rules.roots facts
  pub steps : (x : X) → FollowsFrom rules (Contains facts) x → Contains facts x

-- no fact twice, and each in every closed list
pub record IsForced {X : Type 0} (rules : Rules X) (facts : List X) : Type 0 where
  pub distinct : NoRepeats facts
  pub within : (other : List X) → IsClosed rules other → IsWithin facts other

-- the smallest closed list, without repeats
pub record IsLeast {X : Type 0} (rules : Rules X) (facts : List X) : Type 0 where
  pub closed : IsClosed rules facts
  pub forced : IsForced rules facts

-- x is reached in at most n steps from the roots
abbrev pub IsReached : {X : Type 0} → Rules X → ℕ → X → Type 0
IsReached rules zero x = Contains rules.roots x
IsReached rules (suc n) x = IsReached rules n x ⊎ FollowsFrom rules (IsReached rules n) x

-- a root has rank 0; what follows from facts of ranks up to n, and from no lower ones, has rank n + 1
pub record HasRank {X : Type 0} (rules : Rules X) (n : ℕ) (x : X) : Type 0 where
  pub reached : IsReached rules n x
  pub no_lower : (m : ℕ) → m < n → IsReached rules m x → ⊥

-- each of these facts is a root, or follows from those before it
abbrev pub IsDerived : {X : Type 0} → Rules X → List X → List X → Type 0
IsDerived rules before [] = Unit {0}
IsDerived rules before (x ∷ xs) = (Contains rules.roots x ⊎ FollowsFrom rules (Contains before) x) × IsDerived rules (before ++ x ∷ []) xs

-- x stands before y: by rank, then by key
abbrev pub RanksBefore : {X : Type 0} → Rules X → (X → Key) → X → X → Type 0
RanksBefore rules key x y = (m n : ℕ) → HasRank rules m x → HasRank rules n y → key_cmp ((m ∷ []) ∷ key x) ((n ∷ []) ∷ key y) ≡ Less

-- each fact stands before all that follow it
abbrev pub IsByRank : {X : Type 0} → Rules X → (X → Key) → List X → Type 0
IsByRank rules key [] = Unit {0}
IsByRank rules key (x ∷ xs) = ((y : _) → Contains xs y → RanksBefore rules key x y) × IsByRank rules key xs

-- the least list in its order
pub record IsLeastInOrder {X : Type 0} (rules : Rules X) (key : X → Key) (facts : List X) : Type 0 where
  pub least : IsLeast rules facts
  pub order : IsByRank rules key facts
