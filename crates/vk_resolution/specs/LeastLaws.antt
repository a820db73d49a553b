-- Laws of closed lists, least lists and ranks, over any rules and any things that are known by keys.
use Rattle.std.specs.Prelude.{◌≡◌, ◌≤◌, ◌⊎◌, ◌++◌, ℕ, suc, List, [], length}
use Rattle.std.specs.List.{Contains}
use Rattle.vk_spec.specs.Lists.{NoRepeats, IsWithin}
use Rattle.vk_resolution.specs.Keys.{Key, IsKey, IsListing, in_order}
use Rattle.vk_resolution.specs.Least.{Rules, FollowsFrom, IsClosed, IsForced, IsLeast, HasRank, IsDerived, IsLeastInOrder}
use Rattle.vk_resolution.specs.Rounds.{IsLevel, AddsRound, AddsFromFresh, IsPartOfRound}

-- two least lists have the same members
abbrev pub LeastIsOne : Type 0 → Type 0
LeastIsOne X = (rules : Rules X) (one other : List X) → IsLeast rules one → IsLeast rules other → IsWithin one other × IsWithin other one

-- a fact has at most one rank
abbrev pub RankIsOne : Type 0 → Type 0
RankIsOne X = (rules : Rules X) (m n : ℕ) (x : X) → HasRank rules m x → HasRank rules n x → m ≡ n

-- each member of a least list has a rank
abbrev pub MembersHaveRanks : Type 0 → Type 0
MembersHaveRanks X = (rules : Rules X) (key : X → Key) → IsKey key → (facts : List X) → IsLeast rules facts → (x : X) → Contains facts x → (n : ℕ) × HasRank rules n x

-- every fact with a rank is in every closed list
abbrev pub RankedIsForced : Type 0 → Type 0
RankedIsForced X = (rules : Rules X) (facts : List X) → IsClosed rules facts → (n : ℕ) (x : X) → HasRank rules n x → Contains facts x

-- a list without repeats that is closed and derived is the least
abbrev pub DerivedIsLeast : Type 0 → Type 0
DerivedIsLeast X = (rules : Rules X) (facts : List X) → IsClosed rules facts → NoRepeats facts → IsDerived rules [] facts → IsLeast rules facts

-- where any list is closed there is a least one, in its order
abbrev pub LeastExists : Type 0 → Type 0
LeastExists X = (rules : Rules X) (key : X → Key) → IsKey key → (closed : List X) → IsClosed rules closed → (facts : List X) × IsLeastInOrder rules key facts

-- the least list in its order is one list
abbrev pub OrderIsOne : Type 0 → Type 0
OrderIsOne X = (rules : Rules X) (key : X → Key) → IsKey key → (one other : List X) → IsLeastInOrder rules key one → IsLeastInOrder rules key other → one ≡ other

-- a list in order lists each member once, and is the only one that does
abbrev pub ListingIsOne : Type 0 → Type 0
ListingIsOne X = (key : X → Key) → IsKey key → (xs : List X) → IsListing key (Contains xs) (in_order key xs) × ((ys : List X) → IsListing key (Contains xs) ys → ys ≡ in_order key xs)

-- where all that follows from the old facts is listed, a round from the fresh facts alone is a round
abbrev pub FreshRoundIsRound : Type 0 → Type 0
FreshRoundIsRound X = (rules : Rules X) (old fresh new : List X) → ((x : X) → FollowsFrom rules (Contains old) x → Contains old x ⊎ Contains fresh x) → AddsFromFresh rules old fresh new → AddsRound rules (old ++ fresh) new

-- the facts of ranks up to n with a round are those of ranks up to n + 1; where a round adds nothing they are the least list
pub record RoundsMakeLevels (X : Type 0) : Type 0 where
  pub next : (rules : Rules X) (n : ℕ) (facts new : List X) → IsLevel rules n facts → AddsRound rules facts new → IsLevel rules (suc n) (facts ++ new)
  pub last : (rules : Rules X) (n : ℕ) (facts : List X) → IsLevel rules n facts → AddsRound rules facts [] → IsLeast rules facts

-- nothing follows from nothing
abbrev pub NothingFollows : Type 0 → Type 0
NothingFollows X = (rules : Rules X) (x : X) → FollowsFrom rules (Contains []) x → ⊥

-- forced facts together with a part of a round on them are forced
abbrev pub PartIsForced : Type 0 → Type 0
PartIsForced X = (rules : Rules X) (facts part : List X) → IsForced rules facts → IsPartOfRound rules facts part → IsForced rules (facts ++ part)

-- no closed list is shorter than a forced one
abbrev pub ForcedIsNoLonger : Type 0 → Type 0
ForcedIsNoLonger X = (rules : Rules X) (forced closed : List X) → IsForced rules forced → IsClosed rules closed → length forced ≤ length closed
