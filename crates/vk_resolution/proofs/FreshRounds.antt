-- A round from the fresh facts alone is a round, and a part of a round is forced.
use Rattle.std.proofs.Common.{◌⊎◌, ◌≤◌, List, [], ◌++◌, length, inl, inr}
use Rattle.std.specs.List.{Contains}
use Rattle.std.proofs.lemmas.List.Elements.{Contains-append_left, Contains-append_right, Contains-append_cases}
use Rattle.vk_spec.proofs.ListLemmas.{no_repeats_append, contains_nothing}
use Rattle.vk_resolution.specs.Least.{Rules, FollowsFrom, from_one, from_two, IsClosed, IsForced}
use Rattle.vk_resolution.specs.Rounds.{AddsRound, AddsFromFresh, IsPartOfRound}
use Rattle.vk_resolution.proofs.LeastLemmas.{follows_more, no_longer}

module _ {X : Type 0} (rules : Rules X) (old fresh new : List X) where
  listed : (x : X) → Contains old x ⊎ Contains fresh x → Contains (old ++ fresh) x
  listed x (inl h) = Contains-append_left old fresh x h
  listed x (inr h) = Contains-append_right old fresh x h

  -- what follows from the old facts is listed before the first round, where there are none, and after each round
  pub fresh_round : ((x : X) → FollowsFrom rules (Contains old) x → Contains old x ⊎ Contains fresh x) → AddsFromFresh rules old fresh new → AddsRound rules (old ++ fresh) new
  fresh_round before adds = record {
    sound = adds.sound;
    fresh = adds.apart;
    complete = complete;
    distinct = adds.distinct;
  }
    where
      complete : (x : X) → FollowsFrom rules (Contains (old ++ fresh)) x → Contains (old ++ fresh) x ⊎ Contains new x
      complete x (from_one a holds asked) =
          elim (Contains-append_cases old fresh a holds) [
            | inl was ↦ inl (listed x (before x (from_one a was asked)))
            | inr is ↦ adds.alone a x is asked
          ]
      complete x (from_two a b one other asked) =
          elim (Contains-append_cases old fresh a one) [
            | inl was ↦ elim (Contains-append_cases old fresh b other) [
              | inl too ↦ inl (listed x (before x (from_two a b was too asked)))
              | inr is ↦ adds.second a b x was is asked
            ]
            | inr is ↦ adds.first a b x is other asked
          ]

module _ {X : Type 0} (rules : Rules X) where
  -- nothing follows from nothing
  pub nothing_follows : (x : X) → FollowsFrom rules (Contains []) x → ⊥
  nothing_follows x (from_one a holds asked) = contains_nothing a holds
  nothing_follows x (from_two a b one other asked) = contains_nothing a one

  -- a part of a round is in every closed list
  pub more_forced : (facts part : List X) → IsForced rules facts → IsPartOfRound rules facts part → IsForced rules (facts ++ part)
  more_forced facts part forced reached = record {
    distinct = no_repeats_append facts part forced.distinct reached.distinct (λ x old is. reached.apart x is old);
    within = λ other closed x h. elim (Contains-append_cases facts part x h) [
      | inl was ↦ forced.within other closed x was
      | inr is ↦ closed.steps x (follows_more (forced.within other closed) (reached.sound x is))
    ];
  }

  -- no closed list is shorter than a forced one
  pub forced_no_longer : (forced closed : List X) → IsForced rules forced → IsClosed rules closed → length forced ≤ length closed
  forced_no_longer forced closed is_forced is_closed = no_longer forced closed is_forced.distinct (is_forced.within closed is_closed)
