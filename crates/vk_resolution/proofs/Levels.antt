-- Rounds make the least list, and its order.
use Rattle.std.proofs.Common.{◌≡◌, ◌<◌, ◌≤◌, ℕ, zero, suc, List, [], ◌∷◌, ◌++◌, inl, inr, ap, sym, ◌∙◌, arith}
use Rattle.std.specs.declared.cmp.Ordering.TheVariants.{Less, Equal}
use Rattle.std.specs.Ordering.{ordering_then}
use Rattle.std.specs.Cmp.{nat_cmp_is}
use Rattle.std.specs.List.{Contains}
use Rattle.std.proofs.lemmas.List.Elements.{Contains-append_left, Contains-append_right, Contains-append_cases}
use Rattle.vk_spec.specs.Lists.{NoRepeats, IsWithin}
use Rattle.vk_spec.proofs.ListLemmas.{contains_nothing, contains_first, contains_later, no_repeats_append}
use Rattle.vk_resolution.specs.Keys.{Key, key_cmp, Ascends}
use Rattle.vk_resolution.specs.Least.{Rules, IsForced, IsLeast, HasRank, RanksBefore, IsByRank}
use Rattle.vk_resolution.specs.Rounds.{IsLevel, AddsRound}
use Rattle.vk_resolution.proofs.LeastLemmas.{follows_more, one_rank, reached_within, roots_stay, reached_up}

-- a number in front of a key
pub number_before : (m n : ℕ) (k l : Key) → m < n → key_cmp ((m ∷ []) ∷ k) ((n ∷ []) ∷ l) ≡ Less
number_before m n k l lower = ap (λ o. ordering_then (ordering_then o Equal) (key_cmp k l)) (sym (nat_cmp_is m n Less lower))

pub number_same : (m n : ℕ) (k l : Key) → m ≡ n → key_cmp ((m ∷ []) ∷ k) ((n ∷ []) ∷ l) ≡ key_cmp k l
number_same m n k l same = ap (λ o. ordering_then (ordering_then o Equal) (key_cmp k l)) (sym (nat_cmp_is m n Equal same))

module _ {X : Type 0} (rules : Rules X) where
  -- the roots, each once, are the facts of rank 0
  pub level_first : (facts : List X) → IsWithin facts rules.roots → IsWithin rules.roots facts → NoRepeats facts → IsLevel rules zero facts
  level_first facts to from distinct = record { sound = to; complete = from; distinct = distinct }

  pub level_next : (n : ℕ) (facts new : List X) → IsLevel rules n facts → AddsRound rules facts new → IsLevel rules (suc n) (facts ++ new)
  level_next n facts new level adds = record {
    sound = λ x h. elim (Contains-append_cases facts new x h) [
      | inl old ↦ inl (level.sound x old)
      | inr fresh ↦ inr (follows_more level.sound (adds.sound x fresh))
    ];
    complete = λ x reached. elim reached [
      | inl before ↦ Contains-append_left facts new x (level.complete x before)
      | inr follows ↦ elim (adds.complete x (follows_more level.complete follows)) [
        | inl known ↦ Contains-append_left facts new x known
        | inr fresh ↦ Contains-append_right facts new x fresh
      ]
    ];
    distinct = no_repeats_append facts new level.distinct adds.distinct (λ x old fresh. adds.fresh x fresh old);
  }

  -- a level is in every closed list
  pub level_forced : (n : ℕ) (facts : List X) → IsLevel rules n facts → IsForced rules facts
  level_forced n facts level = record { distinct = level.distinct; within = λ other closed x h. reached_within rules other closed n x (level.sound x h) }

  -- a level to which a round adds nothing is the least list
  pub level_last : (n : ℕ) (facts : List X) → IsLevel rules n facts → AddsRound rules facts [] → IsLeast rules facts
  level_last n facts level adds = record {
    closed = record {
      roots = λ x h. level.complete x (roots_stay rules n x h);
      steps = λ x follows. elim (adds.complete x follows) [ inl known ↦ known | inr none ↦ absurd (contains_nothing x none) ];
    };
    forced = level_forced n facts level;
  }

  -- what a round adds has the next rank
  pub rank_next : (n : ℕ) (facts new : List X) → IsLevel rules n facts → AddsRound rules facts new → (x : X) → Contains new x → HasRank rules (suc n) x
  rank_next n facts new level adds x h = record {
    reached = (level_next n facts new level adds).sound x (Contains-append_right facts new x h);
    no_lower = λ m lower reached. adds.fresh x h (level.complete x (reached_up rules m n x (omega arith) reached));
  }

  pub root_rank : (x : X) → Contains rules.roots x → HasRank rules zero x
  root_rank x h = record { reached = h; no_lower = λ m lower reached. absurd (omega arith) }

  module _ (key : X → Key) where
    pub by_rank_append : (xs ys : List X) → IsByRank rules key xs → IsByRank rules key ys → ((x y : X) → Contains xs x → Contains ys y → RanksBefore rules key x y) → IsByRank rules key (xs ++ ys)
    by_rank_append [] ys left right across = right
    by_rank_append (x ∷ xs) ys left right across = (
      (λ y h. elim (Contains-append_cases xs ys y h) [ inl old ↦ left.0 y old | inr new ↦ across x y (contains_first x xs) new ]),
      by_rank_append xs ys left.1 right (λ z y in_xs in_ys. across z y (contains_later x z xs in_xs) in_ys),
    )

    -- facts of one rank in order by their keys
    pub by_rank_level : (n : ℕ) (xs : List X) → Ascends key xs → ((x : X) → Contains xs x → HasRank rules n x) → IsByRank rules key xs
    by_rank_level n [] ascends each = tt
    by_rank_level n (x ∷ xs) ascends each = (
      (λ y h m k rank_x rank_y. (
          let same_x : m ≡ n = one_rank rules m n x rank_x (each x (contains_first x xs)) in
          let same_y : k ≡ n = one_rank rules k n y rank_y (each y (contains_later x y xs h)) in
          number_same m k (key x) (key y) (same_x ∙ sym same_y) ∙ ascends.0 y h
          )),
      by_rank_level n xs ascends.1 (λ y h. each y (contains_later x y xs h)),
    )

    -- a round's facts in order, behind those of lower ranks
    pub by_rank_next : (n : ℕ) (facts new : List X) → IsLevel rules n facts → AddsRound rules facts new → IsByRank rules key facts → Ascends key new → ((x : X) → Contains facts x → (m : ℕ) × (m ≤ n) × HasRank rules m x) → IsByRank rules key (facts ++ new)
    by_rank_next n facts new level adds order ascends ranked =
        by_rank_append facts new order (by_rank_level (suc n) new ascends (rank_next n facts new level adds)) (λ x y in_old in_new m k rank_x rank_y. (
        let r = ranked x in_old in
        let same_x : m ≡ r.0 = one_rank rules m r.0 x rank_x r.2 in
        let same_y : k ≡ suc n = one_rank rules k (suc n) y rank_y (rank_next n facts new level adds y in_new) in
        let below : r.0 ≤ n = r.1 in
        number_before m k (key x) (key y) (omega arith)
        ))
