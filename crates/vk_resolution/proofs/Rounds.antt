-- Rounds reach the facts of each rank, and end in the least list in its order.
use Rattle.std.proofs.Common.{◌≡◌, ◌≤◌, ◌⊎◌, ℕ, zero, suc, true, not, filter, List, [], ◌∷◌, ◌++◌, length, length-append, inl, inr, refl, ap, sym, ◌∙◌, subst, arith}
use Rattle.std.specs.List.{Contains, flat_map}
use Rattle.std.proofs.lemmas.List.Elements.{Contains-append_left, Contains-append_right, Contains-append_cases}
use Rattle.vk_spec.specs.Lists.{NoRepeats, IsWithin}
use Rattle.vk_spec.proofs.ListLemmas.{contains_nothing, contains_first, contains_later, contains_cases, contains-flat_map, flat_map-contains}
use Rattle.vk_resolution.specs.Keys.{Key, same_key, IsKey, Ascends, in_order}
use Rattle.vk_resolution.specs.Least.{Rules, FollowsFrom, from_one, from_two, IsClosed, IsLeast, HasRank, IsByRank, IsLeastInOrder}
use Rattle.vk_resolution.specs.Computed.{has_key, following, new_from, round, is_nothing}
use Rattle.vk_resolution.proofs.Members.{true_or_false, contains_filter, filter_contains, any_contains, contains_any, not_true, not_false, true_false}
use Rattle.vk_resolution.proofs.Orders.{same_key-Decides, before_both, contains-in_order, in_order-contains, in_order-ascends, ascends-NoRepeats}
use Rattle.vk_resolution.proofs.LeastLemmas.{reached_within, no_longer}
use Rattle.vk_resolution.specs.Rounds.{IsLevel, AddsRound}
use Rattle.vk_resolution.proofs.Levels.{level_first, level_next, level_last, rank_next, root_rank, by_rank_level, by_rank_next}

pub is_nothing-nil : {X : Type 0} (xs : List X) → is_nothing xs ≡ true → xs ≡ []
is_nothing-nil [] e = refl
is_nothing-nil (x ∷ xs) e = (cc)

module _ {X : Type 0} (rules : Rules X) (key : X → Key) (is_key : IsKey key) where
  pub has_key-contains : (xs : List X) (x : X) → has_key key xs x ≡ true → Contains xs x
  has_key-contains xs x e =
      let r = any_contains (λ y. same_key (key x) (key y)) xs e in
      subst (Contains xs) (sym (is_key x r.0 ((same_key-Decides (key x) (key r.0)).0 r.2))) r.1

  pub contains-has_key : (xs : List X) (x : X) → Contains xs x → has_key key xs x ≡ true
  contains-has_key xs x h = contains_any (λ y. same_key (key x) (key y)) xs x h ((same_key-Decides (key x) (key x)).1 refl)

  pub follows_following : (facts : List X) (x : X) → FollowsFrom rules (Contains facts) x → Contains (following rules facts) x
  follows_following facts x (from_one a holds asked) =
      Contains-append_left (flat_map rules.alone facts) (flat_map (λ b. flat_map (rules.together b) facts) facts) x (flat_map-contains rules.alone facts a x holds asked)
  follows_following facts x (from_two a b one other asked) =
      Contains-append_right (flat_map rules.alone facts) (flat_map (λ c. flat_map (rules.together c) facts) facts) x
      (flat_map-contains (λ c. flat_map (rules.together c) facts) facts a x one (flat_map-contains (rules.together a) facts b x other asked))

  pub following_follows : (facts : List X) (x : X) → Contains (following rules facts) x → FollowsFrom rules (Contains facts) x
  following_follows facts x h =
      elim (Contains-append_cases (flat_map rules.alone facts) (flat_map (λ b. flat_map (rules.together b) facts) facts) x h) [
        | inl alone ↦ (let r = contains-flat_map rules.alone facts x alone in from_one r.0 r.1 r.2)
        | inr both ↦ (let r = contains-flat_map (λ b. flat_map (rules.together b) facts) facts x both in
            let q = contains-flat_map (rules.together r.0) facts x r.2 in
            from_two r.0 q.0 r.1 q.1 q.2)
      ]

  new_ascends : (facts : List X) → Ascends key (new_from rules key facts)
  new_ascends facts = in_order-ascends key (filter (λ y. not (has_key key facts y)) (following rules facts))

  pub new_follows : (facts : List X) (x : X) → Contains (new_from rules key facts) x → FollowsFrom rules (Contains facts) x × (Contains facts x → ⊥)
  new_follows facts x h =
      let r = contains_filter (λ y. not (has_key key facts y)) (following rules facts) x (contains-in_order key _ x h) in
      (following_follows facts x r.0, λ held. true_false (has_key key facts x) (contains-has_key facts x held) (not_true (has_key key facts x) r.1))

  pub follows_new : (facts : List X) (x : X) → FollowsFrom rules (Contains facts) x → Contains facts x ⊎ Contains (new_from rules key facts) x
  follows_new facts x follows =
      elim (true_or_false (has_key key facts x)) [
        | inl known ↦ inl (has_key-contains facts x known)
        | inr unknown ↦ inr (in_order-contains key is_key _ x (filter_contains (λ y. not (has_key key facts y)) (following rules facts) x (follows_following facts x follows) (not_false (has_key key facts x) unknown)))
      ]

  pub new_adds : (facts : List X) → AddsRound rules facts (new_from rules key facts)
  new_adds facts = record {
    sound = λ x h. (new_follows facts x h).0;
    fresh = λ x h. (new_follows facts x h).1;
    complete = follows_new facts;
    distinct = ascends-NoRepeats key (new_from rules key facts) (new_ascends facts);
  }

  pub round_level : (n : ℕ) → IsLevel rules n (round rules key n)
  round_level zero = level_first rules (in_order key rules.roots) (contains-in_order key rules.roots) (in_order-contains key is_key rules.roots) (ascends-NoRepeats key (in_order key rules.roots) (in_order-ascends key rules.roots))
  round_level (suc n) = level_next rules n (round rules key n) (new_from rules key (round rules key n)) (round_level n) (new_adds (round rules key n))

  -- each member of a round has a rank, at most its number
  pub ranked : (n : ℕ) (x : X) → Contains (round rules key n) x → (m : ℕ) × (m ≤ n) × HasRank rules m x
  ranked zero x h = (zero, omega arith, root_rank rules x (contains-in_order key rules.roots x h))
  ranked (suc n) x h =
      elim (Contains-append_cases (round rules key n) (new_from rules key (round rules key n)) x h) [
        | inl old ↦ (let r = ranked n x old in (r.0, (let b : r.0 ≤ n = r.1 in omega arith), r.2))
        | inr new ↦ (suc n, omega arith, rank_next rules n (round rules key n) (new_from rules key (round rules key n)) (round_level n) (new_adds (round rules key n)) x new)
      ]

  pub round_by_rank : (n : ℕ) → IsByRank rules key (round rules key n)
  round_by_rank zero = by_rank_level rules key zero (in_order key rules.roots) (in_order-ascends key rules.roots) (λ x h. root_rank rules x (contains-in_order key rules.roots x h))
  round_by_rank (suc n) =
      by_rank_next rules key n (round rules key n) (new_from rules key (round rules key n)) (round_level n) (new_adds (round rules key n)) (round_by_rank n) (new_ascends (round rules key n)) (ranked n)

  -- a round to which nothing is added is the least list in its order
  pub round_least : (n : ℕ) → new_from rules key (round rules key n) ≡ [] → IsLeastInOrder rules key (round rules key n)
  round_least n nothing = record { least = level_last rules n (round rules key n) (round_level n) (subst (AddsRound rules (round rules key n)) nothing (new_adds (round rules key n))); order = round_by_rank n }

  stops_or_grows : (n : ℕ) → ((k : ℕ) × (new_from rules key (round rules key k) ≡ [])) ⊎ (n ≤ length (round rules key n))
  stops_or_grows zero = inr (omega arith)
  stops_or_grows (suc n) =
      elim (stops_or_grows n) [
        | inl stopped ↦ inl stopped
        | inr grown ↦ grow_by n (new_from rules key (round rules key n)) refl grown
      ]
    where
      grow_by : (n : ℕ) (new : List X) → new_from rules key (round rules key n) ≡ new → n ≤ length (round rules key n) → ((k : ℕ) × (new_from rules key (round rules key k) ≡ [])) ⊎ (suc n ≤ length (round rules key n ++ new_from rules key (round rules key n)))
      grow_by n [] e grown = inl (n, e)
      grow_by n (x ∷ new) e grown =
          let long : length (new_from rules key (round rules key n)) ≡ suc (length new) = ap length e in
          inr (omega (arith, length-append (round rules key n) (new_from rules key (round rules key n))))

  -- where there is a closed list, some round is the last
  pub rounds_end : (other : List X) → IsClosed rules other → (k : ℕ) × (new_from rules key (round rules key k) ≡ [])
  rounds_end other closed =
      elim (stops_or_grows (suc (length other))) [
        | inl stopped ↦ stopped
        | inr grown ↦ (
            let n : ℕ = suc (length other) in
            let short : length (round rules key n) ≤ length other = no_longer (round rules key n) other (round_level n).distinct (λ x h. reached_within rules other closed n x ((round_level n).sound x h)) in
            absurd (omega arith)
            )
      ]

  -- so there is a least list in its order
  pub least_exists : (other : List X) → IsClosed rules other → (facts : List X) × IsLeastInOrder rules key facts
  least_exists other closed = let r = rounds_end other closed in (round rules key r.0, round_least r.0 r.1)

  -- each member of a least list has a rank
  pub member_ranked : (facts : List X) → IsLeast rules facts → (x : X) → Contains facts x → (m : ℕ) × HasRank rules m x
  member_ranked facts least x h =
      let r = rounds_end facts least.closed in
      let q = ranked r.0 x (least.forced.within (round rules key r.0) (round_least r.0 r.1).least.closed x h) in
      (q.0, q.2)

  -- two least lists in their order are one list
  pub ordered_one : (xs ys : List X) → IsByRank rules key xs → IsByRank rules key ys → NoRepeats xs → NoRepeats ys → ((z : X) → Contains xs z → (m : ℕ) × HasRank rules m z) → IsWithin xs ys → IsWithin ys xs → xs ≡ ys
  ordered_one [] [] a b dx dy ranks to from = refl
  ordered_one [] (y ∷ ys) a b dx dy ranks to from = absurd (contains_nothing y (from y (contains_first y ys)))
  ordered_one (x ∷ xs) [] a b dx dy ranks to from = absurd (contains_nothing x (to x (contains_first x xs)))
  ordered_one (x ∷ xs) (y ∷ ys) a b dx dy ranks to from =
      let same : x ≡ y = elim (contains_cases y x ys (to x (contains_first x xs))) [
        | inl e ↦ sym e
        | inr later_x ↦ elim (contains_cases x y xs (from y (contains_first y ys))) [
          | inl e ↦ e
          | inr later_y ↦ (
              let m = ranks x (contains_first x xs) in
              let n = ranks y (contains_later x y xs later_y) in
              absurd (before_both ((m.0 ∷ []) ∷ key x) ((n.0 ∷ []) ∷ key y) (a.0 y later_y m.0 n.0 m.1 n.1) (b.0 x later_x n.0 m.0 n.1 m.1))
              )
        ]
      ] in
      let tails : xs ≡ ys = ordered_one xs ys a.1 b.1 dx.1 dy.1 (λ z h. ranks z (contains_later x z xs h))
      (λ z h. elim (contains_cases y z ys (to z (contains_later x z xs h))) [ inl e ↦ absurd (dx.0 (subst (Contains xs) (sym (same ∙ e)) h)) | inr later ↦ later ])
      (λ z h. elim (contains_cases x z xs (from z (contains_later y z ys h))) [ inl e ↦ absurd (dy.0 (subst (Contains ys) (sym (sym same ∙ e)) h)) | inr later ↦ later ]) in
      (cc)

  pub least_in_order_one : (xs ys : List X) → IsLeastInOrder rules key xs → IsLeastInOrder rules key ys → xs ≡ ys
  least_in_order_one xs ys one other =
      ordered_one xs ys one.order other.order one.least.forced.distinct other.least.forced.distinct (member_ranked xs one.least) (one.least.forced.within ys other.least.closed) (other.least.forced.within xs one.least.closed)
