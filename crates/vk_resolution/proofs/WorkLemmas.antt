-- A worklist, step by step: what is noted, a fact more that is taken up, a level's end, the end.
use Rattle.std.proofs.Common.{◌≤◌, ◌⊎◌, ℕ, zero, suc, List, [], ◌∷◌, ◌++◌, inl, inr, sym, subst, arith}
use Rattle.std.specs.List.{Contains}
use Rattle.std.proofs.lemmas.List.Elements.{Contains-append_left, Contains-append_right, Contains-append_cases, Contains-push_cases}
use Rattle.vk_spec.specs.Lists.{NoRepeats, IsWithin}
use Rattle.vk_spec.proofs.ListLemmas.{contains_nothing, contains_cases, no_repeats_push}
use Rattle.vk_resolution.specs.Keys.{Key, Ascends}
use Rattle.vk_resolution.specs.Least.{Rules, FollowsFrom, from_one, from_two, IsLeastInOrder}
use Rattle.vk_resolution.specs.Rounds.{AddsRound}
use Rattle.vk_resolution.specs.Worklist.{Brings, alone, first, second, IsBrought, Notes, IsTaken, IsOrdered, IsWork}
use Rattle.vk_resolution.proofs.LeastLemmas.{follows_more}
use Rattle.vk_resolution.proofs.Levels.{level_first, level_next, level_last, rank_next, root_rank, by_rank_level, by_rank_next}
use Rattle.vk_resolution.proofs.FreshRounds.{nothing_follows}

module _ {X : Type 0} where
  -- ---- notes

  pub notes_nothing : (facts old : List X) → Notes facts [] old old
  notes_nothing facts old = record {
    kept = λ x h. h;
    sound = λ x h. inl h;
    fresh = λ x h. inl h;
    complete = λ x h. absurd (contains_nothing x h);
    distinct = λ d. d;
  }

  pub notes_known : (facts old : List X) (x : X) → Contains facts x ⊎ Contains old x → Notes facts (x ∷ []) old old
  notes_known facts old x known = record {
    kept = λ y h. h;
    sound = λ y h. inl h;
    fresh = λ y h. inl h;
    complete = λ y h. elim (contains_cases x y [] h) [ inl same ↦ subst (λ z. Contains facts z ⊎ Contains old z) same known | inr none ↦ absurd (contains_nothing y none) ];
    distinct = λ d. d;
  }

  pub notes_new : (facts old : List X) (x : X) → (Contains facts x → ⊥) → (Contains old x → ⊥) → Notes facts (x ∷ []) old (old ++ x ∷ [])
  notes_new facts old x unknown unnoted = record {
    kept = λ y h. Contains-append_left old (x ∷ []) y h;
    sound = λ y h. Contains-append_cases old (x ∷ []) y h;
    fresh = λ y h. elim (Contains-push_cases old x y h) [ inl was ↦ inl was | inr same ↦ inr (λ known. unknown (subst (Contains facts) (sym same) known)) ];
    complete = λ y h. inr (Contains-append_right old (x ∷ []) y h);
    distinct = λ d. no_repeats_push old x d unnoted;
  }

  pub notes_then : {facts one two a b c : List X} → Notes facts one a b → Notes facts two b c → Notes facts (one ++ two) a c
  notes_then {facts = facts} {one = one} {two = two} {a = a} {b = b} {c = c} r s = record {
    kept = λ x h. s.kept x (r.kept x h);
    sound = λ x h. elim (s.sound x h) [
      | inl was ↦ elim (r.sound x was) [ inl old ↦ inl old | inr asked ↦ inr (Contains-append_left one two x asked) ]
      | inr asked ↦ inr (Contains-append_right one two x asked)
    ];
    fresh = λ x h. elim (s.fresh x h) [ inl was ↦ r.fresh x was | inr new ↦ inr new ];
    complete = λ x h. elim (Contains-append_cases one two x h) [
      | inl asked ↦ elim (r.complete x asked) [ inl known ↦ inl known | inr noted ↦ inr (s.kept x noted) ]
      | inr asked ↦ s.complete x asked
    ];
    distinct = λ d. s.distinct (r.distinct d);
  }

  module _ (rules : Rules X) where
    -- ---- taking up one fact more

    -- what follows with one fact more follows without it, or is brought up by it: this is all that there is to working level by level
    pub follows_push : (taken : List X) (y x : X) → FollowsFrom rules (Contains (taken ++ y ∷ [])) x → FollowsFrom rules (Contains taken) x ⊎ Brings rules taken y x
    follows_push taken y x (from_one a holds asked) =
        elim (Contains-push_cases taken y a holds) [
          | inl old ↦ inl (from_one a old asked)
          | inr same ↦ inr (alone (subst (λ z. Contains (rules.alone z) x) (sym same) asked))
        ]
    follows_push taken y x (from_two a b one other asked) =
        elim (Contains-push_cases taken y a one) [
          | inl old_a ↦ elim (Contains-push_cases taken y b other) [
            | inl old_b ↦ inl (from_two a b old_a old_b asked)
            | inr same ↦ inr (second a one (subst (λ z. Contains (rules.together a z) x) (sym same) asked))
          ]
          | inr same ↦ inr (first b other (subst (λ z. Contains (rules.together z b) x) (sym same) asked))
        ]

    pub take_up : (facts taken fresh : List X) (y : X) (brought new : List X) → IsTaken rules facts taken fresh → IsBrought rules taken y brought → Notes facts brought fresh new → IsTaken rules facts (taken ++ y ∷ []) new
    take_up facts taken fresh y brought new was brings notes = record {
      sound = λ x h. elim (notes.sound x h) [
        | inl old ↦ follows_more (λ z held. Contains-append_left taken (y ∷ []) z held) (was.sound x old)
        | inr asked ↦ brings.sound x asked
      ];
      apart = λ x h known. elim (notes.fresh x h) [ inl old ↦ was.apart x old known | inr unknown ↦ unknown known ];
      complete = λ x follows. elim (follows_push taken y x follows) [
        | inl before ↦ elim (was.complete x before) [ inl known ↦ inl known | inr old ↦ inr (notes.kept x old) ]
        | inr asked ↦ notes.complete x (brings.complete x asked)
      ];
      distinct = notes.distinct was.distinct;
    }

    -- ---- a level's end

    -- where all lines are taken up, the fresh ones are what a round adds
    pub taken_round : (facts taken fresh : List X) → IsWithin taken facts → IsWithin facts taken → IsTaken rules facts taken fresh → AddsRound rules facts fresh
    taken_round facts taken fresh within all was = record {
      sound = λ x h. follows_more within (was.sound x h);
      fresh = was.apart;
      complete = λ x follows. was.complete x (follows_more all follows);
      distinct = was.distinct;
    }

    -- a round's facts in another order
    pub round_sorted : (facts fresh sorted : List X) → IsWithin fresh sorted → IsWithin sorted fresh → NoRepeats sorted → AddsRound rules facts fresh → AddsRound rules facts sorted
    round_sorted facts fresh sorted to from distinct adds = record {
      sound = λ x h. adds.sound x (from x h);
      fresh = λ x h. adds.fresh x (from x h);
      complete = λ x follows. elim (adds.complete x follows) [ inl known ↦ inl known | inr new ↦ inr (to x new) ];
      distinct = distinct;
    }

    -- the lines of a new level, of which those before it are taken up
    pub taken_next : (facts sorted : List X) → AddsRound rules facts sorted → IsTaken rules (facts ++ sorted) facts []
    taken_next facts sorted adds = record {
      sound = λ x h. absurd (contains_nothing x h);
      apart = λ x h known. contains_nothing x h;
      complete = λ x follows. elim (adds.complete x follows) [
        | inl known ↦ inl (Contains-append_left facts sorted x known)
        | inr new ↦ inl (Contains-append_right facts sorted x new)
      ];
      distinct = tt;
    }

    -- nothing is taken up yet
    pub taken_none : (facts : List X) → IsTaken rules facts [] []
    taken_none facts = record {
      sound = λ x h. absurd (contains_nothing x h);
      apart = λ x h known. contains_nothing x h;
      complete = λ x follows. absurd (nothing_follows rules x follows);
      distinct = tt;
    }

    module _ (key : X → Key) where
      pub ordered_first : (facts : List X) → IsWithin facts rules.roots → IsWithin rules.roots facts → NoRepeats facts → Ascends key facts → IsOrdered rules key zero facts
      ordered_first facts to from distinct ascends = record {
        level = level_first rules facts to from distinct;
        order = by_rank_level rules key zero facts ascends (λ x h. root_rank rules x (to x h));
        ranked = λ x h. (zero, omega arith, root_rank rules x (to x h));
      }

      pub ordered_next : (n : ℕ) (facts sorted : List X) → IsOrdered rules key n facts → AddsRound rules facts sorted → Ascends key sorted → IsOrdered rules key (suc n) (facts ++ sorted)
      ordered_next n facts sorted was adds ascends = record {
        level = level_next rules n facts sorted was.level adds;
        order = by_rank_next rules key n facts sorted was.level adds was.order ascends was.ranked;
        ranked = λ x h. elim (Contains-append_cases facts sorted x h) [
          | inl old ↦ (let r = was.ranked x old in (r.0, (let below : r.0 ≤ n = r.1 in omega arith), r.2))
          | inr new ↦ (suc n, omega arith, rank_next rules n facts sorted was.level adds x new)
        ];
      }

      -- ---- all of it

      pub work_first : (facts : List X) → IsWithin facts rules.roots → IsWithin rules.roots facts → NoRepeats facts → Ascends key facts → IsWork rules key facts [] []
      work_first facts to from distinct ascends = record {
        rank = zero;
        ordered = ordered_first facts to from distinct ascends;
        within = λ x h. absurd (contains_nothing x h);
        work = taken_none facts;
      }

      pub work_more : (facts taken fresh : List X) (y : X) (brought new : List X) → IsWork rules key facts taken fresh → Contains facts y → IsBrought rules taken y brought → Notes facts brought fresh new → IsWork rules key facts (taken ++ y ∷ []) new
      work_more facts taken fresh y brought new was here brings notes = record {
        rank = was.rank;
        ordered = was.ordered;
        within = λ x h. elim (Contains-push_cases taken y x h) [ inl old ↦ was.within x old | inr same ↦ subst (Contains facts) same here ];
        work = take_up facts taken fresh y brought new was.work brings notes;
      }

      pub work_next : (facts fresh sorted : List X) → IsWork rules key facts facts fresh → IsWithin fresh sorted → IsWithin sorted fresh → NoRepeats sorted → Ascends key sorted → IsWork rules key (facts ++ sorted) facts []
      work_next facts fresh sorted was to from distinct ascends =
          let adds = round_sorted facts fresh sorted to from distinct (taken_round facts facts fresh (λ x h. h) (λ x h. h) was.work) in
          record {
            rank = suc was.rank;
            ordered = ordered_next was.rank facts sorted was.ordered adds ascends;
            within = λ x h. Contains-append_left facts sorted x h;
            work = taken_next facts sorted adds;
          }

      pub work_last : (facts : List X) → IsWork rules key facts facts [] → IsLeastInOrder rules key facts
      work_last facts was = record {
        least = level_last rules was.rank facts was.ordered.level (taken_round facts facts [] (λ x h. h) (λ x h. h) was.work);
        order = was.ordered.order;
      }
