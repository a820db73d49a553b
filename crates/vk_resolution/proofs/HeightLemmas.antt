-- Heights, from those of the targets.
use Rattle.std.proofs.Common.{◌≡◌, ◌<◌, ◌≤◌, ◌+◌, ◌-◌, ℕ, zero, suc, Bool, true, false, List, [], ◌∷◌, inl, inr, zero-add, refl, ap, sym, subst, arith}
use Rattle.std.specs.List.{Contains, list_all}
use Rattle.vk_spec.specs.Settings.{Instance}
use Rattle.vk_spec.proofs.ListLemmas.{contains_nothing, contains_first, contains_later, contains_cases}
use Rattle.vk_resolution.specs.Planning.{is_within, HasHeight}
use Rattle.vk_resolution.specs.Walks.{Targets}
use Rattle.vk_resolution.specs.Heights.{IsOneMore, at_bottom, above, TargetsHaveHeights, HeightIsOneMore}
use Rattle.vk_resolution.proofs.Members.{true_false, no_is_false, all_contains, contains_all, not_all}

none_is_empty : (js : List Instance) → list_all (λ j. false) js ≡ true → js ≡ []
none_is_empty [] e = refl
none_is_empty (j ∷ js) e = (cc)

module _ (targets : Targets) where
  within_next : (n : ℕ) (i : Instance) → is_within targets n i ≡ true → is_within targets (suc n) i ≡ true
  within_next zero i e = contains_all (is_within targets zero) (targets i) (λ j h. absurd (true_false false (all_contains (λ k. false) (targets i) e j h) refl))
  within_next (suc n) i e = contains_all (is_within targets (suc n)) (targets i) (λ j h. within_next n j (all_contains (is_within targets n) (targets i) e j h))

  within_by : (m k : ℕ) (i : Instance) → is_within targets m i ≡ true → is_within targets (k + m) i ≡ true
  within_by m zero i e = subst (λ n. is_within targets n i ≡ true) (sym (zero-add m)) e
  within_by m (suc k) i e =
      let more : suc k + m ≡ suc (k + m) = omega arith in
      subst (λ n. is_within targets n i ≡ true) (sym more) (within_next (k + m) i (within_by m k i e))

  -- where no way is longer than m, none is longer than more
  pub within_up : (m n : ℕ) (i : Instance) → m ≤ n → is_within targets m i ≡ true → is_within targets n i ≡ true
  within_up m n i below e =
      let up : (n - m) + m ≡ n = omega arith in
      subst (λ k. is_within targets k i ≡ true) up (within_by m (n - m) i e)

  -- a height from where the ways begin to be that short
  pub height_here : (n : ℕ) (i : Instance) → is_within targets (suc n) i ≡ true → is_within targets n i ≡ false → HasHeight targets (suc n) i
  height_here n i within long = record { within = within; no_lower = λ m lower. no_is_false (is_within targets m i) (λ short. true_false (is_within targets n i) (within_up m n i (omega arith) short) long) }

  -- what is within a bound has a height
  pub within_height : (n : ℕ) (i : Instance) → is_within targets n i ≡ true → (m : ℕ) × (m ≤ n) × HasHeight targets m i
  within_height zero i e = (zero, omega arith, record { within = e; no_lower = λ m lower. absurd (omega arith) })
  within_height (suc n) i e = by_test (is_within targets n i) refl (λ short. within_height n i short)
    where
      by_test : (b : Bool) → is_within targets n i ≡ b → (is_within targets n i ≡ true → (m : ℕ) × (m ≤ n) × HasHeight targets m i) → (m : ℕ) × (m ≤ suc n) × HasHeight targets m i
      by_test true short lower = (let r = lower short in let below : r.0 ≤ n = r.1 in (r.0, omega arith, r.2))
      by_test false long lower = (suc n, omega arith, height_here n i e long)

  -- no height of what is within n is above n
  pub height_within : (m n : ℕ) (i : Instance) → HasHeight targets m i → is_within targets n i ≡ true → m ≤ n
  height_within m n i height within =
      let not_above : n < m → ⊥ = λ lower. true_false (is_within targets n i) within (height.no_lower n lower) in
      omega arith

  -- the targets of what has a height have heights
  pub targets_heights : (n : ℕ) (i : Instance) → HasHeight targets n i → TargetsHaveHeights targets i
  targets_heights zero i height j h = absurd (contains_nothing j (subst (λ l. Contains l j) (none_is_empty (targets i) height.within) h))
  targets_heights (suc n) i height j h = let r = within_height n j (all_contains (is_within targets n) (targets i) height.within j h) in (r.0, r.2)

  -- where the ways of the targets are at most n long, and not all at most shorter, one of them has height n
  one_at : (n : ℕ) (i : Instance) → is_within targets (suc n) i ≡ true → is_within targets n i ≡ false → (j : Instance) × Contains (targets i) j × HasHeight targets n j
  one_at zero i within long =
      let r = not_all (λ j. false) (targets i) long in
      (r.0, r.1, record { within = all_contains (is_within targets zero) (targets i) within r.0 r.1; no_lower = λ m lower. absurd (omega arith) })
  one_at (suc n) i within long =
      let r = not_all (is_within targets n) (targets i) long in
      (r.0, r.1, height_here n r.0 (all_contains (is_within targets (suc n)) (targets i) within r.0 r.1) r.2)

  height_is : (n : ℕ) (i : Instance) → HasHeight targets n i → IsOneMore targets i n
  height_is zero i height = at_bottom (none_is_empty (targets i) height.within)
  height_is (suc n) i height =
      let below : n < suc n = omega arith in
      let r = one_at n i height.within (height.no_lower n below) in
      above r.0 n r.1 r.2 (λ k m h is. height_within m n k is (all_contains (is_within targets n) (targets i) height.within k h))

  is_height : (n : ℕ) (i : Instance) → TargetsHaveHeights targets i → IsOneMore targets i n → HasHeight targets n i
  is_height _ i heights (at_bottom none) = record { within = ap (list_all (λ j. false)) none; no_lower = λ m lower. absurd (omega arith) }
  is_height _ i heights (above j m at height greatest) = record {
    within = contains_all (is_within targets m) (targets i) (λ k h. (let r = heights k h in within_up r.0 m k (greatest k r.0 h r.1) r.1.within));
    no_lower = lower;
  }
    where
      lower : (n : ℕ) → n < suc m → is_within targets n i ≡ false
      lower zero less = no_is_false (is_within targets zero i) (λ short. true_false false (all_contains (λ k. false) (targets i) short j at) refl)
      lower (suc n) less = no_is_false (is_within targets (suc n) i) (λ short. true_false (is_within targets n j) (all_contains (is_within targets n) (targets i) short j at) (height.no_lower n (omega arith)))

  -- a bound of all their ways
  bound : (js : List Instance) → ((j : Instance) → Contains js j → (n : ℕ) × HasHeight targets n j) → (b : ℕ) × ((j : Instance) → Contains js j → is_within targets b j ≡ true)
  bound [] heights = (zero, λ j h. absurd (contains_nothing j h))
  bound (k ∷ js) heights =
      let here = heights k (contains_first k js) in
      let rest = bound js (λ j h. heights j (contains_later k j js h)) in (
        here.0 + rest.0,
        λ j h. elim (contains_cases k j js h) [
          | inl same ↦ subst (λ l. is_within targets (here.0 + rest.0) l ≡ true) same (within_up here.0 (here.0 + rest.0) k (omega arith) here.1.within)
          | inr later ↦ within_up rest.0 (here.0 + rest.0) j (omega arith) (rest.1 j later)
        ],
      )

  -- where each target has a height, the instance has one
  pub height_there : (i : Instance) → TargetsHaveHeights targets i → (n : ℕ) × HasHeight targets n i
  height_there i heights =
      let b = bound (targets i) heights in
      let r = within_height (suc b.0) i (contains_all (is_within targets b.0) (targets i) b.1) in
      (r.0, r.2)

pub height_is_one_more : HeightIsOneMore
height_is_one_more targets i heights n = (height_is targets n i, is_height targets n i heights)
