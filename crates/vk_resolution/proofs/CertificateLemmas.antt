-- A derivation by numbered lines, closed and without repeats, is the least list.
use Rattle.std.proofs.Common.{◌≡◌, ◌⊎◌, ℕ, List, [], ◌∷◌, ◌++◌, inl, inr, sym, subst}
use Rattle.std.specs.Prelude.{Some, option_map}
use Rattle.std.specs.List.{Contains}
use Rattle.vk_resolution.specs.Least.{FollowsFrom, from_one, from_two, IsDerived}
use Rattle.vk_resolution.specs.Asking.{Fact, root_facts_of}
use Rattle.vk_resolution.specs.Consequences.{Inputs, Step, Cause, by_root, by_baseline, by_override, by_overlay, by_minimum, by_one, by_two, rules_of, steps_from, FollowsBy}
use Rattle.vk_resolution.specs.Reasons.{Reason, facts_of, fact_at, with_facts, IsDerivation}
use Rattle.vk_resolution.specs.Laws.{CertificateIsLeast}
use Rattle.vk_resolution.proofs.Members.{map_contains}
use Rattle.vk_resolution.proofs.LeastLemmas.{derived_least}
use Rattle.vk_resolution.proofs.Soundness.{then_some, map_some}
use Rattle.vk_resolution.proofs.LineLemmas.{at_contains}

module _ (inputs : Inputs) (before : List Fact) (x : Fact) where
  by_step : (a : Fact) (cause : Cause Fact) → Contains before a → Contains (steps_from inputs a) (record { fact = x; cause = cause }) → FollowsFrom (rules_of inputs) (Contains before) x
  by_step a cause holds step = from_one a holds (map_contains (λ (s : Step). s.fact) (steps_from inputs a) (record { fact = x; cause = cause }) step)

  -- where one line is cited
  from_line : (cause_by : Fact → Cause Fact) (cited : Cause Fact) (n : ℕ) → ((a : Fact) → FollowsBy inputs (cause_by a) x → Contains (steps_from inputs a) (record { fact = x; cause = cause_by a })) → option_map cause_by (fact_at before n) ≡ Some cited → FollowsBy inputs cited x
      → FollowsFrom (rules_of inputs) (Contains before) x
  from_line cause_by cited n step found follows =
      let r = map_some cause_by (fact_at before n) cited found in
      by_step r.0 (cause_by r.0) (at_contains before n r.0 r.1) (step r.0 (subst (λ c. FollowsBy inputs c x) (sym r.2) follows))

  -- what is shown is a root fact, or follows from the lines before it
  shown : (printed : Cause ℕ) (cited : Cause Fact) → with_facts before printed ≡ Some cited → FollowsBy inputs cited x → Contains (root_facts_of inputs.setting) x ⊎ FollowsFrom (rules_of inputs) (Contains before) x
  shown by_root cited found follows = inl (subst (λ c. FollowsBy inputs c x) (sym (root_is found)) follows)
    where
      root_is : Some by_root ≡ Some cited → by_root ≡ cited
      root_is same = (cc)
  shown (by_baseline n) cited found follows = inr (from_line by_baseline cited n (λ a step. step) found follows)
  shown (by_override n) cited found follows = inr (from_line by_override cited n (λ a step. step) found follows)
  shown (by_overlay n) cited found follows = inr (from_line by_overlay cited n (λ a step. step) found follows)
  shown (by_minimum n) cited found follows = inr (from_line by_minimum cited n (λ a step. step) found follows)
  shown (by_one n) cited found follows = inr (from_line by_one cited n (λ a step. step) found follows)
  shown (by_two n m) cited found follows =
      let r = then_some (λ a. option_map (by_two a) (fact_at before m)) (fact_at before n) cited found in
      let q = map_some (by_two r.0) (fact_at before m) cited r.2 in
      inr (from_two r.0 q.0 (at_contains before n r.0 r.1) (at_contains before m q.0 q.1) (subst (λ c. FollowsBy inputs c x) (sym q.2) follows))

pub shown_derived : (inputs : Inputs) (before : List Fact) (reasons : List Reason) → IsDerivation inputs before reasons → IsDerived (rules_of inputs) before (facts_of reasons)
shown_derived inputs before [] derivation = tt
shown_derived inputs before (r ∷ rs) derivation = (
  (let s = derivation.0 in shown inputs before r.fact r.cause s.cited s.found s.follows),
  shown_derived inputs (before ++ r.fact ∷ []) rs derivation.1,
)

pub certificate_is_least : CertificateIsLeast
certificate_is_least inputs reasons closed distinct derivation = derived_least (rules_of inputs) (facts_of reasons) closed distinct (shown_derived inputs [] reasons derivation)
