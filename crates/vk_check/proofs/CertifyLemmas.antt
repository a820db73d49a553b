-- Lines of reasons that are certified, one more, all of them, and what refuses them.
use Rattle.std.proofs.Common.{◌≡◌, ◌≤◌, ◌+◌, ◌⊎◌, ℕ, zero, suc, Bool, List, [], ◌∷◌, ◌++◌, length, take, inl, inr, refl, ap, sym, ◌∙◌, subst, arith}
use Rattle.std.specs.Prelude.{Some, option_map, slice_get}
use Rattle.std.specs.List.{Contains}
use Rattle.std.proofs.lemmas.List.{append-nil, append_assoc, map-append, take-map}
use Rattle.std.proofs.lemmas.List.Elements.{Contains-push_cases}
use Rattle.vk_spec.specs.Lists.{NoRepeats, IsWithin}
use Rattle.vk_spec.proofs.ListLemmas.{contains_nothing}
use Rattle.vk_resolution.specs.Least.{FollowsFrom, from_one, from_two}
use Rattle.vk_resolution.specs.Closing.{Produces}
use Rattle.vk_resolution.specs.Asking.{Fact, root_facts_of}
use Rattle.vk_resolution.specs.Consequences.{Inputs, Cause, by_root, by_baseline, by_override, by_overlay, by_minimum, by_one, by_two, rules_of, FollowsBy}
use Rattle.vk_resolution.specs.Reasons.{Reason, facts_of, fact_at, with_facts, IsShownBy, IsDerivation}
use Rattle.vk_resolution.proofs.Members.{map_contains, contains_map}
use Rattle.vk_resolution.proofs.LeastLemmas.{follows_more, reached_up}
use Rattle.vk_resolution.proofs.FreshRounds.{nothing_follows}
use Rattle.vk_resolution.proofs.WorkLemmas.{follows_push}
use Rattle.vk_resolution.proofs.CertificateLemmas.{shown_derived, certificate_is_least}
use Rattle.vk_worklist.specs.Alone.{Follows}
use Rattle.vk_check.specs.Certificates.{IsCertificate, CertificatesAreLeast}
use Rattle.vk_check.specs.Certifying.{IsMarked, MarksMore, IsCertified}
use Rattle.vk_check.proofs.ShownLemmas.{shown_new, shown_either}

pub certificates_are_least : CertificatesAreLeast
certificates_are_least inputs reasons is = certificate_is_least inputs reasons is.closed is.distinct is.derivation

-- ---- derivations

derivation_more : (inputs : Inputs) (before : List Fact) (xs : List Reason) (r : Reason) → IsDerivation inputs before xs → IsShownBy inputs (before ++ facts_of xs) r → IsDerivation inputs before (xs ++ r ∷ [])
derivation_more inputs before [] r derivation shown = (subst (λ l. IsShownBy inputs l r) (append-nil before) shown, tt)
derivation_more inputs before (x ∷ xs) r derivation shown = (
  derivation.0,
  derivation_more inputs (before ++ x.fact ∷ []) xs r derivation.1 (subst (λ l. IsShownBy inputs l r) (sym (append_assoc before (x.fact ∷ []) (facts_of xs))) shown),
)

derivation_at : (inputs : Inputs) (before : List Fact) (xs : List Reason) (n : ℕ) (r : Reason) → IsDerivation inputs before xs → slice_get xs n ≡ Some r → IsShownBy inputs (before ++ take n (facts_of xs)) r
derivation_at inputs before [] n r derivation at = (cc)
derivation_at inputs before (x ∷ xs) zero r derivation at = let same : x ≡ r = (cc) in subst (λ l. IsShownBy inputs l r) (sym (append-nil before)) (subst (IsShownBy inputs before) same derivation.0)
derivation_at inputs before (x ∷ xs) (suc n) r derivation at =
    subst (λ l. IsShownBy inputs l r) (append_assoc before (x.fact ∷ []) (take n (facts_of xs))) (derivation_at inputs (before ++ x.fact ∷ []) xs n r derivation.1 at)

next_line : (xs : List Reason) (n : ℕ) (r : Reason) → slice_get xs n ≡ Some r → take (suc n) xs ≡ take n xs ++ r ∷ []
next_line [] n r at = (cc)
next_line (x ∷ xs) zero r at = let same : x ≡ r = (cc) in ap (λ q. q ∷ []) same
next_line (x ∷ xs) (suc n) r at = ap (λ l. x ∷ l) (next_line xs n r at)

next_at : (xs : List Reason) (n : ℕ) (r : Reason) → slice_get xs n ≡ Some r → take (n + 1) xs ≡ take n xs ++ r ∷ []
next_at xs n r at = let up : suc n ≡ n + 1 = omega arith in subst (λ m. take m xs ≡ take n xs ++ r ∷ []) up (next_line xs n r at)

pub next_fact : (xs : List Reason) (n : ℕ) (r : Reason) → slice_get xs n ≡ Some r → take (n + 1) (facts_of xs) ≡ take n (facts_of xs) ++ r.fact ∷ []
next_fact xs n r at =
    take-map (λ (q : Reason). q.fact) (n + 1) xs ∙ ap facts_of (next_at xs n r at) ∙ map-append (λ (q : Reason). q.fact) (take n xs) (r ∷ [])
    ∙ ap (λ l. l ++ r.fact ∷ []) (sym (take-map (λ (q : Reason). q.fact) n xs))

-- what follows from reached facts is reached
reached_so : (inputs : Inputs) (before : List Fact) (x : Fact) → ((y : Fact) → Contains before y → Follows inputs y) → Contains (root_facts_of inputs.setting) x ⊎ FollowsFrom (rules_of inputs) (Contains before) x → Follows inputs x
reached_so inputs before x each (inl root) = (zero, root)
reached_so inputs before x each (inr (from_one a holds asked)) = let r = each a holds in (suc r.0, inr (from_one a r.1 asked))
reached_so inputs before x each (inr (from_two a b one other asked)) =
    let r = each a one in
    let q = each b other in
    (suc (r.0 + q.0), inr (from_two a b (reached_up (rules_of inputs) r.0 (r.0 + q.0) a (omega arith) r.1) (reached_up (rules_of inputs) q.0 (r.0 + q.0) b (omega arith) q.1) asked))

shown_reached : (inputs : Inputs) (before : List Fact) (r : Reason) → ((y : Fact) → Contains before y → Follows inputs y) → IsShownBy inputs before r → Follows inputs r.fact
shown_reached inputs before r each shown = reached_so inputs before r.fact each (shown_derived inputs before (r ∷ []) (shown, tt)).0

-- ---- the roots

no_line : (n : ℕ) (cite : Fact → Cause Fact) (d : Cause Fact) → option_map cite (fact_at [] n) ≡ Some d → ⊥
no_line zero cite d e = (cc)
no_line (suc n) cite d e = (cc)

shown_nothing : (inputs : Inputs) (x : Fact) (c : Cause ℕ) (d : Cause Fact) → with_facts [] c ≡ Some d → FollowsBy inputs d x → (c ≡ by_root) × Contains (root_facts_of inputs.setting) x
shown_nothing inputs x by_root d e follows = let same : by_root ≡ d = (cc) in (refl, subst (λ k. FollowsBy inputs k x) (sym same) follows)
shown_nothing inputs x (by_baseline n) d e follows = absurd (no_line n by_baseline d e)
shown_nothing inputs x (by_override n) d e follows = absurd (no_line n by_override d e)
shown_nothing inputs x (by_overlay n) d e follows = absurd (no_line n by_overlay d e)
shown_nothing inputs x (by_minimum n) d e follows = absurd (no_line n by_minimum d e)
shown_nothing inputs x (by_one n) d e follows = absurd (no_line n by_one d e)
shown_nothing inputs x (by_two zero m) d e follows = (cc)
shown_nothing inputs x (by_two (suc n) m) d e follows = (cc)

module _ (inputs : Inputs) (lines given : List Reason) (facts : facts_of given ≡ root_facts_of inputs.setting) (causes : (r : Reason) → Contains given r → r.cause ≡ by_root) where
  root_given : (r : Reason) → r.cause ≡ by_root → Contains (root_facts_of inputs.setting) r.fact → Contains given r
  root_given r root holds =
      let q = contains_map (λ (p : Reason). p.fact) given r.fact (subst (λ l. Contains l r.fact) (sym facts) holds) in
      let same : q.0 ≡ r = λ k. record { fact = q.2 k; cause = (causes q.0 q.1 ∙ sym root) k } in
      subst (Contains given) same q.1

  given_shown : (r : Reason) → Contains given r → IsShownBy inputs [] r
  given_shown r h = record {
    cited = by_root;
    found = ap (with_facts []) (causes r h);
    follows = subst (λ l. Contains l r.fact) facts (map_contains (λ (p : Reason). p.fact) given r h);
  }

  pub certified_first : (none marks : List Bool) → ((n : ℕ) → IsMarked none n → ⊥) → MarksMore lines none marks given → IsWithin (facts_of given) (facts_of lines) → IsCertified inputs lines 0 marks
  certified_first none marks clear marked within = record {
    shown = record {
      each = λ n r at. (
        (λ m. elim ((marked.each n r at).0 m) [ inl old ↦ absurd (clear n old) | inr noted ↦ given_shown r noted ]),
        λ shown. (marked.each n r at).1 (inr (let s = shown_nothing inputs r.fact r.cause shown.cited shown.found shown.follows in root_given r s.0 s.1)),
      );
    };
    derivation = tt;
    reached = λ x h. absurd (contains_nothing x h);
    roots = λ x h. within x (subst (λ l. Contains l x) (sym facts) h);
    steps = λ x follows. absurd (nothing_follows (rules_of inputs) x follows);
  }

  pub no_roots : (IsWithin (facts_of given) (facts_of lines) → ⊥) → IsCertificate inputs lines → ⊥
  no_roots lacks is = lacks (λ x h. is.closed.roots x (subst (λ l. Contains l x) facts h))

-- ---- one line more

module _ (inputs : Inputs) (lines : List Reason) (n : ℕ) (marks : List Bool) (r : Reason) (at : slice_get lines n ≡ Some r) where
  -- a line that isn't marked isn't shown
  pub not_marked : IsCertified inputs lines n marks → (IsMarked marks n → ⊥) → IsCertificate inputs lines → ⊥
  not_marked so_far clear is = clear ((so_far.shown.each n r at).1 (derivation_at inputs [] lines n r is.derivation at))

  marked_shown : IsCertified inputs lines n marks → IsMarked marks n → IsShownBy inputs (take n (facts_of lines)) r
  marked_shown so_far marked = (so_far.shown.each n r at).0 marked

  pub marked_follows : IsCertified inputs lines n marks → IsMarked marks n → Follows inputs r.fact
  marked_follows so_far marked = shown_reached inputs (take n (facts_of lines)) r so_far.reached (marked_shown so_far marked)

  -- what it brings up stands on no line
  pub not_closed : (brought : List Reason) → Produces inputs (take n (facts_of lines)) r.fact brought → IsWithin (take n (facts_of lines) ++ r.fact ∷ []) (facts_of lines) → (IsWithin (facts_of brought) (facts_of lines) → ⊥) → IsCertificate inputs lines → ⊥
  not_closed brought produces among lacks is = lacks (λ x h. is.closed.steps x (follows_more among (produces.facts.sound x h)))

  pub certified_more : (new : List Bool) (brought : List Reason) → NoRepeats (take n (facts_of lines) ++ r.fact ∷ []) → IsCertified inputs lines n marks → IsMarked marks n → Produces inputs (take n (facts_of lines)) r.fact brought
      → MarksMore lines marks new brought → IsWithin (facts_of brought) (facts_of lines) → IsCertified inputs lines (n + 1) new
  certified_more new brought distinct so_far marked produces more within = record {
    shown = record {
      each = λ m q at_m. (
        (λ is. subst (λ l. IsShownBy inputs l q) (sym next) (shown_either inputs taken r.fact brought distinct produces q
            (elim ((more.each m q at_m).0 is) [ inl old ↦ inl ((so_far.shown.each m q at_m).0 old) | inr noted ↦ inr noted ]))),
        λ shown. (more.each m q at_m).1 (elim (shown_new inputs taken r.fact brought distinct produces q (subst (λ l. IsShownBy inputs l q) next shown)) [
          | inl old ↦ inl ((so_far.shown.each m q at_m).1 old)
          | inr noted ↦ inr noted
        ]),
      );
    };
    derivation = subst (IsDerivation inputs []) (sym (next_at lines n r at)) (derivation_more inputs [] (take n lines) r so_far.derivation (subst (λ l. IsShownBy inputs l r) (take-map (λ (q : Reason). q.fact) n lines) (marked_shown so_far marked)));
    reached = λ x h. elim (Contains-push_cases taken r.fact x (subst (λ l. Contains l x) next h)) [ inl old ↦ so_far.reached x old | inr same ↦ subst (Follows inputs) same (marked_follows so_far marked) ];
    roots = so_far.roots;
    steps = λ x follows. elim (follows_push (rules_of inputs) taken r.fact x (subst (λ l. FollowsFrom (rules_of inputs) (Contains l) x) next follows)) [
      | inl old ↦ so_far.steps x old
      | inr brings ↦ within x (produces.facts.complete x brings)
    ];
  }
    where
      taken : List Fact
      taken = take n (facts_of lines)

      next : take (n + 1) (facts_of lines) ≡ taken ++ r.fact ∷ []
      next = next_fact lines n r at

-- ---- all of them

take_all : {X : Type 0} (xs : List X) (n : ℕ) → length xs ≤ n → take n xs ≡ xs
take_all [] zero h = refl
take_all [] (suc n) h = refl
take_all (x ∷ xs) zero h = absurd (omega (arith, h))
take_all (x ∷ xs) (suc n) h = ap (λ l. x ∷ l) (take_all xs n (omega (arith, h)))

pub certified_last : (inputs : Inputs) (lines : List Reason) (n : ℕ) (marks : List Bool) → NoRepeats (facts_of lines) → length lines ≤ n → IsCertified inputs lines n marks → IsCertificate inputs lines
certified_last inputs lines n marks distinct long so_far = record {
  distinct = distinct;
  closed = record {
    roots = so_far.roots;
    steps = λ x follows. so_far.steps x (subst (λ l. FollowsFrom (rules_of inputs) (Contains l) x) (sym (take-map (λ (q : Reason). q.fact) n lines ∙ ap facts_of (take_all lines n long))) follows);
  };
  derivation = subst (IsDerivation inputs []) (take_all lines n long) so_far.derivation;
}
