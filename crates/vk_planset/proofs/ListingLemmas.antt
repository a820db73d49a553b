-- Features and places as they are listed.
use Rattle.std.proofs.Common.{◌≡◌, ℕ, Bool, true, false, cond, eqb, not, List, [], ◌∷◌, ◌++◌, map, filter, inl, inr, refl, ap, sym, ◌∙◌, subst, rules}
use Rattle.std.specs.Prelude.{bytes_eq}
use Rattle.std.specs.declared.cmp.Ordering.{Ordering}
use Rattle.std.specs.declared.cmp.Ordering.TheVariants.{Less, Equal, Greater}
use Rattle.std.specs.Ordering.{nat_cmp, ordering_then, eq_by_cmp}
use Rattle.std.specs.Cmp.{IsTotalOrder, IsEquivalence, nat_cmp_total}
use Rattle.std.specs.Cmp.Rules.{comparing}
use Rattle.std.specs.Cmp.Lexicographic.{slice_cmp}
use Rattle.std.specs.List.{Contains, dedup}
use Rattle.std.specs.List.Sorted.{IsPermutation, IsSorted, IsStrictlySortedBy}
use Rattle.std.proofs.lemmas.List.{map-append, map-id}
use Rattle.std.proofs.lemmas.List.Kept.{Any-dedup, Contains-dedup_nat, Contains-from_dedup, IsStrictlySortedBy-dedup}
use Rattle.std.proofs.lemmas.List.Sorted.{Contains-permutation, IsPermutation-sym}
use Rattle.std.proofs.lemmas.List.Elements.{Contains-append_left, Contains-append_right, Contains-append_cases}
use Rattle.std.proofs.lemmas.Slice.Eq.{bytes_eq-Decides}
use Rattle.vk_spec.specs.Manifests.{core, default}
use Rattle.vk_spec.proofs.ListLemmas.{contains_first, contains_later}
use Rattle.vk_resolution.specs.Keys.{Key, key_cmp, Ascends, IsKey, in_order}
use Rattle.vk_resolution.specs.Planning.{feature_key}
use Rattle.vk_resolution.proofs.Members.{true_or_false, not_true, not_false, contains_filter, contains_map, filter_contains, map_contains}
use Rattle.vk_resolution.proofs.Orders.{before_itself}
use Rattle.vk_resolution.proofs.FactLemmas.{feature_key-IsKey}
use Rattle.vk_base.specs.FeatureViews.{feature_view}
use Rattle.vk_base.specs.declared.features.FeatureName.{FeatureName}
use Rattle.vk_planset.specs.Members.{HasMore, HaveSame, number_key, feature_cmp}
use Rattle.vk_planset.specs.Seats.{listed}
use Rattle.vk_planset.proofs.MemberLemmas.{more_last, sorted_ascends, ascending_is}

then_equal : (o : Ordering) → ordering_then o Equal ≡ o
then_equal Less = refl
then_equal Equal = refl
then_equal Greater = refl

-- ---- texts and numbers by their order

abbrev text_key : List ℕ → Key
text_key f = f ∷ []

text_order : (f g : List ℕ) → key_cmp (text_key f) (text_key g) ≡ slice_cmp nat_cmp f g
text_order f g = then_equal (slice_cmp nat_cmp f g)

pub number_order : (m n : ℕ) → key_cmp (number_key m) (number_key n) ≡ nat_cmp m n
number_order m n = then_equal (ordering_then (nat_cmp m n) Equal) ∙ then_equal (nat_cmp m n)

pub number_key-IsKey : IsKey number_key
number_key-IsKey m n e = let same : (m ∷ []) ∷ [] ≡ (n ∷ []) ∷ [] = e in (cc)

-- ---- one more

pub put_number : (ns new : List ℕ) (n : ℕ) → new ≡ ns ++ n ∷ [] → HasMore ns (n ∷ []) new
put_number ns new n e = subst (HasMore ns (n ∷ [])) (sym e) (more_last ns n)

pub put_feature : (fs new : List FeatureName) (f g : FeatureName) → g ≡ f → new ≡ fs ++ g ∷ [] → bytes_eq (feature_view f) default ≡ false → HasMore (map feature_view fs) (listed (feature_view f)) (map feature_view new)
put_feature fs new f g same e other =
    subst (λ l. HasMore (map feature_view fs) l (map feature_view new)) (sym (ap (λ b. cond b [] (feature_view f ∷ [])) other))
    (subst (HasMore (map feature_view fs) (feature_view f ∷ [])) (sym (ap (map feature_view) (e ∙ ap (λ h. fs ++ h ∷ []) same) ∙ map-append feature_view fs (f ∷ []))) (more_last (map feature_view fs) (feature_view f)))

-- ---- in order

-- ---- sorted, each once

abbrev pub same_feature : FeatureName → FeatureName → Bool
same_feature f g = bytes_eq (feature_view f) (feature_view g)

pub feature_total : IsTotalOrder feature_cmp
feature_total = Prim.search (comparing, rules)

pub feature_ties : (f g : FeatureName) → same_feature f g ≡ eq_by_cmp feature_cmp f g
feature_ties = Prim.search (comparing, rules)

same_equivalence : IsEquivalence same_feature
same_equivalence = Prim.search (comparing, rules)

-- features that are sorted, each once, are the same features
pub features_kept : (fs sorted : List FeatureName) → IsPermutation fs sorted → HaveSame (map feature_view (dedup same_feature sorted)) (map feature_view fs)
features_kept fs sorted moved = record {
  to = λ v h. (
      let r = contains_map feature_view (dedup same_feature sorted) v h in
      subst (Contains (map feature_view fs)) r.2 (map_contains feature_view fs r.0 (Contains-permutation sorted fs r.0 (IsPermutation-sym fs sorted moved) (Contains-from_dedup same_feature sorted r.0 r.1)))
      );
  from = λ v h. (
      let r = contains_map feature_view fs v h in
      let a = Any-dedup same_equivalence sorted r.0 (Contains-permutation fs sorted r.0 moved r.1) in
      let is : feature_view a.1 ≡ v = sym ((bytes_eq-Decides (feature_view r.0) (feature_view a.1)).0 a.4) ∙ r.2 in
      subst (Contains (map feature_view (dedup same_feature sorted))) is (map_contains feature_view (dedup same_feature sorted) a.1 (a.0, a.2, a.3))
      );
}

number_ties : (m n : ℕ) → eqb m n ≡ eq_by_cmp nat_cmp m n
number_ties = Prim.search (comparing, rules)

-- numbers that are sorted, each once, are in order
pub numbers_in_order : (ns sorted : List ℕ) → IsPermutation ns sorted → IsSorted nat_cmp sorted → dedup eqb sorted ≡ in_order number_key ns
numbers_in_order ns sorted moved rises =
    ascending_is number_key number_key-IsKey (dedup eqb sorted) ns
    (subst (Ascends number_key) (map-id (dedup eqb sorted)) (sorted_ascends nat_cmp (λ (m : ℕ). m) number_key (λ m n less. number_order m n ∙ less) (dedup eqb sorted) (IsStrictlySortedBy-dedup nat_cmp_total number_ties sorted rises)))
    (record {
      to = λ n h. Contains-permutation sorted ns n (IsPermutation-sym ns sorted moved) (Contains-from_dedup eqb sorted n h);
      from = λ n h. Contains-dedup_nat sorted n (Contains-permutation ns sorted n moved h);
    })

ascends_append : {X : Type 0} (key : X → Key) (xs ys : List X) → Ascends key xs → Ascends key ys → ((x y : X) → Contains xs x → Contains ys y → key_cmp (key x) (key y) ≡ Less) → Ascends key (xs ++ ys)
ascends_append key [] ys one other across = other
ascends_append key (x ∷ xs) ys one other across = (
  (λ y h. elim (Contains-append_cases xs ys y h) [ inl mine ↦ one.0 y mine | inr theirs ↦ across x y (contains_first x xs) theirs ]),
  ascends_append key xs ys one.1 other (λ z y here there. across z y (contains_later x z xs here) there),
)

abbrev is_core : List ℕ → Bool
is_core f = bytes_eq f core

core_key : (f : List ℕ) → is_core f ≡ true → feature_key f ≡ [] ∷ f ∷ []
core_key f e = ap (λ b. cond b [] (0 ∷ []) ∷ f ∷ []) e

other_key : (f : List ℕ) → is_core f ≡ false → feature_key f ≡ (0 ∷ []) ∷ f ∷ []
other_key f e = ap (λ b. cond b [] (0 ∷ []) ∷ f ∷ []) e

core_before : (f g : List ℕ) → is_core f ≡ true → is_core g ≡ false → key_cmp (feature_key f) (feature_key g) ≡ Less
core_before f g one other = ap (λ k. key_cmp k (feature_key g)) (core_key f one) ∙ ap (key_cmp ([] ∷ f ∷ [])) (other_key g other)

others_ascend : (f g : List ℕ) → is_core f ≡ false → is_core g ≡ false → key_cmp (text_key f) (text_key g) ≡ Less → key_cmp (feature_key f) (feature_key g) ≡ Less
others_ascend f g one other less = ap (λ k. key_cmp k (feature_key g)) (other_key f one) ∙ ap (key_cmp ((0 ∷ []) ∷ f ∷ [])) (other_key g other) ∙ less

others_by : (f : List ℕ) (fs : List (List ℕ)) (b : Bool) → is_core f ≡ b → Ascends text_key (f ∷ fs) → Ascends feature_key (filter (λ g. not (is_core g)) fs) → Ascends feature_key (cond (not b) (f ∷ filter (λ g. not (is_core g)) fs) (filter (λ g. not (is_core g)) fs))
others_by f fs true e ascends rest = rest
others_by f fs false e ascends rest = (
  (λ g h. (let r = contains_filter (λ k. not (is_core k)) fs g h in others_ascend f g e (not_true (is_core g) r.1) (ascends.0 g r.0))),
  rest,
)

others_in_order : (fs : List (List ℕ)) → Ascends text_key fs → Ascends feature_key (filter (λ g. not (is_core g)) fs)
others_in_order [] ascends = tt
others_in_order (f ∷ fs) ascends = others_by f fs (is_core f) refl ascends (others_in_order fs ascends.1)

core_by : (f : List ℕ) (fs : List (List ℕ)) (b : Bool) → is_core f ≡ b → Ascends text_key (f ∷ fs) → Ascends feature_key (filter is_core fs) → Ascends feature_key (cond b (f ∷ filter is_core fs) (filter is_core fs))
core_by f fs false e ascends rest = rest
core_by f fs true e ascends rest = (
  (λ g h. (
      let r = contains_filter is_core fs g h in
      let same : g ≡ f = (bytes_eq-Decides g core).0 r.1 ∙ sym ((bytes_eq-Decides f core).0 e) in
      absurd (before_itself (text_key f) (subst (λ k. key_cmp (text_key f) (text_key k) ≡ Less) same (ascends.0 g r.0)))
      )),
  rest,
)

core_in_order : (fs : List (List ℕ)) → Ascends text_key fs → Ascends feature_key (filter is_core fs)
core_in_order [] ascends = tt
core_in_order (f ∷ fs) ascends = core_by f fs (is_core f) refl ascends (core_in_order fs ascends.1)

-- `core` and then the others, by their bytes, are the features in order
pub features_in_order : (ks : List FeatureName) (list : List (List ℕ)) → IsStrictlySortedBy feature_cmp ks → list ≡ filter is_core (map feature_view ks) ++ filter (λ f. not (is_core f)) (map feature_view ks) → list ≡ in_order feature_key (map feature_view ks)
features_in_order ks list sorted is =
    let fs : List (List ℕ) = map feature_view ks in
    let ascends : Ascends text_key fs = sorted_ascends feature_cmp feature_view text_key (λ k l less. text_order (feature_view k) (feature_view l) ∙ less) ks sorted in
    is ∙ ascending_is feature_key feature_key-IsKey (filter is_core fs ++ filter (λ f. not (is_core f)) fs) fs
    (ascends_append feature_key (filter is_core fs) (filter (λ f. not (is_core f)) fs) (core_in_order fs ascends) (others_in_order fs ascends)
    (λ f g here there. core_before f g (contains_filter is_core fs f here).1 (not_true (is_core g) (contains_filter (λ k. not (is_core k)) fs g there).1)))
    (record {
      to = λ f h. elim (Contains-append_cases (filter is_core fs) (filter (λ g. not (is_core g)) fs) f h) [ inl here ↦ (contains_filter is_core fs f here).0 | inr there ↦ (contains_filter (λ g. not (is_core g)) fs f there).0 ];
      from = λ f h. elim (true_or_false (is_core f)) [
        | inl e ↦ Contains-append_left (filter is_core fs) (filter (λ g. not (is_core g)) fs) f (filter_contains is_core fs f h e)
        | inr e ↦ Contains-append_right (filter is_core fs) (filter (λ g. not (is_core g)) fs) f (filter_contains (λ g. not (is_core g)) fs f h (not_false (is_core f) e))
      ];
    })
