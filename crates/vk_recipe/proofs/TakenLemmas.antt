-- Of paths none of which begins another, the neighbours of a path in their order say whether it may stand beside them.
use Rattle.std.proofs.Common.{◌≡◌, ◌↔◌, ◌⊎◌, ◌||◌, inl, inr, Bool, true, false, not, List, [], ◌∷◌, ◌++◌, Ordering, refl, ap, sym, ◌∙◌, subst}
use denote.Ref.{Bor}
use Rattle.std.specs.Prelude.{IsTrue, IfSome, slice_get}
use Rattle.std.specs.declared.cmp.Ordering.TheVariants.{Less, Equal, Greater}
use Rattle.std.specs.Ordering.{is_eq, is_gt, is_lt, match_ordering}
use Rattle.std.specs.Cmp.{tied_itself}
use Rattle.std.specs.List.{Contains, list_any}
use Rattle.std.specs.BTreeMap.{is_at}
use Rattle.std.specs.BTreeSet.{insert_key}
use Rattle.std.proofs.lemmas.List.{append-nil}
use Rattle.vk_spec.specs.Paths.{Path, path_cmp, Begins}
use Rattle.vk_spec.proofs.FileLemmas.{path_total, path_same}
use Rattle.vk_spec.proofs.ListLemmas.{contains_nothing, contains_first, contains_later, contains_cases}
use Rattle.vk_spec.proofs.OrderLemmas.{less_below, no_gt, at_most_turned, begun_between}
use Rattle.vk_resolution.proofs.Members.{contains_any, any_contains, contains_map}
use Rattle.vk_recipe.specs.Builds.{begins, overlap}
use Rattle.vk_recipe.specs.Destinations.{paths_in, AreTaken}
use Rattle.vk_recipe.proofs.OverlapLemmas.{begins_if, begins_then, overlap_any}

abbrev ref_cmp : Bor Path → Bor Path → Ordering
ref_cmp x y = path_cmp x.now y.now

-- ---- the keys as paths

key_by : (k x : Bor Path) (keys : List (Bor Path)) (o : Ordering) → path_cmp k.now x.now ≡ o → (is_eq o || list_any (is_at (ref_cmp k)) keys) ≡ true
    → (list_any (is_at (ref_cmp k)) keys ≡ true → Contains (paths_in keys) k.now) → Contains (x.now ∷ paths_in keys) k.now
key_by k x keys Less is any rest = contains_later x.now k.now (paths_in keys) (rest any)
key_by k x keys Equal is any rest = subst (Contains (x.now ∷ paths_in keys)) (sym (path_same k.now x.now is)) (contains_first x.now (paths_in keys))
key_by k x keys Greater is any rest = contains_later x.now k.now (paths_in keys) (rest any)

-- a key that is found is one of the paths
pub has_path : (keys : List (Bor Path)) (k : Bor Path) → list_any (is_at (ref_cmp k)) keys ≡ true → Contains (paths_in keys) k.now
has_path [] k any = (cc)
has_path (x ∷ keys) k any = key_by k x keys (path_cmp k.now x.now) refl any (has_path keys k)

or_true : (b : Bool) → (b || true) ≡ true
or_true true = refl
or_true false = refl

pub path_has : (keys : List (Bor Path)) (k : Bor Path) → Contains (paths_in keys) k.now → list_any (is_at (ref_cmp k)) keys ≡ true
path_has [] k at = absurd (contains_nothing k.now at)
path_has (x ∷ keys) k at =
    elim (contains_cases x.now k.now (paths_in keys) at) [
      | inl same ↦ ap (λ o. is_eq o || list_any (is_at (ref_cmp k)) keys) (ap (path_cmp k.now) same ∙ tied_itself path_total k.now)
      | inr later ↦ ap (λ b. is_at (ref_cmp k) x || b) (path_has keys k later) ∙ or_true (is_at (ref_cmp k) x)
    ]

-- a path that is taken is a key's
pub stored : (paths : List Path) (keys : List (Bor Path)) → AreTaken paths keys → (q : Path) → Contains paths q → (r : Bor Path) × (r.now ≡ q) × (list_any (is_at (ref_cmp r)) keys ≡ true)
stored paths keys taken q at =
    let here = (taken.members q).1 at in
    let key = contains_map (λ (r : Bor Path). r.now) keys q here in
    (key.0, key.2, path_has keys key.0 (subst (Contains (paths_in keys)) (sym key.2) here))

-- what is known of the first of a list
pub of_first : {X : Type 0} (P : X → Type 0) (r t : List X) (e : X) → r ≡ e ∷ t → IfSome (slice_get r 0) P → P e
of_first P r t e is h = subst (λ l. IfSome (slice_get l 0) P) is h

-- ---- neighbours

-- a path isn't after one that it begins
by_rest : (p q rest : Path) → q ≡ p ++ rest → is_gt (path_cmp p q) ≡ false
by_rest p q [] e = ap is_gt (ap (path_cmp p) (e ∙ append-nil p) ∙ tied_itself path_total p)
by_rest p q (part ∷ rest) e = no_gt (path_cmp p q) (ap (path_cmp p) e ∙ less_below p part rest)

not_after : (p q : Path) → Begins p q → is_gt (path_cmp p q) ≡ false
not_after p q begun = by_rest p q begun.0 begun.1

none_any : (test : Path → Bool) (paths : List Path) (b : Bool) → list_any test paths ≡ b → ((q : Path) → Contains paths q → test q ≡ true → ⊥) → false ≡ list_any test paths
none_any test paths true e none = let one = any_contains test paths e in absurd (none one.0 one.1 one.2)
none_any test paths false e none = sym e

module _ (paths : List Path) (path : Path) where
  -- the first one that isn't before the path
  pub first_says : (first : Path) (b : Bool) → (IsTrue b ↔ Begins path first) → Contains paths first → is_gt (path_cmp path first) ≡ false
      → ((q : Path) → is_gt (path_cmp path q) ≡ false → Contains paths q → is_gt (path_cmp first q) ≡ false)
      → b ≡ list_any (begins path) paths
  first_says first true is at from least = sym (contains_any (begins path) paths first at (begins_if path first (is.0 refl)))
  first_says first false is at from least =
      none_any (begins path) paths (list_any (begins path) paths) refl (λ q here begun.
      let below = begins_then path q begun in
      let found = begun_between path first q below from (least q (not_after path q below) here) in
      let clash : false ≡ true = is.1 found in (cc))

  pub none_from : ((q : Path) → is_gt (path_cmp path q) ≡ false → Contains paths q → ⊥) → false ≡ list_any (begins path) paths
  none_from none = none_any (begins path) paths (list_any (begins path) paths) refl (λ q here begun. none q (not_after path q (begins_then path q begun)) here)

  -- the last one that isn't after it
  pub last_says : ((p q : Path) → Contains paths p → Contains paths q → Begins p q → p ≡ q)
      → (last : Path) (b : Bool) → (IsTrue b ↔ Begins last path) → Contains paths last → is_gt (path_cmp last path) ≡ false
      → ((q : Path) → is_gt (path_cmp q path) ≡ false → Contains paths q → is_lt (path_cmp last q) ≡ false)
      → b ≡ list_any (λ q. begins q path) paths
  last_says apart last true is at upto greatest = sym (contains_any (λ q. begins q path) paths last at (begins_if last path (is.0 refl)))
  last_says apart last false is at upto greatest =
      none_any (λ q. begins q path) paths (list_any (λ q. begins q path) paths) refl (λ q here begun.
      let above = begins_then q path begun in
      let before = at_most_turned last q (greatest q (not_after q path above) here) in
      let same = apart q last here at (begun_between q last path above before upto) in
      let clash : false ≡ true = is.1 (subst (λ p. Begins p path) same above) in (cc))

  pub none_upto : ((q : Path) → is_gt (path_cmp q path) ≡ false → Contains paths q → ⊥) → false ≡ list_any (λ q. begins q path) paths
  none_upto none = none_any (λ q. begins q path) paths (list_any (λ q. begins q path) paths) refl (λ q here begun. none q (not_after q path (begins_then q path begun)) here)

-- ---- one path more

more_by : (k x : Bor Path) (keys : List (Bor Path)) (p : Path) (o : Ordering) → path_cmp k.now x.now ≡ o
    → (Contains (paths_in (insert_key ref_cmp keys k)) p ↔ ((k.now ≡ p) ⊎ Contains (paths_in keys) p))
    → Contains (paths_in (match_ordering o (k ∷ x ∷ keys) (x ∷ keys) (x ∷ insert_key ref_cmp keys k))) p ↔ ((k.now ≡ p) ⊎ Contains (x.now ∷ paths_in keys) p)
more_by k x keys p Less is rest = (
  (λ h. contains_cases k.now p (x.now ∷ paths_in keys) h),
  (λ h. elim h [
    | inl same ↦ subst (Contains (k.now ∷ x.now ∷ paths_in keys)) same (contains_first k.now (x.now ∷ paths_in keys))
    | inr later ↦ contains_later k.now p (x.now ∷ paths_in keys) later
  ]),
)
more_by k x keys p Equal is rest = (
  (λ h. inr h),
  (λ h. elim h [
    | inl same ↦ subst (Contains (x.now ∷ paths_in keys)) (sym (path_same k.now x.now is) ∙ same) (contains_first x.now (paths_in keys))
    | inr later ↦ later
  ]),
)
more_by k x keys p Greater is rest = (
  (λ h. elim (contains_cases x.now p (paths_in (insert_key ref_cmp keys k)) h) [
    | inl first ↦ inr (subst (Contains (x.now ∷ paths_in keys)) first (contains_first x.now (paths_in keys)))
    | inr later ↦ elim (rest.0 later) [
      | inl same ↦ inl same
      | inr old ↦ inr (contains_later x.now p (paths_in keys) old)
    ]
  ]),
  (λ h. elim h [
    | inl same ↦ contains_later x.now p (paths_in (insert_key ref_cmp keys k)) (rest.1 (inl same))
    | inr old ↦ elim (contains_cases x.now p (paths_in keys) old) [
      | inl first ↦ subst (Contains (x.now ∷ paths_in (insert_key ref_cmp keys k))) first (contains_first x.now (paths_in (insert_key ref_cmp keys k)))
      | inr later ↦ contains_later x.now p (paths_in (insert_key ref_cmp keys k)) (rest.1 (inr later))
    ]
  ]),
)

one_more : (keys : List (Bor Path)) (k : Bor Path) (p : Path) → Contains (paths_in (insert_key ref_cmp keys k)) p ↔ ((k.now ≡ p) ⊎ Contains (paths_in keys) p)
one_more [] k p = (
  (λ h. contains_cases k.now p [] h),
  (λ h. elim h [
    | inl same ↦ subst (Contains (k.now ∷ [])) same (contains_first k.now [])
    | inr none ↦ absurd (contains_nothing p none)
  ]),
)
one_more (x ∷ keys) k p = more_by k x keys p (path_cmp k.now x.now) refl (one_more keys k p)

pub pushed : (paths : List Path) (path p : Path) → Contains (paths ++ path ∷ []) p ↔ ((path ≡ p) ⊎ Contains paths p)
pushed [] path p = (
  (λ h. contains_cases path p [] h),
  (λ h. elim h [
    | inl same ↦ subst (Contains (path ∷ [])) same (contains_first path [])
    | inr none ↦ absurd (contains_nothing p none)
  ]),
)
pushed (q ∷ paths) path p =
    let rest = pushed paths path p in (
      (λ h. elim (contains_cases q p (paths ++ path ∷ []) h) [
        | inl first ↦ inr (subst (Contains (q ∷ paths)) first (contains_first q paths))
        | inr later ↦ elim (rest.0 later) [
          | inl same ↦ inl same
          | inr old ↦ inr (contains_later q p paths old)
        ]
      ]),
      (λ h. elim h [
        | inl same ↦ contains_later q p (paths ++ path ∷ []) (rest.1 (inl same))
        | inr old ↦ elim (contains_cases q p paths old) [
          | inl first ↦ subst (Contains (q ∷ (paths ++ path ∷ []))) first (contains_first q (paths ++ path ∷ []))
          | inr later ↦ contains_later q p (paths ++ path ∷ []) (rest.1 (inr later))
        ]
      ]),
    )

pub none_of : (test : Path → Bool) (paths : List Path) (q : Path) → list_any test paths ≡ false → Contains paths q → test q ≡ true → ⊥
none_of test paths q none at is = let clash : true ≡ false = sym (contains_any test paths q at is) ∙ none in (cc)

pub taken_more : (paths : List Path) (keys new : List (Bor Path)) (k : Bor Path) → new ≡ insert_key ref_cmp keys k
    → list_any (begins k.now) paths ≡ false → list_any (λ q. begins q k.now) paths ≡ false
    → AreTaken paths keys → AreTaken (paths ++ k.now ∷ []) new
taken_more paths keys new k is after before taken = record {
  members = λ p.
      let put = subst (λ l. Contains (paths_in l) p ↔ ((k.now ≡ p) ⊎ Contains (paths_in keys) p)) (sym is) (one_more keys k p) in
      let end = pushed paths k.now p in
      let old = taken.members p in (
        (λ h. end.1 (elim (put.0 h) [ inl same ↦ inl same | inr at ↦ inr (old.0 at) ])),
        (λ h. put.1 (elim (end.0 h) [ inl same ↦ inl same | inr at ↦ inr (old.1 at) ])),
      );
  apart = λ p q one other begun.
      elim ((pushed paths k.now p).0 one) [
        | inl p_is ↦ elim ((pushed paths k.now q).0 other) [
          | inl q_is ↦ sym p_is ∙ q_is
          | inr q_at ↦ absurd (none_of (begins k.now) paths q after q_at (begins_if k.now q (subst (λ r. Begins r q) (sym p_is) begun)))
        ]
        | inr p_at ↦ elim ((pushed paths k.now q).0 other) [
          | inl q_is ↦ absurd (none_of (λ r. begins r k.now) paths p before p_at (begins_if p k.now (subst (Begins p) (sym q_is) begun)))
          | inr q_at ↦ taken.apart p q p_at q_at begun
        ]
      ];
}

pub nothing_taken : AreTaken [] []
nothing_taken = record {
  members = λ p. ((λ h. h), (λ h. h));
  apart = λ p q one other begun. absurd (contains_nothing p one);
}

-- ---- what overlaps

pub begun_overlaps : (p : Path) (paths : List Path) → list_any (begins p) paths ≡ true → false ≡ not (list_any (overlap p) paths)
begun_overlaps p paths is = sym (ap not (overlap_any p paths ∙ ap (λ b. b || list_any (λ q. begins q p) paths) is))

pub beginning_overlaps : (p : Path) (paths : List Path) → list_any (λ q. begins q p) paths ≡ true → false ≡ not (list_any (overlap p) paths)
beginning_overlaps p paths is = sym (ap not (overlap_any p paths ∙ ap (λ b. list_any (begins p) paths || b) is ∙ or_true (list_any (begins p) paths)))

pub none_overlaps : (p : Path) (paths : List Path) → list_any (begins p) paths ≡ false → list_any (λ q. begins q p) paths ≡ false → true ≡ not (list_any (overlap p) paths)
none_overlaps p paths after before = sym (ap not (overlap_any p paths ∙ ap (λ b. b || list_any (λ q. begins q p) paths) after ∙ before))
