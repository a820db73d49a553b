-- The walk along the shortest ways.
use Rattle.std.proofs.Common.{◌≡◌, ◌≢◌, ◌<◌, ◌≤◌, ◌+◌, ℕ, zero, suc, cond, List, [], ◌∷◌, ◌++◌, length, take, get_or, inl, inr, refl, ap, sym, ◌∙◌, subst, arith}
use Rattle.std.specs.Prelude.{Option, Some, None, unwrap_or}
use Rattle.std.specs.Ordering.{MatchOrdering, is_le, ordering_then, nat_cmp}
use Rattle.std.specs.Cmp.{ranks}
use Rattle.std.specs.declared.cmp.Ordering.{Ordering}
use Rattle.std.specs.declared.cmp.Ordering.TheVariants.{Less, Equal, Greater}
use Rattle.std.specs.List.{Contains}
use Rattle.std.proofs.lemmas.List.Elements.{Contains-append_left, Contains-push, Contains-push_cases}
use Rattle.std.proofs.lemmas.Bool.{cases_lt}
use Rattle.std.proofs.lemmas.List.{take_more}
use Rattle.vk_order.specs.Needs.{listed_at, known_at}
use Rattle.vk_order.specs.Ways.{AreLengths, IsNearer, IsClosest, HaveNoWay, IsClosestOf, GoesOn, LeadsTo, IsNextOf, IsWalkTo, IsOnNone, IsWalkBack, IsFoundWalk, nearer_of}
use Rattle.vk_order.proofs.NumberLemmas.{some_none, some_same}

is_less : (m n : ℕ) → nat_cmp m n ≡ Less → m < n
is_less m n e = subst (λ o. MatchOrdering o (m < n) (m ≡ n) (n < m)) e (ranks m n)

is_equal : (m n : ℕ) → nat_cmp m n ≡ Equal → m ≡ n
is_equal m n e = subst (λ o. MatchOrdering o (m < n) (m ≡ n) (n < m)) e (ranks m n)

is_greater : (m n : ℕ) → nat_cmp m n ≡ Greater → n < m
is_greater m n e = subst (λ o. MatchOrdering o (m < n) (m ≡ n) (n < m)) e (ranks m n)

-- how many steps a walk has left at most
abbrev pub steps_left : List (Option ℕ) → Option ℕ → ℕ
steps_left lengths None = 0
steps_left lengths (Some j) = unwrap_or (known_at lengths j) 0 + 1

pub nearer_trans : (a i b j c k : ℕ) → IsNearer a i b j → IsNearer b j c k → IsNearer a i c k
nearer_trans a i b j c k (inl x) (inl y) = inl (omega arith)
nearer_trans a i b j c k (inl x) (inr y) = let e : b ≡ c = y.0 in inl (omega arith)
nearer_trans a i b j c k (inr x) (inl y) = let e : a ≡ b = x.0 in inl (omega arith)
nearer_trans a i b j c k (inr x) (inr y) = let e : i ≤ j = x.1 in let f : j ≤ k = y.1 in inr (x.0 ∙ y.0, omega arith)

module _ (named : List ℕ) (lengths : List (Option ℕ)) (n : ℕ) where
  pub closest_skip : (best : Option (ℕ × ℕ)) → known_at lengths n ≡ None → IsClosestOf named lengths best → IsClosestOf (named ++ n ∷ []) lengths best
  closest_skip None none is = λ k h. elim (Contains-push_cases named n k h) [ inl old ↦ is k old | inr new ↦ subst (λ j. known_at lengths j ≡ None) new none ]
  closest_skip (Some b) none is = (
    Contains-append_left named (n ∷ []) b.1 is.0,
    is.1,
    λ k l h known. elim (Contains-push_cases named n k h) [
      | inl old ↦ is.2 k l old known
      | inr new ↦ absurd (some_none (known_at lengths k) l known (subst (λ j. known_at lengths j ≡ None) new none))
    ],
  )

  module _ (s : ℕ) (here : known_at lengths n ≡ Some s) where
    here_is : (k l : ℕ) → n ≡ k → known_at lengths k ≡ Some l → (s ≡ l) × (n ≤ k)
    here_is k l same known = (some_same (known_at lengths n) s l here (subst (λ j. known_at lengths j ≡ Some l) (sym same) known), omega arith)

    takes : (b : ℕ × ℕ) → IsClosestOf named lengths (Some b) → IsNearer s n b.0 b.1 → IsClosestOf (named ++ n ∷ []) lengths (Some (s, n))
    takes b is near = (
      Contains-push named n,
      here,
      λ k l h known. elim (Contains-push_cases named n k h) [
        | inl old ↦ nearer_trans s n b.0 b.1 l k near (is.2 k l old known)
        | inr new ↦ inr (here_is k l new known)
      ],
    )

    keeps : (b : ℕ × ℕ) → IsClosestOf named lengths (Some b) → IsNearer b.0 b.1 s n → IsClosestOf (named ++ n ∷ []) lengths (Some b)
    keeps b is near = (
      Contains-append_left named (n ∷ []) b.1 is.0,
      is.1,
      λ k l h known. elim (Contains-push_cases named n k h) [
        | inl old ↦ is.2 k l old known
        | inr new ↦ nearer_trans b.0 b.1 s n l k near (inr (here_is k l new known))
      ],
    )

    by_order : (b : ℕ × ℕ) (o p : Ordering) → nat_cmp b.0 s ≡ o → nat_cmp b.1 n ≡ p → IsClosestOf named lengths (Some b) → IsClosestOf (named ++ n ∷ []) lengths (Some (cond (is_le (ordering_then o p)) b (s, n)))
    by_order b Less p one other is = keeps b is (inl (is_less b.0 s one))
    by_order b Greater p one other is = takes b is (inl (is_greater b.0 s one))
    by_order b Equal Less one other is = keeps b is (inr (is_equal b.0 s one, (let l : b.1 < n = is_less b.1 n other in omega arith)))
    by_order b Equal Equal one other is = keeps b is (inr (is_equal b.0 s one, (let l : b.1 ≡ n = is_equal b.1 n other in omega arith)))
    by_order b Equal Greater one other is = takes b is (inr (sym (is_equal b.0 s one), (let l : n < b.1 = is_greater b.1 n other in omega arith)))

  pub closest_more : (best : Option (ℕ × ℕ)) (o : Option ℕ) → known_at lengths n ≡ o → IsClosestOf named lengths best → IsClosestOf (named ++ n ∷ []) lengths (nearer_of best o n)
  closest_more best None here is = closest_skip best here is
  closest_more None (Some s) here is = (
    Contains-push named n,
    here,
    λ k l h known. elim (Contains-push_cases named n k h) [
      | inl old ↦ absurd (some_none (known_at lengths k) l known (is k old))
      | inr new ↦ inr (here_is s here k l new known)
    ],
  )
  closest_more (Some b) (Some s) here is = by_order s here b (nat_cmp b.0 s) (nat_cmp b.1 n) refl refl is

pub closest_step : (needs : List ℕ) (lengths : List (Option ℕ)) (i : ℕ) (best : Option (ℕ × ℕ)) → i < length needs → IsClosestOf (take i needs) lengths best → IsClosestOf (take (i + 1) needs) lengths (nearer_of best (known_at lengths (get_or needs i 0)) (get_or needs i 0))
closest_step needs lengths i best within is = subst (λ l. IsClosestOf l lengths (nearer_of best (known_at lengths (get_or needs i 0)) (get_or needs i 0))) (sym (take_more needs i 0 within)) (closest_more (take i needs) lengths (get_or needs i 0) best (known_at lengths (get_or needs i 0)) refl is)

module _ (needs : List (List ℕ)) (lengths : List (Option ℕ)) (first : ℕ) where
  pub leads_home : (k : ℕ) (js : List ℕ) → LeadsTo needs lengths first k js first → GoesOn needs lengths first k js
  leads_home k [] leads = leads
  leads_home k (j ∷ js) leads = (leads.0, leads.1, leads_home j js leads.2)

  pub leads_more : (k : ℕ) (js : List ℕ) (j l : ℕ) → LeadsTo needs lengths first k js j → j ≢ first → IsClosest (listed_at needs j) lengths l → LeadsTo needs lengths first k (js ++ j ∷ []) l
  leads_more k [] j l leads other next = (other, leads, next)
  leads_more k (i ∷ js) j l leads other next = (leads.0, leads.1, leads_more i js j l leads.2 other next)

  pub walk_more : (js : List ℕ) (j : ℕ) (next : Option ℕ) → IsWalkTo needs lengths first js (Some j) → IsNextOf (listed_at needs j) lengths first next → IsWalkTo needs lengths first (js ++ j ∷ []) next
  walk_more js j None walk is = leads_home first (js ++ j ∷ []) (leads_more first js j first walk.2 walk.0 is)
  walk_more js j (Some l) walk is = (is.0, (is.1.steps, is.1.way), leads_more first js j l walk.2 walk.0 is.1)

  module _ (are : AreLengths needs first lengths) where
    -- from what isn't the first, something that is needed is nearer
    pub some_nearer : (j m : ℕ) → j ≢ first → known_at lengths j ≡ Some m → (n l : ℕ) × Contains (listed_at needs j) n × (known_at lengths n ≡ Some l) × (m ≡ suc l)
    some_nearer j zero other known = absurd (other (are.only j known))
    some_nearer j (suc l) other known = let r = are.down j l known in (r.0, l, r.1, r.2, refl)

    pub has_way_on : (j m : ℕ) → j ≢ first → known_at lengths j ≡ Some m → HaveNoWay (listed_at needs j) lengths → ⊥
    has_way_on j m other known none = let r = some_nearer j m other known in some_none (known_at lengths r.0) r.1 r.3 (none r.0 r.2)

    pub steps_fall : (j m : ℕ) (next : Option ℕ) → j ≢ first → known_at lengths j ≡ Some m → IsNextOf (listed_at needs j) lengths first next → steps_left lengths next < steps_left lengths (Some j)
    steps_fall j m None other known is = omega arith
    steps_fall j m (Some l) other known is =
        let r = some_nearer j m other known in
        let one : unwrap_or (known_at lengths j) 0 ≡ m = ap (λ o. unwrap_or o 0) known in
        let two : unwrap_or (known_at lengths l) 0 ≡ is.1.steps = ap (λ o. unwrap_or o 0) is.1.way in
        let suc_is : m ≡ suc r.1 = r.4 in
        elim (is.1.best r.0 r.1 r.2 r.3) [
          | inl less ↦ omega arith
          | inr same ↦ (let e : is.1.steps ≡ r.1 = same.0 in omega arith)
        ]

    module _ (js named : List ℕ) (next : Option ℕ) (j : ℕ) (at : next ≡ Some j) (same : named ≡ listed_at needs j) (walk : IsWalkTo needs lengths first js next) where
      walk_at : IsWalkTo needs lengths first js (Some j)
      walk_at = subst (IsWalkTo needs lengths first js) at walk

      pub way_there : HaveNoWay named lengths → ⊥
      way_there none = has_way_on j walk_at.1.0 walk_at.0 walk_at.1.1 (subst (λ l. HaveNoWay l lengths) same none)

      pub falls_there : (after : Option ℕ) → IsNextOf named lengths first after → steps_left lengths after < steps_left lengths next
      falls_there after is = subst (λ o. steps_left lengths after < steps_left lengths o) (sym at) (steps_fall j walk_at.1.0 after walk_at.0 walk_at.1.1 (subst (λ l. IsNextOf l lengths first after) same is))

      pub walk_there : (after : Option ℕ) → IsNextOf named lengths first after → IsWalkTo needs lengths first (js ++ j ∷ []) after
      walk_there after is = walk_more js j after walk_at (subst (λ l. IsNextOf l lengths first after) same is)

pub walk_found : (needs : List (List ℕ)) (heights : List (Option ℕ)) (i : ℕ) (walk : List ℕ) → i < length needs → ((k : ℕ) → k < i → known_at heights k ≡ None → IsOnNone needs k) → IsWalkBack needs i walk → IsFoundWalk needs heights walk
walk_found needs heights i [] within before is = absurd is.walk_is
walk_found needs heights i (k ∷ ks) within before is =
    let same : k ≡ i = is.walk_is.0 in
    record {
      within = subst (λ n. n < length needs) (sym same) within;
      before = subst (λ n. (j : ℕ) → j < n → known_at heights j ≡ None → IsOnNone needs j) (sym same) before;
      lengths = is.lengths;
      are = subst (λ n. AreLengths needs n is.lengths) (sym same) is.are;
      walk = subst (λ n. GoesOn needs is.lengths n n ks) (sym same) is.walk_is.1;
    }

-- one place more is on no cycle
pub none_more : (needs : List (List ℕ)) (heights : List (Option ℕ)) (i : ℕ) → ((k : ℕ) → k < i → known_at heights k ≡ None → IsOnNone needs k) → IsOnNone needs i → (k : ℕ) → k < i + 1 → known_at heights k ≡ None → IsOnNone needs k
none_more needs heights i before is k below unknown = elim (cases_lt k i) [
  | inl earlier ↦ before k earlier unknown
  | inr later ↦ (let same : i ≡ k = omega arith in subst (IsOnNone needs) same is)
]
