-- The shortest ways to a place, level by level.
use Rattle.std.proofs.Common.{◌≡◌, ◌<◌, ◌≤◌, ◌+◌, ℕ, suc, List, [], ◌∷◌, ◌++◌, length, set, take, get_or, inl, inr, refl, sym, ◌∙◌, subst, arith}
use Rattle.std.specs.Prelude.{Option, Some, None, Bool, true, false, is_some, flat_map}
use Rattle.std.specs.List.{Contains}
use Rattle.std.proofs.lemmas.List.{length-set, length_push, take_more, take_at}
use Rattle.std.proofs.lemmas.List.Elements.{Contains-append_left, Contains-append_right, Contains-append_cases, Contains-get_or, Contains-push, Contains-push_cases}
use Rattle.std.proofs.lemmas.Bool.{cases_lt}
use Rattle.vk_spec.proofs.ListLemmas.{contains_nothing, contains_first, contains_cases, contains-flat_map, flat_map-contains, flat_map-take_more}
use Rattle.vk_order.specs.Needs.{listed_at, known_at, known_in, AreUsers}
use Rattle.vk_order.specs.Ways.{AreLengths, AreNear, AreReached}
use Rattle.vk_order.proofs.NumberLemmas.{known_here, known_kept, known_cases, known_more, known_within, none_from, some_from}

pub reached_known : (place depth m : ℕ) (lengths : List (Option ℕ)) (next : List ℕ) → known_at lengths place ≡ Some m → AreReached (place ∷ []) depth lengths lengths next next
reached_known place depth m lengths next here = record {
  long = refl;
  kept = λ k l known. known;
  fresh = λ k l known. inl known;
  all = λ k h. elim (contains_cases place k [] h) [
    | inl same ↦ (m, subst (λ j. known_at lengths j ≡ Some m) same here)
    | inr none ↦ absurd (contains_nothing k none)
  ];
  still = λ k h. h;
  next = λ k h. inl h;
  count = refl;
}

pub reached_new : (place depth : ℕ) (lengths : List (Option ℕ)) (next : List ℕ) → place < length lengths → known_at lengths place ≡ None → AreReached (place ∷ []) depth lengths (set lengths place (Some depth)) next (next ++ place ∷ [])
reached_new place depth lengths next within none = record {
  long = length-set lengths place (Some depth);
  kept = known_kept lengths place depth none;
  fresh = λ k m known. elim (known_cases lengths place depth within k m known) [
    | inl here ↦ inr (here.1, subst (Contains (place ∷ [])) (sym here.0) (contains_first place []), subst (Contains (next ++ place ∷ [])) (sym here.0) (Contains-push next place))
    | inr old ↦ inl old
  ];
  all = λ k h. elim (contains_cases place k [] h) [
    | inl same ↦ (depth, subst (λ j. known_at (set lengths place (Some depth)) j ≡ Some depth) same (known_here lengths place depth within))
    | inr no_more ↦ absurd (contains_nothing k no_more)
  ];
  still = λ k h. Contains-append_left next (place ∷ []) k h;
  next = λ k h. elim (Contains-push_cases next place k h) [
    | inl old ↦ inl old
    | inr new ↦ inr (subst (λ j. known_at (set lengths place (Some depth)) j ≡ Some depth) new (known_here lengths place depth within))
  ];
  count = (let more : known_in (set lengths place (Some depth)) ≡ known_in lengths + 1 = known_more lengths place depth within none in let one : length (next ++ place ∷ []) ≡ length next + 1 = length_push next place in omega arith);
}

pub reached_then : (these those : List ℕ) (depth : ℕ) (a b c : List (Option ℕ)) (p q r : List ℕ) → AreReached these depth a b p q → AreReached those depth b c q r → AreReached (these ++ those) depth a c p r
reached_then these those depth a b c p q r one other = record {
  long = other.long ∙ one.long;
  kept = λ k m known. other.kept k m (one.kept k m known);
  fresh = λ k m known. elim (other.fresh k m known) [
    | inl old ↦ elim (one.fresh k m old) [
      | inl oldest ↦ inl oldest
      | inr new ↦ inr (new.0, Contains-append_left these those k new.1, other.still k new.2)
    ]
    | inr new ↦ inr (new.0, Contains-append_right these those k new.1, new.2)
  ];
  all = λ k h. elim (Contains-append_cases these those k h) [
    | inl here ↦ (let s = one.all k here in (s.0, other.kept k s.0 s.1))
    | inr there ↦ other.all k there
  ];
  still = λ k h. other.still k (one.still k h);
  next = λ k h. elim (other.next k h) [
    | inl old ↦ elim (one.next k old) [ inl oldest ↦ inl oldest | inr new ↦ inr (other.kept k depth new) ]
    | inr new ↦ inr new
  ];
  count = omega (arith, one.count, other.count);
}

pub reached_there : (place depth : ℕ) (lengths : List (Option ℕ)) (next : List ℕ) (t : Bool) → t ≡ is_some (known_at lengths place) → t ≡ true → AreReached (place ∷ []) depth lengths lengths next next
reached_there place depth lengths next t test yes_one = let r = some_from (known_at lengths place) t test yes_one in reached_known place depth r.0 lengths next r.1

pub reached_put : (place depth : ℕ) (lengths : List (Option ℕ)) (next new : List ℕ) (t : Bool) → place < length lengths → t ≡ is_some (known_at lengths place) → t ≡ false → new ≡ next ++ place ∷ [] → AreReached (place ∷ []) depth lengths (set lengths place (Some depth)) next new
reached_put place depth lengths next new t within test none is = subst (AreReached (place ∷ []) depth lengths (set lengths place (Some depth)) next) (sym is) (reached_new place depth lengths next within (none_from (known_at lengths place) t test none))

pub reached_step : (places : List ℕ) (depth i : ℕ) (a b c : List (Option ℕ)) (p q r : List ℕ) → i < length places → AreReached (take i places) depth a b p q → AreReached (get_or places i 0 ∷ []) depth b c q r → AreReached (take (i + 1) places) depth a c p r
reached_step places depth i a b c p q r within one other = subst (λ l. AreReached l depth a c p r) (sym (take_more places i 0 within)) (reached_then (take i places) (get_or places i 0 ∷ []) depth a b c p q r one other)

pub level_step : (users : List (List ℕ)) (level : List ℕ) (depth i : ℕ) (named : List ℕ) (a b c : List (Option ℕ)) (p q r : List ℕ) → i < length level → named ≡ listed_at users (get_or level i 0) → AreReached (flat_map (listed_at users) (take i level)) depth a b p q → AreReached named depth b c q r
    → AreReached (flat_map (listed_at users) (take (i + 1) level)) depth a c p r
level_step users level depth i named a b c p q r within is one other =
    subst (λ l. AreReached l depth a c p r) (sym (flat_map-take_more (listed_at users) level i 0 within))
    (reached_then (flat_map (listed_at users) (take i level)) (listed_at users (get_or level i 0)) depth a b c p q r one (subst (λ l. AreReached l depth b c q r) is other))

abbrev nothing : Option ℕ
nothing = None

module _ (needs users : List (List ℕ)) (first depth : ℕ) (before after : List (Option ℕ)) (level next : List ℕ) (used : AreUsers needs users) (is : AreNear needs first depth before level) (reached : AreReached (flat_map (listed_at users) level) (depth + 1) before after [] next) where
  next_down : (k m : ℕ) → known_at after k ≡ Some (suc m) → (n : ℕ) × Contains (listed_at needs k) n × (known_at after n ≡ Some m)
  next_down k m known = elim (reached.fresh k (suc m) known) [
    | inl old ↦ (let r = is.down k m old in (r.0, r.1, reached.kept r.0 m r.2))
    | inr new ↦ (
        let r = contains-flat_map (listed_at users) level k new.1 in
        let same : depth ≡ m = (let e : suc m ≡ depth + 1 = new.0 in omega arith) in
        (r.0, used.from k r.0 r.2, subst (λ d. known_at after r.0 ≡ Some d) same (reached.kept r.0 depth (is.deep r.0 r.1)))
        )
  ]

  near_after : (k m : ℕ) → known_at after k ≡ Some m → m ≤ depth + 1
  near_after k m known = elim (reached.fresh k m known) [
    | inl old ↦ (let low : m ≤ depth = is.near k m old in omega arith)
    | inr new ↦ (let e : m ≡ depth + 1 = new.0 in omega arith)
  ]

  up_at : (n m k : ℕ) → known_at before n ≡ Some m → Contains (listed_at needs k) n → (l : ℕ) × (known_at after k ≡ Some l) × (l ≤ suc m)
  up_at n m k known h = elim (cases_lt m depth) [
    | inl lower ↦ (let r = is.up n m k known lower h in (r.0, reached.kept k r.0 r.1, r.2))
    | inr not_lower ↦ (
        let low : m ≤ depth = is.near n m known in
        let same : m ≡ depth = omega arith in
        let listed : Contains level n = is.all n (subst (λ d. known_at before n ≡ Some d) same known) in
        let r = reached.all k (flat_map-contains (listed_at users) level n k listed (used.to k n h)) in
        let close : r.0 ≤ depth + 1 = near_after k r.0 r.1 in
        let small : r.0 ≤ suc m = omega arith in
        (r.0, r.1, small)
        )
  ]

  pub near_next : 0 < length level → AreNear needs first (depth + 1) after next
  near_next some = record {
    long = reached.long ∙ is.long;
    here = reached.kept first 0 is.here;
    only = λ k known. elim (reached.fresh k 0 known) [ inl old ↦ is.only k old | inr new ↦ absurd (let e : 0 ≡ depth + 1 = new.0 in omega arith) ];
    down = next_down;
    near = near_after;
    up = λ n m k known below h. elim (reached.fresh n m known) [
      | inl old ↦ up_at n m k old h
      | inr new ↦ absurd (let e : m ≡ depth + 1 = new.0 in omega arith)
    ];
    all = λ k known. elim (reached.fresh k (depth + 1) known) [
      | inl old ↦ absurd (let low : depth + 1 ≤ depth = is.near k (depth + 1) old in omega arith)
      | inr new ↦ new.2
    ];
    deep = λ k h. elim (reached.next k h) [ inl none ↦ absurd (contains_nothing k none) | inr new ↦ new ];
    few = (let count : known_in after + 0 ≡ known_in before + length next = reached.count in let old : depth + length level ≤ known_in before = is.few in omega arith);
  }

pub near_end : (needs : List (List ℕ)) (first depth : ℕ) (lengths : List (Option ℕ)) (level : List ℕ) → length level ≡ 0 → AreNear needs first depth lengths level → AreLengths needs first lengths
near_end needs first depth lengths level empty is = record {
  long = is.long;
  here = is.here;
  only = is.only;
  down = is.down;
  up = λ n m k known h. is.up n m k known (
      let low : m ≤ depth = is.near n m known in
      let not_last : m ≡ depth → ⊥ = λ same. (let c = is.all n (subst (λ d. known_at lengths n ≡ Some d) same known) in let below : c.0 < length level = c.1 in absurd (omega arith)) in
      omega arith
      ) h;
}

pub level_within : (needs users : List (List ℕ)) (first depth : ℕ) (lengths : List (Option ℕ)) (level named : List ℕ) → AreUsers needs users → AreNear needs first depth lengths level → named ≡ level → (i d : ℕ) → i < length named → get_or named i d < length users
level_within needs users first depth lengths level named used is same i d within =
    let deep = is.deep (get_or named i d) (subst (λ l. Contains l (get_or named i d)) same (Contains-get_or named i d within)) in
    let inside : get_or named i d < length lengths = known_within lengths (get_or named i d) depth deep in
    let e : length lengths ≡ length needs = is.long in
    let f : length users ≡ length needs = used.long in
    omega arith

-- the next level, as it is written back
pub near_step : (needs users : List (List ℕ)) (first depth n : ℕ) (lengths before after past : List (Option ℕ)) (level named next : List ℕ) → AreUsers needs users → AreNear needs first depth lengths level → before ≡ lengths → length before ≡ n → named ≡ level → 0 < length level
    → AreReached (flat_map (listed_at users) named) (depth + 1) before after [] next → AreNear needs first (depth + 1) (take n (after ++ past)) next
near_step needs users first depth n lengths before after past level named next used is same size same_level some reached =
    subst (λ l. AreNear needs first (depth + 1) l next) (sym (take_at after past n (reached.long ∙ size)))
    (near_next needs users first depth lengths after level next used is (subst (λ l. AreReached (flat_map (listed_at users) l) (depth + 1) lengths after [] next) same_level (subst (λ l. AreReached (flat_map (listed_at users) named) (depth + 1) l after [] next) same reached)) some)
