-- Heights and cycles.
use Rattle.std.proofs.Common.{◌≡◌, ◌≢◌, ◌<◌, ◌≤◌, ◌⊎◌, ℕ, zero, suc, ◌+◌, Bool, true, false, cond, List, [], ◌∷◌, ◌++◌, length, inl, inr, refl, ap, sym, ◌∙◌, subst, arith}
use Rattle.std.specs.Prelude.{Option, Some, None, option_map, option_and_then, is_some, filter_map}
use Rattle.std.specs.declared.cmp.Ordering.TheVariants.{Less, Equal, Greater}
use Rattle.std.specs.List.{Contains, list_any, find}
use Rattle.std.proofs.lemmas.List.Elements.{Contains-append_right, Contains-append_cases}
use Rattle.vk_spec.specs.Lists.{NoRepeats, IsWithin}
use Rattle.vk_spec.proofs.ListLemmas.{contains_nothing, contains_first, contains_later, contains_cases}
use Rattle.vk_spec.proofs.FileLemmas.{path_same}
use Rattle.vk_spec.specs.Settings.{Instance}
use Rattle.vk_resolution.specs.Keys.{Key, key_cmp, Ascends, in_order}
use Rattle.vk_resolution.specs.Settings.{same_instance}
use Rattle.vk_resolution.specs.Planning.{instance_key, is_within, HasHeight, IsByHeight, has_way, IsOnCycle, IsFrom, IsNext, WalksOn, IsCycleFrom, IsCycle}
use Rattle.vk_resolution.specs.Computed.{Numbered, numbered_key, least_from, on_cycle_within, first_on_cycle, with_way, head_of, next_by, walk_by, cycle_by}
use Rattle.vk_resolution.specs.Walks.{Targets, EdgesStay, EdgesLeave, HeightsHaveNoCycle, NoCycleGivesHeights, TargetsAreLower, TargetsStandBefore, CycleExists, CycleIsFound, CycleIsOne, IsRound, RoundIsAWay, IsShortestRound, CycleIsShortest}
use Rattle.vk_resolution.proofs.Members.{true_or_false, true_false, no_is_false, any_contains, contains_any, all_contains, not_all, found_contains, nothing_found, filter_map-contains}
use Rattle.vk_resolution.proofs.Orders.{turned_back, before_both, in_order-contains}
use Rattle.vk_resolution.proofs.LeastLemmas.{no_longer}
use Rattle.vk_resolution.proofs.Levels.{number_before}
use Rattle.vk_resolution.proofs.FactLemmas.{instance_key-IsKey, same_instance-Decides}
use Rattle.vk_resolution.proofs.Soundness.{IsFirstPass, least_first, least_none, least_below, numbered_key-IsKey, one_height, within_no_cycle, one_shortest, way_listed, next_is, walk_is, then_some, map_some, not_greater_less, not_greater_same}

-- what passes has a least
pub least_passes : (test : ℕ → Bool) (n : ℕ) → test n ≡ true → (m : ℕ) × (m ≤ n) × IsFirstPass test 0 m
least_passes test n passes = by (least_from 0 (suc n) test) refl
  where
    by : (o : Option ℕ) → least_from 0 (suc n) test ≡ o → (m : ℕ) × (m ≤ n) × IsFirstPass test 0 m
    by None e = absurd (true_false (test n) passes (least_none test 0 (suc n) e n (omega arith) (omega arith)))
    by (Some m) e = let below : m < 0 + suc n = least_below test 0 (suc n) m e in (m, omega arith, least_first test 0 (suc n) m e)

pub heights_have_no_cycle : HeightsHaveNoCycle
heights_have_no_cycle targets n i height cycle = within_no_cycle targets n i height.within cycle

-- a chain of edges
abbrev pub IsChain : Targets → Instance → List Instance → Type 0
IsChain targets i [] = Unit {0}
IsChain targets i (j ∷ js) = Contains (targets i) j × IsChain targets j js

abbrev pub HasRepeat : List Instance → Type 0
HasRepeat [] = ⊥
HasRepeat (i ∷ is) = Contains is i ⊎ HasRepeat is

pub repeats_or : (is : List Instance) → NoRepeats is ⊎ HasRepeat is
repeats_or [] = inl tt
repeats_or (i ∷ is) =
    elim (repeats_or is) [
      | inl distinct ↦ elim (true_or_false (list_any (same_instance i) is)) [
        | inl some ↦ (let r = any_contains (same_instance i) is some in inr (inl (subst (Contains is) (sym ((same_instance-Decides i r.0).0 r.2)) r.1)))
        | inr none ↦ inl ((λ h. true_false (list_any (same_instance i) is) (contains_any (same_instance i) is i h ((same_instance-Decides i i).1 refl)) none), distinct)
      ]
      | inr repeat ↦ inr (inr repeat)
    ]

module _ (targets : Targets) where
  pub long_chain : (n : ℕ) (i : Instance) → is_within targets n i ≡ false → (js : List Instance) × (length js ≡ suc n) × IsChain targets i js
  long_chain zero i long = let r = not_all (λ j. false) (targets i) long in (r.0 ∷ [], refl, (r.1, tt))
  long_chain (suc n) i long =
      let r = not_all (is_within targets n) (targets i) long in
      let c = long_chain n r.0 r.2 in
      (r.0 ∷ c.0, ap suc c.1, (r.1, c.2))

  edge_way : (n : ℕ) (i j k : Instance) → Contains (targets i) j → has_way targets n j k ≡ true → has_way targets (suc n) i k ≡ true
  edge_way n i j k edge way = contains_any (λ l. has_way targets n l k) (targets i) j edge way

  chain_way : (i : Instance) (js : List Instance) (k : Instance) → IsChain targets i js → Contains js k → (n : ℕ) × (has_way targets (suc n) i k ≡ true)
  chain_way i [] k chain h = absurd (contains_nothing k h)
  chain_way i (j ∷ js) k chain h =
      elim (contains_cases j k js h) [
        | inl same ↦ (zero, edge_way zero i j k chain.0 ((same_instance-Decides j k).1 same))
        | inr later ↦ (let r = chain_way j js k chain.1 later in (suc r.0, edge_way (suc r.0) i j k chain.0 r.1))
      ]

  pub repeat_cycle : (i : Instance) (js : List Instance) → IsChain targets i js → HasRepeat (i ∷ js) → (k : Instance) × Contains (i ∷ js) k × IsOnCycle targets k
  repeat_cycle i js chain (inl here) = let r = chain_way i js i chain here in (i, contains_first i js, (r.0, r.1))
  repeat_cycle i [] chain (inr later) = absurd later
  repeat_cycle i (j ∷ js) chain (inr later) = let r = repeat_cycle j js chain.1 later in (r.0, contains_later i r.0 (j ∷ js) r.1, r.2)

  module _ (instances : List Instance) (stay : EdgesStay targets instances) where
    pub chain_in : (i : Instance) (js : List Instance) → IsChain targets i js → Contains instances i → IsWithin (i ∷ js) instances
    chain_in i [] chain h k at = elim (contains_cases i k [] at) [ inl same ↦ subst (Contains instances) same h | inr none ↦ absurd (contains_nothing k none) ]
    chain_in i (j ∷ js) chain h k at =
        elim (contains_cases i k (j ∷ js) at) [
          | inl same ↦ subst (Contains instances) same h
          | inr later ↦ chain_in j js chain.1 (stay i h j chain.0) k later
        ]

    no_cycle_height : ((i : Instance) → Contains instances i → IsOnCycle targets i → ⊥) → (i : Instance) → Contains instances i → (n : ℕ) × HasHeight targets n i
    no_cycle_height none i h =
        elim (true_or_false (is_within targets (length instances) i)) [
          | inl within ↦ (let r = least_passes (λ n. is_within targets n i) (length instances) within in (r.0, record { within = r.2.passes; no_lower = λ m lower. r.2.before m (omega arith) lower }))
          | inr long ↦ (
              let c = long_chain (length instances) i long in
              let too_long : length (i ∷ c.0) ≡ suc (suc (length instances)) = ap suc c.1 in
              elim (repeats_or (i ∷ c.0)) [
                | inl distinct ↦ (let short : length (i ∷ c.0) ≤ length instances = no_longer (i ∷ c.0) instances distinct (chain_in i c.0 c.2 h) in absurd (omega arith))
                | inr repeat ↦ (let r = repeat_cycle i c.0 c.2 repeat in absurd (none r.0 (chain_in i c.0 c.2 h r.0 r.1) r.2))
              ]
              )
        ]

pub no_cycle_gives_heights : NoCycleGivesHeights
no_cycle_gives_heights targets instances stay none = no_cycle_height targets instances stay none

pub targets_are_lower : TargetsAreLower
targets_are_lower targets zero n i j height_i height_j edge = let clash : false ≡ true = all_contains (λ k. false) (targets i) height_i.within j edge in (cc)
targets_are_lower targets (suc m) n i j height_i height_j edge =
    let within : is_within targets m j ≡ true = all_contains (is_within targets m) (targets i) height_i.within j edge in
    let above : m < n → ⊥ = λ lower. true_false (is_within targets m j) within (height_j.no_lower m lower) in
    omega arith

by_height_rest : (targets : Targets) (xs ys : List Instance) → IsByHeight targets (xs ++ ys) → IsByHeight targets ys
by_height_rest targets [] ys order = order
by_height_rest targets (x ∷ xs) ys order = by_height_rest targets xs ys order.1

pub targets_stand_before : TargetsStandBefore
targets_stand_before targets before after i j order heights h edge =
    let m = heights i (Contains-append_right before (i ∷ after) i (contains_first i after)) in
    let n = heights j h in
    let lower : n.0 < m.0 = targets_are_lower targets m.0 n.0 i j m.1 n.1 edge in
    elim (Contains-append_cases before (i ∷ after) j h) [
      | inl here ↦ here
      | inr rest ↦ elim (contains_cases i j after rest) [
        | inl same ↦ (
            let equal : m.0 ≡ n.0 = one_height targets m.0 n.0 j (subst (HasHeight targets m.0) same m.1) n.1 in
            absurd (omega arith)
            )
        | inr later ↦ absurd (before_both ((m.0 ∷ []) ∷ instance_key i) ((n.0 ∷ []) ∷ instance_key j) ((by_height_rest targets before (i ∷ after) order).0 j later m.0 n.0 m.1 n.1) (number_before n.0 m.0 (instance_key j) (instance_key i) lower))
      ]
    ]

-- neither greater: the same
tied : (k l : Key) → key_cmp k l ≢ Greater → key_cmp l k ≢ Greater → k ≡ l
tied k l one other =
    elim (key_cmp k l) as (λ o. key_cmp k l ≡ o → k ≡ l) [
      | Less ↦ λ e. absurd (other (turned_back k l e))
      | Equal ↦ λ e. path_same k l e
      | Greater ↦ λ e. absurd (one e)
    ] refl

module _ (targets : Targets) where
  next_one : (first i j k : Instance) → IsNext targets first i j → IsNext targets first i k → j ≡ k
  next_one first i j k one other =
      let same : (one.steps ∷ []) ∷ instance_key j ≡ (other.steps ∷ []) ∷ instance_key k =
      tied ((one.steps ∷ []) ∷ instance_key j) ((other.steps ∷ []) ∷ instance_key k) (one.best k other.steps other.edge other.back) (other.best j one.steps one.edge one.back) in
      let keys : instance_key j ≡ instance_key k = (cc) in
      instance_key-IsKey j k keys

  walk_one : (first i : Instance) (js ks : List Instance) → WalksOn targets first i js → WalksOn targets first i ks → js ≡ ks
  walk_one first i [] [] one other = refl
  walk_one first i [] (k ∷ ks) one other = absurd (other.0 (sym (next_one first i first k one other.1)))
  walk_one first i (j ∷ js) [] one other = absurd (one.0 (next_one first i j first one.1 other))
  walk_one first i (j ∷ js) (k ∷ ks) one other =
      let same : j ≡ k = next_one first i j k one.1 other.1 in
      let rest : js ≡ ks = walk_one first j js ks one.2 (subst (λ l. WalksOn targets first l ks) (sym same) other.2) in
      (cc)

  -- the first edge of a way
  way_edge : (n : ℕ) (i k : Instance) → has_way targets (suc n) i k ≡ true → (j : Instance) × Contains (targets i) j × (has_way targets n j k ≡ true)
  way_edge n i k way = any_contains (λ j. has_way targets n j k) (targets i) way

  -- where there is a way, there is a shortest one
  shortest_way : (n : ℕ) (i k : Instance) → has_way targets n i k ≡ true → (m : ℕ) × (m ≤ n) × IsFrom targets m i k
  shortest_way n i k way = let r = least_passes (λ m. has_way targets m i k) n way in (r.0, r.1, record { way = r.2.passes; no_shorter = λ m lower. r.2.before m (omega arith) lower })

  -- the next after a shortest way has a shortest way of one edge less
  next_steps : (first i j : Instance) (n : ℕ) → IsFrom targets (suc n) i first → (next : IsNext targets first i j) → next.steps ≡ n
  next_steps first i j n from next =
      let r = way_edge n i first from.way in
      let s = shortest_way n r.0 first r.2 in
      let not_more : s.0 < next.steps → ⊥ = λ lower. next.best r.0 s.0 r.1 s.2 (turned_back ((s.0 ∷ []) ∷ instance_key r.0) ((next.steps ∷ []) ∷ instance_key j) (number_before s.0 next.steps (instance_key r.0) (instance_key j) lower)) in
      let not_less : next.steps < n → ⊥ = λ lower. true_false (has_way targets (suc next.steps) i first) (edge_way targets next.steps i j first next.edge next.back.way) (from.no_shorter (suc next.steps) (omega arith)) in
      let bound : s.0 ≤ n = s.1 in
      omega arith

  -- a walk whose next has a shortest way of n edges has n more instances, and these have shorter and shorter ways
  pub record WalkFacts (first : Instance) (n : ℕ) (js : List Instance) : Type 0 where
    pub long : length js ≡ n
    pub distinct : NoRepeats js
    pub near : (k : Instance) → Contains js k → (m : ℕ) × (0 < m) × (m ≤ n) × IsFrom targets m k first

  zero_is : (i k : Instance) → has_way targets 0 i k ≡ true → i ≡ k
  zero_is i k way = (same_instance-Decides i k).0 way

  abbrev first_step : (first i : Instance) (js : List Instance) → WalksOn targets first i js → (j : Instance) × IsNext targets first i j
  first_step first i [] walk = (first, walk)
  first_step first i (j ∷ js) walk = (j, walk.1)

  more_facts : (first k : Instance) (ks : List Instance) (m : ℕ) → IsFrom targets (suc m) k first → WalkFacts first m ks → WalkFacts first (suc m) (k ∷ ks)
  more_facts first k ks m back rest = record {
    long = ap suc rest.long;
    distinct = (
      (λ h. (
          let r = rest.near k h in
          let clash : r.0 ≡ suc m = one_shortest targets r.0 (suc m) k first r.3 back in
          let bound : r.0 ≤ m = r.2 in
          absurd (omega arith)
          )),
      rest.distinct,
    );
    near = λ l h. elim (contains_cases k l ks h) [
      | inl is ↦ (suc m, (let p : 0 < suc m = omega arith in p), (let q : suc m ≤ suc m = omega arith in q), subst (λ x. IsFrom targets (suc m) x first) is back)
      | inr later ↦ (let r = rest.near l later in (r.0, r.1, (let b : r.0 ≤ m = r.2 in omega arith), r.3))
    ];
  }

  facts_step : (first k : Instance) (ks : List Instance) (n : ℕ) → k ≢ first → IsFrom targets n k first → ((m : ℕ) → IsFrom targets (suc m) k first → WalkFacts first m ks) → WalkFacts first n (k ∷ ks)
  facts_step first k ks zero other back rest = absurd (other (zero_is k first back.way))
  facts_step first k ks (suc m) other back rest = more_facts first k ks m back (rest m back)

  walk_facts : (first i : Instance) (js : List Instance) (n : ℕ) → (walk : WalksOn targets first i js) → (first_step first i js walk).1.steps ≡ n → WalkFacts first n js
  walk_facts first i [] n walk steps =
      let none : n ≡ 0 = sym steps ∙ one_shortest targets walk.steps 0 first first walk.back (record { way = (same_instance-Decides first first).1 refl; no_shorter = λ m lower. absurd (omega arith) }) in
      record { long = sym none; distinct = tt; near = λ k h. absurd (contains_nothing k h) }
  walk_facts first i (k ∷ ks) n walk steps =
      facts_step first k ks n walk.0 (subst (λ m. IsFrom targets m k first) steps walk.1.back)
      (λ m back. walk_facts first k ks m walk.2 (next_steps first k (first_step first k ks walk.2).0 m back (first_step first k ks walk.2).1))

  walk_round : (first i : Instance) (js : List Instance) → WalksOn targets first i js → IsRound targets first i js
  walk_round first i [] walk = walk.edge
  walk_round first i (j ∷ js) walk = (walk.1.edge, walk_round first j js walk.2)

  walk_others : (first i : Instance) (js : List Instance) → WalksOn targets first i js → Contains js first → ⊥
  walk_others first i [] walk h = contains_nothing first h
  walk_others first i (j ∷ js) walk h = elim (contains_cases j first js h) [ inl same ↦ walk.0 same | inr later ↦ walk_others first j js walk.2 later ]

  walk_some : (first : Instance) (js : List Instance) → (Contains (targets first) first → ⊥) → WalksOn targets first first js → 2 ≤ length (first ∷ js)
  walk_some first [] leave walk = absurd (leave walk.edge)
  walk_some first (j ∷ js) leave walk = omega arith

  rest_facts : (first : Instance) (rest : List Instance) → (walk : WalksOn targets first first rest) → WalkFacts first (first_step first first rest walk).1.steps rest
  rest_facts first rest walk = walk_facts first first rest (first_step first first rest walk).1.steps walk refl

  pub cycle_shortest : (instances : List Instance) → EdgesLeave targets → (first : Instance) (rest : List Instance) → IsCycle targets instances (first ∷ rest) → IsShortestRound targets first rest
  cycle_shortest instances leave first rest cycle =
      let step = first_step first first rest cycle.walk in
      let facts = rest_facts first rest cycle.walk in
      record {
        distinct = (walk_others first first rest cycle.walk, facts.distinct);
        some = walk_some first rest (leave first) cycle.walk;
        edges = walk_round first first rest cycle.walk;
        shortest = λ n way. (
            let r = way_edge n first first way in
            let s = shortest_way n r.0 first r.2 in
            let bound : s.0 ≤ n = s.1 in
            let not_more : s.0 < step.1.steps → ⊥ = λ lower. step.1.best r.0 s.0 r.1 s.2 (turned_back ((s.0 ∷ []) ∷ instance_key r.0) ((step.1.steps ∷ []) ∷ instance_key step.0) (number_before s.0 step.1.steps (instance_key r.0) (instance_key step.0) lower)) in
            let long : length rest ≡ step.1.steps = facts.long in
            omega arith
            );
      }

pub cycle_is_shortest : CycleIsShortest
cycle_is_shortest targets instances leave first rest cycle = cycle_shortest targets instances leave first rest cycle

cycle_one : (targets : Targets) (instances : List Instance) (one : Instance) (js : List Instance) (other : Instance) (ks : List Instance) → IsCycleFrom targets instances one js → IsCycleFrom targets instances other ks → one ∷ js ≡ other ∷ ks
cycle_one targets instances one js other ks is is_other =
    let keys : instance_key one ≡ instance_key other = tied (instance_key one) (instance_key other) (is.least other is_other.planned is_other.on_cycle) (is_other.least one is.planned is.on_cycle) in
    let same : one ≡ other = instance_key-IsKey one other keys in
    let rest : js ≡ ks = walk_one targets one one js ks is.walk (subst (λ k. WalksOn targets k k ks) (sym same) is_other.walk) in
    (cc)

pub cycle_is_one : CycleIsOne
cycle_is_one targets instances [] other is is_other = absurd is
cycle_is_one targets instances (one ∷ js) [] is is_other = absurd is_other
cycle_is_one targets instances (one ∷ js) (other ∷ ks) is is_other = cycle_one targets instances one js other ks is is_other

-- what is found in a list in order is the least that passes
module _ (targets : Targets) (test : Instance → Bool) (first : Instance) where
  abbrev IsLeastPass : List Instance → Type 0
  IsLeastPass is = (i : Instance) → Contains is i → test i ≡ true → key_cmp (instance_key first) (instance_key i) ≢ Greater

  least_step : (k : Instance) (is : List Instance) (b : Bool) → test k ≡ b → Ascends instance_key (k ∷ is) → (find test is ≡ Some first → IsLeastPass is) → cond b (Some k) (find test is) ≡ Some first → IsLeastPass (k ∷ is)
  least_step k is true e ascends later found i h passes =
      let same : k ≡ first = (cc) in
      elim (contains_cases k i is h) [
        | inl here ↦ not_greater_same targets (instance_key first) (instance_key i) (ap instance_key (sym same ∙ here))
        | inr rest ↦ not_greater_less targets (instance_key first) (instance_key i) (subst (λ j. key_cmp (instance_key j) (instance_key i) ≡ Less) same (ascends.0 i rest))
      ]
  least_step k is false e ascends later found i h passes =
      elim (contains_cases k i is h) [
        | inl here ↦ absurd (true_false (test i) passes (subst (λ j. test j ≡ false) here e))
        | inr rest ↦ later found i rest passes
      ]

  found_least : (is : List Instance) → Ascends instance_key is → find test is ≡ Some first → IsLeastPass is
  found_least [] ascends e i h passes = absurd (contains_nothing i h)
  found_least (k ∷ is) ascends e i h passes = least_step k is (test k) refl ascends (found_least is ascends.1) e i h passes

module _ (targets : Targets) (instances : List Instance) (stay : EdgesStay targets instances) where
  -- the instances along a shortest way, each with its own shortest way
  pub record AlongWay (first : Instance) (n : ℕ) (xs : List Instance) : Type 0 where
    pub long : length xs ≡ suc n
    pub distinct : NoRepeats xs
    pub listed : IsWithin xs instances
    pub near : (k : Instance) → Contains xs k → (m : ℕ) × (m ≤ n) × IsFrom targets m k first

  along : (n : ℕ) (i first : Instance) → Contains instances i → IsFrom targets n i first → (xs : List Instance) × AlongWay first n xs
  along zero i first h from = (
    i ∷ [],
    record {
      long = refl;
      distinct = (contains_nothing i, tt);
      listed = λ k at. elim (contains_cases i k [] at) [ inl same ↦ subst (Contains instances) same h | inr none ↦ absurd (contains_nothing k none) ];
      near = λ k at. elim (contains_cases i k [] at) [ inl same ↦ (0, (let z : 0 ≤ 0 = omega arith in z), subst (λ x. IsFrom targets 0 x first) same from) | inr none ↦ absurd (contains_nothing k none) ];
    },
  )
  along (suc n) i first h from =
      let r = way_edge targets n i first from.way in
      let back : IsFrom targets n r.0 first = record {
        way = r.2;
        no_shorter = λ m lower. no_is_false (has_way targets m r.0 first) (λ way. true_false (has_way targets (suc m) i first) (edge_way targets m i r.0 first r.1 way) (from.no_shorter (suc m) (omega arith)));
      } in
      let rest = along n r.0 first (stay i h r.0 r.1) back in (
        i ∷ rest.0,
        record {
          long = ap suc rest.1.long;
          distinct = (
            (λ at. (
                let q = rest.1.near i at in
                let clash : q.0 ≡ suc n = one_shortest targets q.0 (suc n) i first q.2 from in
                let bound : q.0 ≤ n = q.1 in
                absurd (omega arith)
                )),
            rest.1.distinct,
          );
          listed = λ k at. elim (contains_cases i k rest.0 at) [ inl same ↦ subst (Contains instances) same h | inr later ↦ rest.1.listed k later ];
          near = λ k at. elim (contains_cases i k rest.0 at) [
            | inl same ↦ (suc n, (let z : suc n ≤ suc n = omega arith in z), subst (λ x. IsFrom targets (suc n) x first) same from)
            | inr later ↦ (let q = rest.1.near k later in (q.0, (let b : q.0 ≤ n = q.1 in omega arith), q.2))
          ];
        },
      )

  -- a shortest way has fewer edges than there are instances
  way_bound : (n : ℕ) (i first : Instance) → Contains instances i → IsFrom targets n i first → n < length instances
  way_bound n i first h from =
      let r = along n i first h from in
      let short : length r.0 ≤ length instances = no_longer r.0 instances r.1.distinct r.1.listed in
      let long : length r.0 ≡ suc n = r.1.long in
      omega arith

  -- an instance on a cycle is on one with no more edges than there are instances
  cycle_bound : (i : Instance) → Contains instances i → IsOnCycle targets i → (n : ℕ) × (n < length instances) × (has_way targets (suc n) i i ≡ true)
  cycle_bound i h cycle =
      let r = way_edge targets cycle.0 i i cycle.1 in
      let s = shortest_way targets cycle.0 r.0 i r.2 in
      (s.0, way_bound s.0 r.0 i (stay i h r.0 r.1) s.2, edge_way targets s.0 i r.0 i r.1 s.2.way)

  -- what the search takes is on a cycle
  within_cycle : (i : Instance) → on_cycle_within targets (length instances) i ≡ true → IsOnCycle targets i
  within_cycle i = by (least_from 0 (length instances) (λ n. has_way targets (suc n) i i)) refl
    where
      by : (o : Option ℕ) → least_from 0 (length instances) (λ n. has_way targets (suc n) i i) ≡ o → is_some o ≡ true → IsOnCycle targets i
      by None e some = (cc)
      by (Some n) e some = (n, (least_first (λ k. has_way targets (suc k) i i) 0 (length instances) n e).passes)

  -- and it takes each listed instance that is on one
  cycle_within : (i : Instance) → Contains instances i → IsOnCycle targets i → on_cycle_within targets (length instances) i ≡ true
  cycle_within i h cycle = by (least_from 0 (length instances) (λ n. has_way targets (suc n) i i)) refl
    where
      by : (o : Option ℕ) → least_from 0 (length instances) (λ n. has_way targets (suc n) i i) ≡ o → is_some o ≡ true
      by None e =
          let r = cycle_bound i h cycle in
          let below : r.0 < length instances = r.1 in
          absurd (true_false (has_way targets (suc r.0) i i) r.2 (least_none (λ n. has_way targets (suc n) i i) 0 (length instances) e r.0 (omega arith) (omega arith)))
      by (Some n) e = refl

  -- what is found is the least of all that are listed and on a cycle
  pub record IsLeastOnCycle (first : Instance) : Type 0 where
    pub listed : Contains instances first
    pub on_cycle : IsOnCycle targets first
    pub least : (i : Instance) → Contains instances i → IsOnCycle targets i → key_cmp (instance_key first) (instance_key i) ≢ Greater

  first_is : (first : Instance) → Ascends instance_key instances → first_on_cycle targets instances ≡ Some first → IsLeastOnCycle first
  first_is first ascends e =
      let test : Instance → Bool = on_cycle_within targets (length instances) in
      let r = found_contains test instances first e in
      record { listed = r.0; on_cycle = within_cycle first r.1; least = λ i h cycle. found_least targets test first instances ascends e i h (cycle_within i h cycle) }

  -- what the search answers is the walk that is told
  pub cycle_is : (walk : List Instance) → Ascends instance_key instances → cycle_by targets instances ≡ Some walk → IsCycle targets instances walk
  cycle_is walk ascends e =
      let n : ℕ = length instances in
      let r = then_some (λ first. option_map (λ js. first ∷ js) (walk_by targets n first n first)) (first_on_cycle targets instances) walk e in
      let q = map_some (λ js. r.0 ∷ js) (walk_by targets n r.0 n r.0) walk r.2 in
      let least = first_is r.0 ascends r.1 in
      subst (IsCycle targets instances) q.2 (record { planned = least.listed; on_cycle = least.on_cycle; least = least.least; walk = walk_is targets n n r.0 r.0 q.0 q.1 })

  -- where a target leads back, there is a next
  next_there : (first i k : Instance) (m : ℕ) → Contains instances i → Contains (targets i) k → IsFrom targets m k first → (p : Numbered) × (next_by targets (length instances) first i ≡ Some p)
  next_there first i k m h edge from =
      let ps : List Numbered = filter_map (with_way targets (length instances) first) (targets i) in
      let listed : with_way targets (length instances) first k ≡ Some (m, k) = elim (way_listed targets (length instances) m first k from) [
        | inl is ↦ is
        | inr long ↦ (let below : m < length instances = way_bound m k first (stay i h k edge) from in absurd (omega arith))
      ] in
      by (in_order numbered_key ps) refl (in_order-contains numbered_key numbered_key-IsKey ps (m, k) (filter_map-contains (with_way targets (length instances) first) (targets i) k (m, k) edge listed))
    where
      by : (sorted : List Numbered) → in_order numbered_key (filter_map (with_way targets (length instances) first) (targets i)) ≡ sorted → Contains sorted (m, k) → (p : Numbered) × (next_by targets (length instances) first i ≡ Some p)
      by [] e held = absurd (contains_nothing (m, k) held)
      by (p ∷ sorted) e held = (p, ap head_of e)

  abbrev walk_after : ℕ → Instance → Numbered → Option (List Instance)
  walk_after m first p = cond (same_instance p.1 first) (Some []) (option_map (λ js. p.1 ∷ js) (walk_by targets (length instances) first m p.1))

  -- from an instance that has a next, the walk comes back in one step more than the next's way has
  walk_there : (n m : ℕ) (first i : Instance) (p : Numbered) → Contains instances i → (next : next_by targets (length instances) first i ≡ Some p) → (next_is targets (length instances) first i p next).steps ≡ n → n < m
      → (js : List Instance) × (walk_by targets (length instances) first m i ≡ Some js)
  walk_there n zero first i p h next steps below = absurd (omega arith)
  walk_there zero (suc m) first i p h next steps below =
      let is = next_is targets (length instances) first i p next in
      let back : p.1 ≡ first = zero_is targets p.1 first (subst (λ k. has_way targets k p.1 first ≡ true) steps is.back.way) in
      let same : same_instance p.1 first ≡ true = (same_instance-Decides p.1 first).1 back in
      ([], ap (option_and_then (walk_after m first)) next ∙ ap (λ b. cond b (Some []) (option_map (λ js. p.1 ∷ js) (walk_by targets (length instances) first m p.1))) same)
  walk_there (suc n) (suc m) first i p h next steps below =
      let is = next_is targets (length instances) first i p next in
      let back : IsFrom targets (suc n) p.1 first = subst (λ k. IsFrom targets k p.1 first) steps is.back in
      let in_p : Contains instances p.1 = stay i h p.1 is.edge in
      let r = way_edge targets n p.1 first back.way in
      let s = shortest_way targets n r.0 first r.2 in
      let q = next_there first p.1 r.0 s.0 in_p r.1 s.2 in
      let rest = walk_there n m first p.1 q.0 in_p q.1 (next_steps targets first p.1 q.0.1 n back (next_is targets (length instances) first p.1 q.0 q.1)) (omega arith) in
      let other : same_instance p.1 first ≡ false = no_is_false (same_instance p.1 first) (λ same. (
      let none : suc n ≡ 0 = one_shortest targets (suc n) 0 p.1 first back (record { way = same; no_shorter = λ k lower. absurd (omega arith) }) in
      absurd (omega arith)
      )) in (
        p.1 ∷ rest.0,
        ap (option_and_then (walk_after m first)) next ∙ ap (λ b. cond b (Some []) (option_map (λ js. p.1 ∷ js) (walk_by targets (length instances) first m p.1))) other ∙ ap (option_map (λ js. p.1 ∷ js)) rest.1,
      )

  -- where a listed instance is on a cycle, the search answers a walk
  cycle_there : (i : Instance) → Contains instances i → IsOnCycle targets i → (walk : List Instance) × (cycle_by targets instances ≡ Some walk)
  cycle_there i h cycle = by (first_on_cycle targets instances) refl
    where
      by : (o : Option Instance) → first_on_cycle targets instances ≡ o → (walk : List Instance) × (cycle_by targets instances ≡ Some walk)
      by None e = absurd (true_false (on_cycle_within targets (length instances) i) (cycle_within i h cycle) (nothing_found (on_cycle_within targets (length instances)) instances e i h))
      by (Some first) e =
          let found = found_contains (on_cycle_within targets (length instances)) instances first e in
          let on = within_cycle first found.1 in
          let r = way_edge targets on.0 first first on.1 in
          let s = shortest_way targets on.0 r.0 first r.2 in
          let p = next_there first first r.0 s.0 found.0 r.1 s.2 in
          let is = next_is targets (length instances) first first p.0 p.1 in
          let walk = walk_there is.steps (length instances) first first p.0 found.0 p.1 refl (way_bound is.steps p.0.1 first (stay first found.0 p.0.1 is.edge) is.back) in (
            first ∷ walk.0,
            ap (option_and_then (λ k. option_map (λ js. k ∷ js) (walk_by targets (length instances) k (length instances) k))) e ∙ ap (option_map (λ js. first ∷ js)) walk.1,
          )

pub cycle_exists : CycleExists
cycle_exists targets instances ascends stay i h cycle = let r = cycle_there targets instances stay i h cycle in (r.0, cycle_is targets instances stay r.0 ascends r.1)

on_cycle_of : (targets : Targets) (instances walk : List Instance) → IsCycle targets instances walk → (i : Instance) × Contains instances i × IsOnCycle targets i
on_cycle_of targets instances [] is = absurd is
on_cycle_of targets instances (first ∷ rest) is = (first, is.planned, is.on_cycle)

pub cycle_is_found : CycleIsFound
cycle_is_found targets instances ascends stay walk = (
  cycle_is targets instances stay walk ascends,
  λ is. (
      let i = on_cycle_of targets instances walk is in
      let r = cycle_there targets instances stay i.0 i.1 i.2 in
      r.1 ∙ ap Some (cycle_is_one targets instances r.0 walk (cycle_is targets instances stay r.0 ascends r.1) is)
      ),
)

-- a round gives a way
round_way : (targets : Targets) (first i : Instance) (rest : List Instance) → IsRound targets first i rest → has_way targets (suc (length rest)) i first ≡ true
round_way targets first i [] round = edge_way targets zero i first first round ((same_instance-Decides first first).1 refl)
round_way targets first i (j ∷ js) round = edge_way targets (suc (length js)) i j first round.0 (round_way targets first j js round.1)

pub round_is_a_way : RoundIsAWay
round_is_a_way targets first rest round = round_way targets first first rest round
