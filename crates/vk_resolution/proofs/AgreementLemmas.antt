-- Pages that agree on what was asked lead to the same outcome.
use Rattle.std.proofs.Common.{◌≡◌, ◌⊎◌, ℕ, zero, suc, Bool, true, false, cond, ◌&&◌, not, List, [], ◌∷◌, ◌++◌, map, inl, inr, refl, ap, ap₂, sym, ◌∙◌, subst}
use Rattle.std.specs.Prelude.{Option, Some, None, option_map, flat_map, filter_map, is_some, Result, Ok, Err, bytes_eq}
use Rattle.std.specs.List.{Contains, cons_option}
use Rattle.std.proofs.lemmas.Slice.Eq.{bytes_eq-Decides}
use Rattle.std.proofs.lemmas.List.Elements.{Contains-append_left, Contains-append_cases}
use Rattle.vk_spec.specs.Versions.{Ask, same_ask, ask_of}
use Rattle.vk_spec.specs.Manifests.{Manifest, Dependency, core, default}
use Rattle.vk_spec.specs.Pages.{Wrong, Given, overlay, override, baseline, Row, row_in, is_pinned_by}
use Rattle.vk_spec.proofs.ListLemmas.{contains_nothing, contains_first, contains_later, contains_cases, contains-flat_map, flat_map-contains}
use Rattle.vk_spec.specs.Settings.{Setting, Instance}
use Rattle.vk_spec.specs.Conditions.{Condition}
use Rattle.vk_resolution.specs.Keys.{Key, IsKey}
use Rattle.vk_resolution.specs.Least.{Rules, FollowsFrom, from_one, from_two, IsLeast, IsReached, HasRank, IsByRank, IsLeastInOrder}
use Rattle.vk_resolution.specs.Settings.{Who, root, inst, Marks, marks_of, triplet_of, instance_of, is_own, is_off, applicable_of, names_of, defaults_of, first_features_of}
use Rattle.vk_resolution.specs.Givens.{Pages, manifest_at, is_pinned}
use Rattle.vk_resolution.specs.Asking.{Fact, need, floor, visit, fact_key, floor_of, asked_of_other, asked_of_own, asked_by, asked_of, root_facts_of}
use Rattle.vk_resolution.specs.Consequences.{Inputs, Step, given_step, asked_step, asked_in, asked_at, steps_from, visits_from, is_visited, is_visited_by, is_not_below, is_below, rules_of, by_one, by_minimum}
use Rattle.vk_resolution.proofs.Members.{contains_single, contains_map}
use Rattle.vk_resolution.proofs.LeastLemmas.{follows_more, reached_within}
use Rattle.vk_resolution.proofs.Rounds.{member_ranked}
use Rattle.vk_resolution.proofs.FactLemmas.{fact_key-IsKey}
use Rattle.vk_resolution.proofs.Derivations.{visits_are, is_visit_fact, step_no_visit}
use Rattle.vk_resolution.proofs.ChoiceLemmas.{step_in, given_floor}
use Rattle.vk_resolution.specs.Agreement.{with_pages, AgreesOn, SameLeastList}

-- functions that agree on a list
module _ {X Y : Type 0} where
  pub flat_map_on : (f g : X → List Y) (xs : List X) → ((x : X) → Contains xs x → f x ≡ g x) → flat_map f xs ≡ flat_map g xs
  flat_map_on f g [] same = refl
  flat_map_on f g (x ∷ xs) same = ap₂ ◌++◌ (same x (contains_first x xs)) (flat_map_on f g xs (λ y h. same y (contains_later x y xs h)))

  pub filter_map_on : (f g : X → Option Y) (xs : List X) → ((x : X) → Contains xs x → f x ≡ g x) → filter_map f xs ≡ filter_map g xs
  filter_map_on f g [] same = refl
  filter_map_on f g (x ∷ xs) same = ap₂ cons_option (same x (contains_first x xs)) (filter_map_on f g xs (λ y h. same y (contains_later x y xs h)))

-- rules that agree on a list that is the least for the one
module _ {X : Type 0} (rules other : Rules X) (key : X → Key) (is_key : IsKey key) (facts : List X) where
  pub record RulesAgree : Type 0 where
    pub roots : other.roots ≡ rules.roots
    pub alone : (a : X) → Contains facts a → other.alone a ≡ rules.alone a
    pub together : (a b : X) → Contains facts a → Contains facts b → other.together a b ≡ rules.together a b

  module _ (agree : RulesAgree) (least : IsLeast rules facts) where
    held : (n : ℕ) (x : X) → IsReached rules n x → Contains facts x
    held = reached_within rules facts least.closed

    follows_to : (P Q : X → Type 0) → ((y : X) → P y → Q y) → ((y : X) → P y → Contains facts y) → (x : X) → FollowsFrom rules P x → FollowsFrom other Q x
    follows_to P Q more in_facts x (from_one a h asked) = from_one a (more a h) (subst (λ l. Contains l x) (sym (agree.alone a (in_facts a h))) asked)
    follows_to P Q more in_facts x (from_two a b one two asked) = from_two a b (more a one) (more b two) (subst (λ l. Contains l x) (sym (agree.together a b (in_facts a one) (in_facts b two))) asked)

    follows_back : (P Q : X → Type 0) → ((y : X) → P y → Q y) → ((y : X) → P y → Contains facts y) → (x : X) → FollowsFrom other P x → FollowsFrom rules Q x
    follows_back P Q more in_facts x (from_one a h asked) = from_one a (more a h) (subst (λ l. Contains l x) (agree.alone a (in_facts a h)) asked)
    follows_back P Q more in_facts x (from_two a b one two asked) = from_two a b (more a one) (more b two) (subst (λ l. Contains l x) (agree.together a b (in_facts a one) (in_facts b two)) asked)

    reached_to : (n : ℕ) (x : X) → IsReached rules n x → IsReached other n x
    reached_to zero x h = subst (λ l. Contains l x) (sym agree.roots) h
    reached_to (suc n) x (inl before) = inl (reached_to n x before)
    reached_to (suc n) x (inr follows) = inr (follows_to (IsReached rules n) (IsReached other n) (reached_to n) (held n) x follows)

    reached_back : (n : ℕ) (x : X) → IsReached other n x → IsReached rules n x
    reached_back zero x h = subst (λ l. Contains l x) agree.roots h
    reached_back (suc n) x (inl before) = inl (reached_back n x before)
    reached_back (suc n) x (inr follows) = inr (follows_back (IsReached other n) (IsReached rules n) (reached_back n) (λ y h. held n y (reached_back n y h)) x follows)

    rank_back : (n : ℕ) (x : X) → HasRank other n x → HasRank rules n x
    rank_back n x rank = record { reached = reached_back n x rank.reached; no_lower = λ m lower h. rank.no_lower m lower (reached_to m x h) }

    pub agree_least : IsLeast other facts
    agree_least = record {
      closed = record {
        roots = λ x h. least.closed.roots x (subst (λ l. Contains l x) agree.roots h);
        steps = λ x follows. least.closed.steps x (follows_back (Contains facts) (Contains facts) (λ y h. h) (λ y h. h) x follows);
      };
      forced = record {
        distinct = least.forced.distinct;
        within = λ more closed x h. (let r = member_ranked rules key is_key facts least x h in reached_within other more closed r.0 x (reached_to r.0 x r.1.reached));
      };
    }

    agree_order : (xs : List X) → IsByRank rules key xs → IsByRank other key xs
    agree_order [] order = tt
    agree_order (x ∷ xs) order = ((λ y h m n rank_x rank_y. order.0 y h m n (rank_back m x rank_x) (rank_back n y rank_y)), agree_order xs order.1)

  pub agree_in_order : RulesAgree → IsLeastInOrder rules key facts → IsLeastInOrder other key facts
  agree_in_order agree ordered = record { least = agree_least agree ordered.least; order = agree_order agree ordered.least facts ordered.order }

-- each member of a least list is a root or follows from the list
pub least_follows : {X : Type 0} (rules : Rules X) (key : X → Key) → IsKey key → (facts : List X) → IsLeast rules facts → (x : X) → Contains facts x → Contains rules.roots x ⊎ FollowsFrom rules (Contains facts) x
least_follows rules key is_key facts least x h = let r = member_ranked rules key is_key facts least x h in by r.0 r.1.reached
  where
    by : (n : ℕ) → IsReached rules n x → Contains rules.roots x ⊎ FollowsFrom rules (Contains facts) x
    by zero reached = inl reached
    by (suc n) (inl before) = by n before
    by (suc n) (inr follows) = inr (follows_more (λ y reached. reached_within rules facts least.closed n y reached) follows)

-- the port of a floor that a manifest asks is needed too, or is that of the one that asks
pub record AsksAlso (s : Setting) (who : Who) (f : List ℕ) (m : Manifest Condition) (p : List ℕ) : Type 0 where
  pub j : Instance
  pub is_port : j.port ≡ p
  pub also : Contains (asked_of s who f m) (need (inst j) core)

pub record AsksOwn (who : Who) (p : List ℕ) : Type 0 where
  pub i : Instance
  pub is_who : who ≡ inst i
  pub is_port : i.port ≡ p

no_floor : (who : Who) (fs : List (List ℕ)) (p : List ℕ) (a : Ask) → Contains (map (need who) fs) (floor p a) → ⊥
no_floor who fs p a h = let r = contains_map (need who) fs (floor p a) h in let clash : need who r.0 ≡ floor p a = r.2 in (cc)

floor_port : (q p : List ℕ) (minimum : Option Ask) (a : Ask) → Contains (floor_of q minimum) (floor p a) → q ≡ p
floor_port q p None a h = absurd (contains_nothing (floor p a) h)
floor_port q p (Some b) a h = let same : floor q b ≡ floor p a = contains_single (floor q b) (floor p a) h in (cc)

default_no_floor : (j : Instance) (b : Bool) (p : List ℕ) (a : Ask) → Contains (cond b [] (need (inst j) default ∷ [])) (floor p a) → ⊥
default_no_floor j true p a h = contains_nothing (floor p a) h
default_no_floor j false p a h = let same : need (inst j) default ≡ floor p a = contains_single (need (inst j) default) (floor p a) h in (cc)

own_floor : (who : Who) (marks : Marks) (d : Dependency Condition) (p : List ℕ) (a : Ask) → Contains (asked_of_own who marks d) (floor p a) → AsksOwn who p
own_floor (root t) marks d p a h = absurd (no_floor (root t) (names_of marks d.features) p a h)
own_floor (inst i) marks d p a h =
    elim (Contains-append_cases (map (need (inst i)) (names_of marks d.features)) (floor_of i.port d.minimum) (floor p a) h) [
      | inl in_needs ↦ absurd (no_floor (inst i) (names_of marks d.features) p a in_needs)
      | inr in_floor ↦ record { i = i; is_who = refl; is_port = floor_port i.port p d.minimum a in_floor }
    ]

other_floor : (s : Setting) (marks : Marks) (j : Instance) (d : Dependency Condition) (p : List ℕ) (a : Ask) → Contains (asked_of_other s marks j d) (floor p a) → j.port ≡ p
other_floor s marks j d p a h =
    let defaults : List Fact = cond (is_off s j) [] (need (inst j) default ∷ []) in
    let features : List Fact = map (need (inst j)) (names_of marks d.features) in
    elim (contains_cases (need (inst j) core) (floor p a) (defaults ++ features ++ floor_of j.port d.minimum) h) [
      | inl clash ↦ (let same : need (inst j) core ≡ floor p a = clash in (cc))
      | inr later ↦ elim (Contains-append_cases (defaults ++ features) (floor_of j.port d.minimum) (floor p a) later) [
        | inl in_needs ↦ elim (Contains-append_cases defaults features (floor p a) in_needs) [
          | inl in_defaults ↦ absurd (default_no_floor j (is_off s j) p a in_defaults)
          | inr in_features ↦ absurd (no_floor (inst j) (names_of marks d.features) p a in_features)
        ]
        | inr in_floor ↦ floor_port j.port p d.minimum a in_floor
      ]
    ]

by_floor : (s : Setting) (who : Who) (f : List ℕ) (m : Manifest Condition) (d : Dependency Condition) (p : List ℕ) (a : Ask) (b : Bool) → is_own s who (instance_of s who d) ≡ b → Contains (applicable_of s who f m) d
    → Contains (cond b (asked_of_own who (marks_of s (triplet_of who)) d) (asked_of_other s (marks_of s (triplet_of who)) (instance_of s who d) d)) (floor p a) → AsksAlso s who f m p ⊎ AsksOwn who p
by_floor s who f m d p a true own applies h = inr (own_floor who (marks_of s (triplet_of who)) d p a h)
by_floor s who f m d p a false other applies h =
    let j : Instance = instance_of s who d in
    let here : Contains (asked_by s who d) (need (inst j) core) =
    subst (λ b. Contains (cond b (asked_of_own who (marks_of s (triplet_of who)) d) (asked_of_other s (marks_of s (triplet_of who)) j d)) (need (inst j) core)) (sym other)
    (contains_first (need (inst j) core) (cond (is_off s j) [] (need (inst j) default ∷ []) ++ map (need (inst j)) (names_of (marks_of s (triplet_of who)) d.features) ++ floor_of j.port d.minimum)) in
    inl (record {
      j = j;
      is_port = other_floor s (marks_of s (triplet_of who)) j d p a h;
      also = Contains-append_left (flat_map (asked_by s who) (applicable_of s who f m)) (map (need who) (defaults_of s who f m)) (need (inst j) core) (flat_map-contains (asked_by s who) (applicable_of s who f m) d (need (inst j) core) applies here);
    })

pub floor_asked : (s : Setting) (who : Who) (f : List ℕ) (m : Manifest Condition) (p : List ℕ) (a : Ask) → Contains (asked_of s who f m) (floor p a) → AsksAlso s who f m p ⊎ AsksOwn who p
floor_asked s who f m p a h =
    elim (Contains-append_cases (flat_map (asked_by s who) (applicable_of s who f m)) (map (need who) (defaults_of s who f m)) (floor p a) h) [
      | inl by_dependency ↦ (let r = contains-flat_map (asked_by s who) (applicable_of s who f m) (floor p a) by_dependency in by_floor s who f m r.0 p a (is_own s who (instance_of s who r.0)) refl r.1 r.2)
      | inr by_default ↦ absurd (no_floor who (defaults_of s who f m) p a by_default)
    ]

-- a port is needed
pub record IsNeeded (facts : List Fact) (p : List ℕ) : Type 0 where
  pub i : Instance
  pub f : List ℕ
  pub is_port : i.port ≡ p
  pub has : Contains facts (need (inst i) f)

module _ (inputs : Inputs) (facts : List Fact) (least : IsLeast (rules_of inputs) facts) where
  pub visit_parts : (i : Instance) (f : List ℕ) (a : Ask) → Contains facts (visit i f a) → Contains facts (need (inst i) f) × Contains facts (floor i.port a)
  visit_parts i f a h = by (least_follows (rules_of inputs) fact_key fact_key-IsKey facts least (visit i f a) h)
    where
      by : Contains (root_facts_of inputs.setting) (visit i f a) ⊎ FollowsFrom (rules_of inputs) (Contains facts) (visit i f a) → Contains facts (need (inst i) f) × Contains facts (floor i.port a)
      by (inl is_root) = let r = contains_map (need (root inputs.setting.target.name)) (first_features_of inputs.setting) (visit i f a) is_root in let clash : need (root inputs.setting.target.name) r.0 ≡ visit i f a = r.2 in (cc)
      by (inr (from_one y holds asked)) =
          let r = contains_map (λ (st : Step). st.fact) (steps_from inputs y) (visit i f a) asked in
          let clash : true ≡ false = sym (ap is_visit_fact r.2) ∙ step_no_visit inputs y r.0 r.1 in
          absurd (cc)
      by (inr (from_two y z one two asked)) =
          let v = visits_are inputs y z (visit i f a) asked in
          let same : visit i f a ≡ visit v.i v.f v.v = v.is_visit in
          let same_i : v.i ≡ i = (cc) in
          let same_f : v.f ≡ f = (cc) in
          let same_a : v.v ≡ a = (cc) in
          (subst (Contains facts) (v.is_need ∙ ap (λ j. need (inst j) v.f) same_i ∙ ap (need (inst i)) same_f) one, subst (Contains facts) (v.is_floor ∙ ap (λ j. floor j.port v.v) same_i ∙ ap (floor i.port) same_a) two)

  asked_also : (y : Fact) (s : Setting) (who : Who) (f : List ℕ) (m : Manifest Condition) → s ≡ inputs.setting → Contains facts y → steps_from inputs y ≡ flat_map (asked_step inputs y) (asked_of s who f m) → ((i : Instance) → who ≡ inst i → IsNeeded facts i.port)
      → (p : List ℕ) (a : Ask) → Contains (asked_of s who f m) (floor p a) → IsNeeded facts p
  asked_also y s who f m is h steps own p a at =
      elim (floor_asked s who f m p a at) [
        | inl also ↦ (
            let step : Step = record { fact = need (inst also.j) core; cause = by_one y } in
            record { i = also.j; f = core; is_port = also.is_port; has = step_in inputs facts least.closed y step h (subst (λ l. Contains l step) (sym steps) (flat_map-contains (asked_step inputs y) (asked_of s who f m) (need (inst also.j) core) step also.also (contains_first step []))) }
            )
        | inr asks_own ↦ (let n = own asks_own.i asks_own.is_who in record { i = n.i; f = n.f; is_port = n.is_port ∙ asks_own.is_port; has = n.has })
      ]

  -- the ports of the floors that a fact's manifest asks are needed
  pub root_asks_needed : (t f : List ℕ) → Contains facts (need (root t) f) → (p : List ℕ) (a : Ask) → Contains (asked_of inputs.setting (root t) f inputs.setting.root) (floor p a) → IsNeeded facts p
  root_asks_needed t f h p a at = asked_also (need (root t) f) inputs.setting (root t) f inputs.setting.root refl h refl (λ i e. (cc)) p a at

  visit_asks : (i : Instance) (f : List ℕ) (v : Ask) → Contains facts (visit i f v) → (manifest : Option (Result (Manifest Condition) Wrong)) → manifest_at inputs.pages i.port v ≡ manifest → (p : List ℕ) (a : Ask) → Contains (asked_in inputs.setting i f manifest) (floor p a) → IsNeeded facts p
  visit_asks i f v h None e p a at = absurd (contains_nothing (floor p a) at)
  visit_asks i f v h (Some (Err wrong)) e p a at = absurd (contains_nothing (floor p a) at)
  visit_asks i f v h (Some (Ok m)) e p a at =
      asked_also (visit i f v) inputs.setting (inst i) f m refl h (ap (λ k. flat_map (asked_step inputs (visit i f v)) (asked_in inputs.setting i f k)) e)
      (λ j same. (let is : i ≡ j = (cc) in record { i = i; f = f; is_port = ap (λ (k : Instance). k.port) is; has = (visit_parts i f v h).0 })) p a at

  pub visit_asks_needed : (i : Instance) (f : List ℕ) (v : Ask) → Contains facts (visit i f v) → (p : List ℕ) (a : Ask) → Contains (asked_at inputs i f v) (floor p a) → IsNeeded facts p
  visit_asks_needed i f v h p a at = visit_asks i f v h (manifest_at inputs.pages i.port v) refl p a at

  step_floor_in_asked : (y : Fact) (asked : List Fact) (p : List ℕ) (a : Ask) (step : Step) → Contains (flat_map (asked_step inputs y) asked) step → step.fact ≡ floor p a → Contains asked (floor p a)
  step_floor_in_asked y asked p a step h e = let r = contains-flat_map (asked_step inputs y) asked step h in by r.0 r.1 r.2
    where
      by_pinned : (q : List ℕ) (b : Ask) (pinned : Bool) → Contains asked (floor q b) → Contains (cond pinned [] (record { fact = floor q b; cause = by_minimum y } ∷ [])) step → Contains asked (floor p a)
      by_pinned q b true at in_step = absurd (contains_nothing step in_step)
      by_pinned q b false at in_step = let same : floor q b ≡ floor p a = ap (λ (k : Step). k.fact) (contains_single _ step in_step) ∙ e in subst (Contains asked) same at

      by : (x : Fact) → Contains asked x → Contains (asked_step inputs y x) step → Contains asked (floor p a)
      by (need who f) at in_step = let same : need who f ≡ floor p a = ap (λ (k : Step). k.fact) (contains_single _ step in_step) ∙ e in (cc)
      by (floor q b) at in_step = by_pinned q b (is_pinned inputs.setting inputs.pages q) at in_step
      by (visit i f b) at in_step = absurd (contains_nothing step in_step)

  given_port : (x : Fact) (q : List ℕ) (given : Result Given Wrong) (step : Step) (p : List ℕ) (a : Ask) → Contains (given_step x q given) step → step.fact ≡ floor p a → q ≡ p
  given_port x q (Ok (overlay v)) step p a h e = let same : floor q (ask_of v) ≡ floor p a = ap (λ (k : Step). k.fact) (contains_single _ step h) ∙ e in (cc)
  given_port x q (Ok (override b)) step p a h e = let same : floor q b ≡ floor p a = ap (λ (k : Step). k.fact) (contains_single _ step h) ∙ e in (cc)
  given_port x q (Ok (baseline b)) step p a h e = let same : floor q b ≡ floor p a = ap (λ (k : Step). k.fact) (contains_single _ step h) ∙ e in (cc)
  given_port x q (Err wrong) step p a h e = absurd (contains_nothing step h)

  floor_step_needed : (y : Fact) → Contains facts y → (step : Step) → Contains (steps_from inputs y) step → (p : List ℕ) (a : Ask) → step.fact ≡ floor p a → IsNeeded facts p
  floor_step_needed (need (root t) f) h step in_steps p a e = root_asks_needed t f h p a (step_floor_in_asked (need (root t) f) (asked_of inputs.setting (root t) f inputs.setting.root) p a step in_steps e)
  floor_step_needed (need (inst i) f) h step in_steps p a e = record { i = i; f = f; is_port = given_port (need (inst i) f) i.port (inputs.pages i.port).given step p a in_steps e; has = h }
  floor_step_needed (floor q b) h step in_steps p a e = absurd (contains_nothing step in_steps)
  floor_step_needed (visit i f v) h step in_steps p a e = visit_asks_needed i f v h p a (step_floor_in_asked (visit i f v) (asked_at inputs i f v) p a step in_steps e)

  -- a port that has a floor is needed
  pub floor_needed : (p : List ℕ) (a : Ask) → Contains facts (floor p a) → IsNeeded facts p
  floor_needed p a h = by (least_follows (rules_of inputs) fact_key fact_key-IsKey facts least (floor p a) h)
    where
      by : Contains (root_facts_of inputs.setting) (floor p a) ⊎ FollowsFrom (rules_of inputs) (Contains facts) (floor p a) → IsNeeded facts p
      by (inl is_root) = absurd (no_floor (root inputs.setting.target.name) (first_features_of inputs.setting) p a is_root)
      by (inr (from_one y holds asked)) = let r = contains_map (λ (st : Step). st.fact) (steps_from inputs y) (floor p a) asked in floor_step_needed y holds r.0 r.1 p a r.2
      by (inr (from_two y z one two asked)) = let v = visits_are inputs y z (floor p a) asked in let clash : floor p a ≡ visit v.i v.f v.v = v.is_visit in (cc)

is_some_map : {A B : Type 0} (f : A → B) (o : Option A) → is_some (option_map f o) ≡ is_some o
is_some_map f None = refl
is_some_map f (Some x) = refl

pub same_some : (one other : Option (Row Condition)) → option_map (λ (r : Row Condition). r.version) other ≡ option_map (λ (r : Row Condition). r.version) one → is_some other ≡ is_some one
same_some one other e = sym (is_some_map (λ (r : Row Condition). r.version) other) ∙ ap is_some e ∙ is_some_map (λ (r : Row Condition). r.version) one

not_below_same : (inputs : Inputs) (pages : Pages) (given given2 found found2 : Option (Row Condition)) → option_map (λ (r : Row Condition). r.version) given2 ≡ option_map (λ (r : Row Condition). r.version) given
    → option_map (λ (r : Row Condition). r.version) found2 ≡ option_map (λ (r : Row Condition). r.version) found → is_not_below (with_pages inputs pages) given2 found2 ≡ is_not_below inputs given found
not_below_same inputs pages None None found found2 e h = refl
not_below_same inputs pages None (Some g) found found2 e h = (cc)
not_below_same inputs pages (Some g) None found found2 e h = (cc)
not_below_same inputs pages (Some g) (Some g2) None None e h = refl
not_below_same inputs pages (Some g) (Some g2) None (Some r) e h = (cc)
not_below_same inputs pages (Some g) (Some g2) (Some r) None e h = (cc)
not_below_same inputs pages (Some g) (Some g2) (Some r) (Some r2) e h =
    let same_g : g2.version ≡ g.version = (cc) in
    let same_r : r2.version ≡ r.version = (cc) in
    ap₂ (λ v w. not (is_below inputs v w)) same_r same_g

module _ (inputs : Inputs) (pages : Pages) (facts : List Fact) (least : IsLeast (rules_of inputs) facts) (agree : AgreesOn inputs.pages pages facts) where
  pub given_same : (p : List ℕ) → IsNeeded facts p → (pages p).given ≡ (inputs.pages p).given
  given_same p n = subst (λ q. (pages q).given ≡ (inputs.pages q).given) n.is_port (agree.givens n.i n.f n.has)

  pub pinned_same : (p : List ℕ) → IsNeeded facts p → is_pinned inputs.setting pages p ≡ is_pinned inputs.setting inputs.pages p
  pinned_same p n = ap (is_pinned_by inputs.setting.root.overrides p) (given_same p n)

  asked_same : (y x : Fact) → ((p : List ℕ) (a : Ask) → x ≡ floor p a → IsNeeded facts p) → asked_step (with_pages inputs pages) y x ≡ asked_step inputs y x
  asked_same y (need who f) needed = refl
  asked_same y (floor p a) needed = ap (λ b. cond b [] (record { fact = floor p a; cause = by_minimum y } ∷ [])) (pinned_same p (needed p a refl))
  asked_same y (visit i f a) needed = refl

  each_same : (y : Fact) (asked : List Fact) → ((p : List ℕ) (a : Ask) → Contains asked (floor p a) → IsNeeded facts p) → flat_map (asked_step (with_pages inputs pages) y) asked ≡ flat_map (asked_step inputs y) asked
  each_same y asked needed = flat_map_on (asked_step (with_pages inputs pages) y) (asked_step inputs y) asked (λ x h. asked_same y x (λ p a e. needed p a (subst (Contains asked) e h)))

  pub asked_at_same : (i : Instance) (f : List ℕ) (a : Ask) → Contains facts (visit i f a) → asked_at (with_pages inputs pages) i f a ≡ asked_at inputs i f a
  asked_at_same i f a h = ap (asked_in inputs.setting i f) (agree.manifests i f a h)

  pub steps_same : (y : Fact) → Contains facts y → steps_from (with_pages inputs pages) y ≡ steps_from inputs y
  steps_same (need (root t) f) h = each_same (need (root t) f) (asked_of inputs.setting (root t) f inputs.setting.root) (root_asks_needed inputs facts least t f h)
  steps_same (need (inst i) f) h = ap (given_step (need (inst i) f) i.port) (agree.givens i f h)
  steps_same (floor p a) h = refl
  steps_same (visit i f a) h =
      ap (flat_map (asked_step (with_pages inputs pages) (visit i f a))) (asked_at_same i f a h) ∙ each_same (visit i f a) (asked_at inputs i f a) (visit_asks_needed inputs facts least i f a h)

  visited_by_same : (i : Instance) (f : List ℕ) (a : Ask) → Contains facts (need (inst i) f) → Contains facts (floor i.port a) → (given : Result Given Wrong) → (inputs.pages i.port).given ≡ given
      → is_visited_by (with_pages inputs pages) (pages i.port).rows a given ≡ is_visited_by inputs (inputs.pages i.port).rows a given
  visited_by_same i f a needed has (Ok (overlay v)) e = refl
  visited_by_same i f a needed has (Ok (override b)) e = ap (λ k. same_ask a b && k) (same_some (row_in (inputs.pages i.port).rows a) (row_in (pages i.port).rows a) (agree.versions i.port a has))
  visited_by_same i f a needed has (Ok (baseline b)) e =
      not_below_same inputs pages (row_in (inputs.pages i.port).rows b) (row_in (pages i.port).rows b) (row_in (inputs.pages i.port).rows a) (row_in (pages i.port).rows a)
      (agree.versions i.port b (given_floor inputs facts least.closed i f needed (baseline b) e)) (agree.versions i.port a has)
  visited_by_same i f a needed has (Err wrong) e = refl

  visited_same : (i : Instance) (f : List ℕ) (a : Ask) → Contains facts (need (inst i) f) → Contains facts (floor i.port a) → is_visited (with_pages inputs pages) i.port a ≡ is_visited inputs i.port a
  visited_same i f a needed has = ap (is_visited_by (with_pages inputs pages) (pages i.port).rows a) (agree.givens i f needed) ∙ visited_by_same i f a needed has (inputs.pages i.port).given refl

  port_case : (i : Instance) (f p : List ℕ) (a : Ask) → Contains facts (need (inst i) f) → Contains facts (floor p a) → (b : Bool) → bytes_eq p i.port ≡ b → (b && is_visited (with_pages inputs pages) p a) ≡ (b && is_visited inputs p a)
  port_case i f p a needed has true e =
      let same : p ≡ i.port = (bytes_eq-Decides p i.port).0 e in
      subst (λ q. is_visited (with_pages inputs pages) q a ≡ is_visited inputs q a) (sym same) (visited_same i f a needed (subst (λ q. Contains facts (floor q a)) same has))
  port_case i f p a needed has false e = refl

  visits_same : (x y : Fact) → Contains facts x → Contains facts y → visits_from (with_pages inputs pages) x y ≡ visits_from inputs x y
  visits_same (need (root t) f) y h k = refl
  visits_same (need (inst i) f) (need who g) h k = refl
  visits_same (need (inst i) f) (floor p a) h k = ap (λ b. cond b (visit i f a ∷ []) []) (port_case i f p a h k (bytes_eq p i.port) refl)
  visits_same (need (inst i) f) (visit j g a) h k = refl
  visits_same (floor p a) y h k = refl
  visits_same (visit i f a) y h k = refl

  pub rules_agree : RulesAgree (rules_of inputs) (rules_of (with_pages inputs pages)) fact_key fact_key-IsKey facts
  rules_agree = record { roots = refl; alone = λ a h. ap (map (λ (st : Step). st.fact)) (steps_same a h); together = visits_same }

pub same_least_list : SameLeastList
same_least_list inputs pages facts ordered agree = agree_in_order (rules_of inputs) (rules_of (with_pages inputs pages)) fact_key fact_key-IsKey facts (rules_agree inputs pages facts ordered.least agree) ordered
