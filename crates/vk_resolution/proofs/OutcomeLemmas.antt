-- The outcome depends on what was asked alone.
use Rattle.std.proofs.Common.{◌≡◌, ℕ, suc, Bool, true, false, cond, not, List, [], ◌∷◌, ◌++◌, map, filter, refl, ap, ap₂, sym, ◌∙◌, subst}
use Rattle.std.specs.Prelude.{Option, Some, None, option_map, option_and_then, option_to_list, flat_map, is_some, Result, Ok, Err, bytes_eq}
use Rattle.std.specs.List.{Contains, list_any, find}
use Rattle.std.specs.Option.{option_or}
use Rattle.std.proofs.lemmas.Slice.Eq.{bytes_eq-Decides}
use Rattle.vk_spec.specs.Lists.{IsWithin}
use Rattle.vk_spec.specs.Versions.{Version, Ask, same_ask, ask_of, IsOrder}
use Rattle.vk_spec.specs.Pages.{Wrong, Given, overlay, override, baseline, Row, Page, row_in}
use Rattle.vk_spec.proofs.ListLemmas.{contains_nothing, contains_first, contains_later, contains-flat_map}
use Rattle.vk_spec.proofs.VersionLemmas.{asks_equal}
use Rattle.vk_spec.specs.Conditions.{Condition}
use Rattle.vk_spec.specs.Settings.{Instance}
use Rattle.vk_resolution.specs.Keys.{in_order}
use Rattle.vk_resolution.specs.Least.{IsLeast}
use Rattle.vk_resolution.specs.Settings.{root, inst, same_instance}
use Rattle.vk_resolution.specs.Givens.{Pages, version_at, is_pinned}
use Rattle.vk_resolution.specs.Asking.{Fact, need, floor, visit, fact_key, root_facts_of, same_fact, is_among}
use Rattle.vk_resolution.specs.Consequences.{Inputs, Step, by_root, steps_from, rules_of}
use Rattle.vk_resolution.specs.Choices.{floor_in, floors_of, given_version_of, greatest_of, chosen_of, tops_of}
use Rattle.vk_resolution.specs.Reasons.{Reason, facts_of, first_line, line_of, first_cause, citing, in_lines, cause_of, IsReasons}
use Rattle.vk_resolution.specs.Planning.{is_need, visit_of, planned_from, planned_rules_of, IsPlanned, instance_key, needed_in, instances_of, targets_in, targets_at, targets_of, HasHeight, places_from, Item, IsByHeight, order_of, IsPlan, IsCycle}
use Rattle.vk_resolution.specs.Faults.{Trouble, Fault, trouble_key, same_trouble, given_troubles, manifest_troubles, floor_troubles, troubles_of, told_of, first_faults_of, judged_on_line, conflict_of, conflicts_of, ports_in, second_faults_of, judged_at, judged_chosen, judged_need, third_faults_of}
use Rattle.vk_resolution.specs.Outcomes.{Printing, lines_of, IsRefusal, by_first, by_second, by_third, by_fourth, IsAgreed, Outcome, planned, refused, IsOutcome}
use Rattle.vk_resolution.specs.Agreement.{with_pages, AgreesOn, reasons_in, SameOutcome, published, UnaskedChangesNothing}
use Rattle.vk_resolution.proofs.Members.{no_is_false, contains_single, map_contains, contains_filter}
use Rattle.vk_resolution.proofs.Orders.{contains-in_order}
use Rattle.vk_resolution.proofs.FactLemmas.{fact_key-IsKey, among_contains}
use Rattle.vk_resolution.proofs.ChoiceLemmas.{given_floor}
use Rattle.vk_resolution.proofs.PlanLemmas.{plan_stays_within}
use Rattle.vk_resolution.proofs.AgreementLemmas.{flat_map_on, filter_map_on, agree_least, IsNeeded, visit_parts, floor_needed, same_some, given_same, pinned_same, asked_at_same, steps_same, same_least_list}

first_line_on : {X : Type 0} (f g : X → Bool) (xs : List X) → ((x : X) → Contains xs x → f x ≡ g x) → first_line f xs ≡ first_line g xs
first_line_on f g [] same = refl
first_line_on f g (x ∷ xs) same = ap₂ (λ b o. cond b (Some 1) (option_map suc o)) (same x (contains_first x xs)) (first_line_on f g xs (λ y h. same y (contains_later x y xs h)))

first_cause_on : (one other : Inputs) (xs : List Fact) (x : Fact) → ((y : Fact) → Contains xs y → steps_from other y ≡ steps_from one y) → first_cause other xs x ≡ first_cause one xs x
first_cause_on one other [] x same = refl
first_cause_on one other (y ∷ ys) x same =
    ap₂ (λ l o. option_or (option_map (λ (st : Step). st.cause) (find (λ st. same_fact x st.fact) l)) o) (same y (contains_first y ys)) (first_cause_on one other ys x (λ z h. same z (contains_later y z ys h)))

floor_troubles_same : (p : List ℕ) (a : Ask) (given : Result Given Wrong) (one other : Option (Row Condition)) → is_some other ≡ is_some one → floor_troubles p a other given ≡ floor_troubles p a one given
floor_troubles_same p a given None None e = refl
floor_troubles_same p a given None (Some r) e = (cc)
floor_troubles_same p a given (Some r) None e = (cc)
floor_troubles_same p a given (Some r) (Some s) e = refl

module _ (inputs : Inputs) (pages : Pages) (facts : List Fact) (least : IsLeast (rules_of inputs) facts) (agree : AgreesOn inputs.pages pages facts) where
  citing_same : (x : Fact) → citing (with_pages inputs pages) facts x ≡ citing inputs facts x
  citing_same (need who f) = first_cause_on inputs (with_pages inputs pages) facts (need who f) (steps_same inputs pages facts least agree)
  citing_same (floor p a) = first_cause_on inputs (with_pages inputs pages) facts (floor p a) (steps_same inputs pages facts least agree)
  citing_same (visit i f a) = refl

  pub cause_same : (x : Fact) → cause_of (with_pages inputs pages) facts x ≡ cause_of inputs facts x
  cause_same x = ap (λ o. cond (list_any (same_fact x) (root_facts_of inputs.setting)) (Some by_root) (option_and_then (in_lines facts) o)) (citing_same x)

  floor_in_same : (p : List ℕ) (x : Fact) → Contains facts x → floor_in pages p x ≡ floor_in inputs.pages p x
  floor_in_same p (need who f) h = refl
  floor_in_same p (floor q a) h = by (bytes_eq q p) refl
    where
      by : (b : Bool) → bytes_eq q p ≡ b → cond b (version_at pages p a) None ≡ cond b (version_at inputs.pages p a) None
      by true e = agree.versions p a (subst (λ r. Contains facts (floor r a)) ((bytes_eq-Decides q p).0 e) h)
      by false e = refl
  floor_in_same p (visit i f a) h = refl

  floors_same : (p : List ℕ) → floors_of (with_pages inputs pages) facts p ≡ floors_of inputs facts p
  floors_same p = filter_map_on (floor_in pages p) (floor_in inputs.pages p) facts (floor_in_same p)

  given_version_same : (p : List ℕ) → IsNeeded facts p → (given : Result Given Wrong) → (inputs.pages p).given ≡ given → given_version_of pages p given ≡ given_version_of inputs.pages p given
  given_version_same p n (Ok (overlay v)) e = refl
  given_version_same p n (Ok (override b)) e = agree.versions p b (subst (λ q. Contains facts (floor q b)) n.is_port (given_floor inputs facts least.closed n.i n.f n.has (override b) (ap (λ q. (inputs.pages q).given) n.is_port ∙ e)))
  given_version_same p n (Ok (baseline b)) e = agree.versions p b (subst (λ q. Contains facts (floor q b)) n.is_port (given_floor inputs facts least.closed n.i n.f n.has (baseline b) (ap (λ q. (inputs.pages q).given) n.is_port ∙ e)))
  given_version_same p n (Err wrong) e = refl

  -- the choice of a needed port is the same
  pub chosen_same : (p : List ℕ) → IsNeeded facts p → chosen_of (with_pages inputs pages) facts p ≡ chosen_of inputs facts p
  chosen_same p n =
      let given : given_version_of pages p (pages p).given ≡ given_version_of inputs.pages p (inputs.pages p).given =
      ap (given_version_of pages p) (given_same inputs pages facts least agree p n) ∙ given_version_same p n (inputs.pages p).given refl in
      let greatest : greatest_of (with_pages inputs pages) (floors_of (with_pages inputs pages) facts p) ≡ greatest_of inputs (floors_of inputs facts p) = ap (greatest_of inputs) (floors_same p) in
      ap (λ b. cond b (given_version_of pages p (pages p).given) (greatest_of (with_pages inputs pages) (floors_of (with_pages inputs pages) facts p))) (pinned_same inputs pages facts least agree p n)
      ∙ ap₂ (λ v w. cond (is_pinned inputs.setting inputs.pages p) v w) given greatest

  troubles_same : (x : Fact) → Contains facts x → troubles_of (with_pages inputs pages) x ≡ troubles_of inputs x
  troubles_same (need (root t) f) h = refl
  troubles_same (need (inst i) f) h = ap (given_troubles i.port) (agree.givens i f h)
  troubles_same (floor p a) h =
      ap (floor_troubles p a (row_in (pages p).rows a)) (given_same inputs pages facts least agree p (floor_needed inputs facts least p a h))
      ∙ floor_troubles_same p a (inputs.pages p).given (row_in (inputs.pages p).rows a) (row_in (pages p).rows a) (same_some (row_in (inputs.pages p).rows a) (row_in (pages p).rows a) (agree.versions p a h))
  troubles_same (visit i f a) h = ap (manifest_troubles i.port) (agree.manifests i f a h)

  told_same : (t : Trouble) → told_of (with_pages inputs pages) facts t ≡ told_of inputs facts t
  told_same t =
      ap (λ o. map (Rattle.vk_resolution.specs.Faults.troubled t) (option_to_list o))
      (first_line_on (λ x. list_any (same_trouble t) (troubles_of (with_pages inputs pages) x)) (λ x. list_any (same_trouble t) (troubles_of inputs x)) facts (λ x h. ap (list_any (same_trouble t)) (troubles_same x h)))

  pub first_same : first_faults_of (with_pages inputs pages) facts ≡ first_faults_of inputs facts
  first_same =
      ap (λ l. flat_map (told_of (with_pages inputs pages) facts) (in_order trouble_key l)) (flat_map_on (troubles_of (with_pages inputs pages)) (troubles_of inputs) facts troubles_same)
      ∙ flat_map_on (told_of (with_pages inputs pages) facts) (told_of inputs facts) (in_order trouble_key (flat_map (troubles_of inputs) facts)) (λ t h. told_same t)

  conflicts_same : (p : List ℕ) → IsNeeded facts p → (o : Option Version) → conflicts_of (with_pages inputs pages) facts p o ≡ conflicts_of inputs facts p o
  conflicts_same p n None = ap₂ (λ b l. cond b [] (conflict_of facts p (tops_of inputs l))) (pinned_same inputs pages facts least agree p n) (floors_same p)
  conflicts_same p n (Some v) = refl

  port_of : (p : List ℕ) (x : Fact) → Contains facts x → Contains (ports_in x) p → IsNeeded facts p
  port_of p (need who f) h at = absurd (contains_nothing p at)
  port_of p (floor q a) h at = subst (IsNeeded facts) (contains_single q p at) (floor_needed inputs facts least q a h)
  port_of p (visit i f a) h at = absurd (contains_nothing p at)

  pub second_same : second_faults_of (with_pages inputs pages) facts ≡ second_faults_of inputs facts
  second_same =
      flat_map_on (λ p. conflicts_of (with_pages inputs pages) facts p (chosen_of (with_pages inputs pages) facts p)) (λ p. conflicts_of inputs facts p (chosen_of inputs facts p)) (in_order (λ p. p ∷ []) (flat_map ports_in facts)) (λ p h. (
      let r = contains-flat_map ports_in facts p (contains-in_order (λ p. p ∷ []) (flat_map ports_in facts) p h) in
      let n = port_of p r.0 r.1 r.2 in
      ap (conflicts_of (with_pages inputs pages) facts p) (chosen_same p n) ∙ conflicts_same p n (chosen_of inputs facts p)
      ))

  needed_here : (i : Instance) (f : List ℕ) → Contains facts (need (inst i) f) → IsNeeded facts i.port
  needed_here i f h = record { i = i; f = f; is_port = refl; has = h }

  planned_from_same : (x : Fact) → Contains facts x → planned_from (with_pages inputs pages) facts x ≡ planned_from inputs facts x
  planned_from_same (need (root t) f) h = refl
  planned_from_same (need (inst i) f) h = ap (visit_of i f) (chosen_same i.port (needed_here i f h))
  planned_from_same (floor p a) h = refl
  planned_from_same (visit i f a) h = ap (filter is_need) (asked_at_same inputs pages facts least agree i f a h)

  module _ (chosen : List Fact) (within : IsWithin chosen facts) (is_planned : IsPlanned inputs facts chosen) where
    pub planned_same : IsPlanned (with_pages inputs pages) facts chosen
    planned_same =
        agree_least (planned_rules_of inputs facts) (planned_rules_of (with_pages inputs pages) facts) fact_key fact_key-IsKey chosen
        (record { roots = refl; alone = λ a h. planned_from_same a (within a h); together = λ a b h k. refl }) is_planned

    visit_planned : (i : Instance) (f : List ℕ) (v : Version) → Contains chosen (need (inst i) f) → chosen_of inputs facts i.port ≡ Some v → Contains chosen (visit i f (ask_of v))
    visit_planned i f v h e = is_planned.closed.steps (visit i f (ask_of v)) (Rattle.vk_resolution.specs.Least.from_one (need (inst i) f) h (subst (λ o. Contains (visit_of i f o) (visit i f (ask_of v))) (sym e) (contains_first (visit i f (ask_of v)) [])))

    judged_same : (i : Instance) (f : List ℕ) (n : ℕ) → Contains chosen (need (inst i) f) → (o : Option Version) → chosen_of inputs facts i.port ≡ o → judged_chosen (with_pages inputs pages) i f o n ≡ judged_chosen inputs i f o n
    judged_same i f n h None e = refl
    judged_same i f n h (Some v) e = ap (λ m. judged_at inputs i f v m n) (agree.manifests i f (ask_of v) (within (visit i f (ask_of v)) (visit_planned i f v h e)))

    judged_need_same : (x : Fact) → Contains chosen x → (n : ℕ) → judged_need (with_pages inputs pages) facts x n ≡ judged_need inputs facts x n
    judged_need_same (need (root t) f) h n = refl
    judged_need_same (need (inst i) f) h n = ap (λ o. judged_chosen (with_pages inputs pages) i f o n) (chosen_same i.port (needed_here i f (within (need (inst i) f) h))) ∙ judged_same i f n h (chosen_of inputs facts i.port) refl
    judged_need_same (floor p a) h n = refl
    judged_need_same (visit i f a) h n = refl

    pub third_same : third_faults_of (with_pages inputs pages) facts chosen ≡ third_faults_of inputs facts chosen
    third_same =
        flat_map_on (judged_on_line (with_pages inputs pages) facts) (judged_on_line inputs facts) (filter (is_among chosen) facts)
        (λ x h. flat_map_on (judged_need (with_pages inputs pages) facts x) (judged_need inputs facts x) (option_to_list (line_of facts x)) (λ n k. judged_need_same x (among_contains chosen x (contains_filter (is_among chosen) facts x h).1) n))

    targets_at_same : (i : Instance) (x : Fact) → Contains chosen x → targets_at (with_pages inputs pages) i x ≡ targets_at inputs i x
    targets_at_same i (need who f) h = refl
    targets_at_same i (floor p a) h = refl
    targets_at_same i (visit j f a) h = ap (λ m. cond (same_instance j i) (filter (λ k. not (same_instance k j)) (targets_in inputs.setting j f m)) []) (agree.manifests j f a (within (visit j f a) h))

    pub targets_same : targets_of (with_pages inputs pages) chosen ≡ targets_of inputs chosen
    targets_same k i = (flat_map_on (targets_at (with_pages inputs pages) i) (targets_at inputs i) chosen (targets_at_same i)) k

    need_of : (i : Instance) (x : Fact) → Contains chosen x → Contains (needed_in x) i → (f : List ℕ) × Contains chosen (need (inst i) f)
    need_of i (need (root t) f) h at = absurd (contains_nothing i at)
    need_of i (need (inst j) f) h at = (f, subst (λ k. Contains chosen (need (inst k) f)) (contains_single j i at) h)
    need_of i (floor p a) h at = absurd (contains_nothing i at)
    need_of i (visit j f a) h at = absurd (contains_nothing i at)

    instance_needed : (i : Instance) → Contains (instances_of chosen) i → IsNeeded facts i.port
    instance_needed i h =
        let r = contains-flat_map needed_in chosen i (contains-in_order instance_key (flat_map needed_in chosen) i h) in
        let n = need_of i r.0 r.1 r.2 in
        needed_here i n.0 (within (need (inst i) n.0) n.1)

    pub plan_same : (items : List Item) → IsPlan inputs facts chosen items → IsPlan (with_pages inputs pages) facts chosen items
    plan_same items plan = record {
      all = plan.all;
      heights = λ i h. (let r = plan.heights i h in (r.0, subst (λ t. HasHeight t r.0 i) (sym targets_same) r.1));
      order = subst (λ t. IsByHeight t (order_of items)) (sym targets_same) plan.order;
      each = λ item h. (
          let is = plan.each item h in
          let n = instance_needed item.instance ((plan.all item.instance).0 (map_contains (λ (k : Item). k.instance) items item h)) in
          record {
            version = chosen_same item.instance.port n ∙ is.version;
            line = is.line;
            features = is.features;
            needs = is.needs ∙ ap (λ (t : Instance → List Instance). places_from 0 (λ j. list_any (same_instance j) (t item.instance)) (order_of items)) (sym targets_same);
          }
          );
    }

module _ (inputs : Inputs) (order : IsOrder inputs.at_most) (pages : Pages) (bytes : Printing) where
  reasons_same : (reasons : List Reason) → AgreesOn inputs.pages pages (facts_of reasons) → IsReasons inputs reasons → IsReasons (with_pages inputs pages) reasons
  reasons_same reasons agree is = record {
    facts = same_least_list inputs pages (facts_of reasons) is.facts agree;
    causes = λ r h. cause_same inputs pages (facts_of reasons) is.facts.least agree r.fact ∙ is.causes r h;
  }

  refusal_same : (facts : List Fact) (lines : List Fault) → IsLeast (rules_of inputs) facts → AgreesOn inputs.pages pages facts → IsRefusal inputs bytes facts lines → IsRefusal (with_pages inputs pages) bytes facts lines
  refusal_same facts lines least agree (by_first some is) =
      let one = first_same inputs pages facts least agree in
      by_first (λ none. some (sym one ∙ none)) (is ∙ ap (lines_of bytes) (sym one))
  refusal_same facts lines least agree (by_second none some is) =
      let one = first_same inputs pages facts least agree in
      let two = second_same inputs pages facts least agree in
      by_second (one ∙ none) (λ empty. some (sym two ∙ empty)) (is ∙ ap (lines_of bytes) (sym two))
  refusal_same facts lines least agree (by_third chosen none no_conflict is_planned some is) =
      let one = first_same inputs pages facts least agree in
      let two = second_same inputs pages facts least agree in
      let within = (plan_stays_within inputs order facts chosen least none is_planned).within in
      let three = third_same inputs pages facts least agree chosen within is_planned in
      by_third chosen (one ∙ none) (two ∙ no_conflict) (planned_same inputs pages facts least agree chosen within is_planned) (λ empty. some (sym three ∙ empty)) (is ∙ ap (lines_of bytes) (sym three))
  refusal_same facts lines least agree (by_fourth chosen none no_conflict is_planned no_fault walk cycle is) =
      let one = first_same inputs pages facts least agree in
      let two = second_same inputs pages facts least agree in
      let within = (plan_stays_within inputs order facts chosen least none is_planned).within in
      let three = third_same inputs pages facts least agree chosen within is_planned in
      by_fourth chosen (one ∙ none) (two ∙ no_conflict) (planned_same inputs pages facts least agree chosen within is_planned) (three ∙ no_fault) walk
      (subst (λ t. IsCycle t (instances_of chosen) walk) (sym (targets_same inputs pages facts least agree chosen within is_planned)) cycle) is

  agreed_same : (facts : List Fact) (items : List Item) → IsLeast (rules_of inputs) facts → AgreesOn inputs.pages pages facts → IsAgreed inputs facts items → IsAgreed (with_pages inputs pages) facts items
  agreed_same facts items least agree is =
      let one = first_same inputs pages facts least agree in
      let two = second_same inputs pages facts least agree in
      let within = (plan_stays_within inputs order facts is.planned least is.first is.is_planned).within in
      record {
        first = one ∙ is.first;
        second = two ∙ is.second;
        planned = is.planned;
        is_planned = planned_same inputs pages facts least agree is.planned within is.is_planned;
        third = third_same inputs pages facts least agree is.planned within is.is_planned ∙ is.third;
        plan = plan_same inputs pages facts least agree is.planned within is.is_planned items is.plan;
      }

  outcome_same : (o : Outcome) → IsOutcome inputs bytes o → AgreesOn inputs.pages pages (facts_of (reasons_in o)) → IsOutcome (with_pages inputs pages) bytes o
  outcome_same (planned items reasons) is agree = (reasons_same reasons agree is.0, agreed_same (facts_of reasons) items is.0.facts.least agree is.1)
  outcome_same (refused lines reasons) is agree = (reasons_same reasons agree is.0, refusal_same (facts_of reasons) lines is.0.facts.least agree is.1)

pub same_outcome : SameOutcome
same_outcome inputs order pages bytes o is agree = outcome_same inputs order pages bytes o is agree

-- a row that isn't asked for is not found
find_kept : (a : Ask) (row : Row Condition) (rows : List (Row Condition)) → same_ask (ask_of row.version) a ≡ false → row_in (rows ++ row ∷ []) a ≡ row_in rows a
find_kept a row [] e = ap (λ b. cond b (Some row) None) e
find_kept a row (r ∷ rows) e = ap (λ o. cond (same_ask (ask_of r.version) a) (Some r) o) (find_kept a row rows e)

module _ (inputs : Inputs) (p : List ℕ) (row : Row Condition) (facts : List Fact) (least : IsLeast (rules_of inputs) facts) (unasked : Contains facts (floor p (ask_of row.version)) → ⊥) where
  more : Page Condition → Page Condition
  more page = record { given = page.given; rows = page.rows ++ row ∷ [] }

  given_kept : (q : List ℕ) (b : Bool) → (cond b (record { given = (inputs.pages q).given; rows = (inputs.pages q).rows ++ row ∷ [] }) (inputs.pages q)).given ≡ (inputs.pages q).given
  given_kept q true = refl
  given_kept q false = refl

  row_kept : (q : List ℕ) (a : Ask) → Contains facts (floor q a) → (b : Bool) → bytes_eq q p ≡ b → row_in (cond b (record { given = (inputs.pages q).given; rows = (inputs.pages q).rows ++ row ∷ [] }) (inputs.pages q)).rows a ≡ row_in (inputs.pages q).rows a
  row_kept q a h true e = find_kept a row (inputs.pages q).rows (no_is_false (same_ask (ask_of row.version) a) (λ same. (
      let is_p : q ≡ p = (bytes_eq-Decides q p).0 e in
      let is_a : ask_of row.version ≡ a = asks_equal (ask_of row.version) a same in
      unasked (subst (λ b. Contains facts (floor p b)) (sym is_a) (subst (λ r. Contains facts (floor r a)) is_p h))
      )))
  row_kept q a h false e = refl

  pub published_agrees : AgreesOn inputs.pages (published inputs.pages p row) facts
  published_agrees = record {
    givens = λ i f h. given_kept i.port (bytes_eq i.port p);
    versions = λ q a h. ap (option_map (λ (r : Row Condition). r.version)) (row_kept q a h (bytes_eq q p) refl);
    manifests = λ i f a h. ap (option_map (λ (r : Row Condition). r.manifest)) (row_kept i.port a (visit_parts inputs facts least i f a h).1 (bytes_eq i.port p) refl);
  }

outcome_least : (inputs : Inputs) (bytes : Printing) (o : Outcome) → IsOutcome inputs bytes o → IsLeast (rules_of inputs) (facts_of (reasons_in o))
outcome_least inputs bytes (planned items reasons) is = is.0.facts.least
outcome_least inputs bytes (refused lines reasons) is = is.0.facts.least

pub unasked_changes_nothing : UnaskedChangesNothing
unasked_changes_nothing inputs order p row bytes o is unasked =
    same_outcome inputs order (published inputs.pages p row) bytes o is (published_agrees inputs p row (facts_of (reasons_in o)) (outcome_least inputs bytes o is) unasked)
