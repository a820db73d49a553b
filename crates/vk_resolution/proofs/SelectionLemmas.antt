-- Each port with a floor has a choice, or two floors are told.
use Rattle.std.proofs.Common.{◌≡◌, ℕ, true, false, cond, List, [], ◌∷◌, ◌++◌, map, inl, inr, refl, ap, ap₂, sym, ◌∙◌, subst}
use Rattle.std.specs.Prelude.{Option, Some, None, flat_map, Result, Ok}
use Rattle.std.specs.List.{Contains}
use Rattle.vk_spec.specs.Versions.{Version, Ask, IsOrder, ask_of}
use Rattle.vk_spec.specs.Pages.{Wrong, Given, overlay, override, baseline, is_pinned_by}
use Rattle.vk_spec.specs.Settings.{Instance}
use Rattle.vk_spec.proofs.ListLemmas.{contains_nothing, contains_first, contains_later, contains_cases, contains-flat_map, flat_map-contains}
use Rattle.vk_resolution.specs.Keys.{IsListing}
use Rattle.vk_resolution.specs.Least.{IsLeast}
use Rattle.vk_resolution.specs.Settings.{inst}
use Rattle.vk_resolution.specs.Givens.{is_pinned}
use Rattle.vk_resolution.specs.Asking.{Fact, need, floor, visit, same_fact}
use Rattle.vk_resolution.specs.Consequences.{Inputs, rules_of}
use Rattle.vk_resolution.specs.Choices.{chosen_of, floors_of, given_version_of, greatest_of}
use Rattle.vk_resolution.specs.Reasons.{line_of}
use Rattle.vk_resolution.specs.Faults.{Fault, conflicts, conflicts_of, ports_in, first_faults_of, second_faults_of}
use Rattle.vk_resolution.specs.Selections.{Choice, floored_ports_of, IsChoice, HasFloor, ChoicesListPorts, choice_of, ItemsHaveChoices, ChoicesAreOne, ChoicesOrConflicts, ChoicesHaveNoConflict}
use Rattle.vk_resolution.proofs.Members.{contains_single, contains_map}
use Rattle.vk_resolution.proofs.Orders.{contains-in_order, in_order-contains, in_order-ascends}
use Rattle.vk_resolution.proofs.Soundness.{nothing_or}
use Rattle.vk_resolution.proofs.FactLemmas.{same_fact-Decides}
use Rattle.vk_resolution.proofs.LineLemmas.{at_contains, line_at}
use Rattle.vk_resolution.proofs.ChoiceLemmas.{floor_is, needed_given, given_floor, floor_in_table, version_ask, free_choice, floors_are, choice_or_conflict, line_exists}
use Rattle.vk_resolution.proofs.AgreementLemmas.{floor_needed}

floor_in : (facts : List Fact) (p : List ℕ) (x : Fact) → Contains facts x → Contains (ports_in x) p → HasFloor facts p
floor_in facts p (need who f) h at = absurd (contains_nothing p at)
floor_in facts p (floor q a) h at = (a, subst (λ r. Contains facts (floor r a)) (contains_single q p at) h)
floor_in facts p (visit i f a) h at = absurd (contains_nothing p at)

pub has_floor : (facts : List Fact) (p : List ℕ) → Contains (floored_ports_of facts) p → HasFloor facts p
has_floor facts p h = let r = contains-flat_map ports_in facts p (contains-in_order (λ q. q ∷ []) (flat_map ports_in facts) p h) in floor_in facts p r.0 r.1 r.2

floor_listed : (facts : List Fact) (p : List ℕ) (a : Ask) → Contains facts (floor p a) → Contains (floored_ports_of facts) p
floor_listed facts p a h = in_order-contains (λ q. q ∷ []) (λ x y e. (cc)) (flat_map ports_in facts) p (flat_map-contains ports_in facts (floor p a) p h (contains_first p []))

pub choices_list_ports : ChoicesListPorts
choices_list_ports inputs facts choices is =
    subst (IsListing (λ p. p ∷ []) (HasFloor facts)) (sym is.ports) (record {
      each = λ p. (has_floor facts p, (λ f. floor_listed facts p f.0 f.1));
      ascends = in_order-ascends (λ q. q ∷ []) (flat_map ports_in facts);
    })

-- a pinned port has its given version
pub chosen_pinned : (inputs : Inputs) (facts : List Fact) (p : List ℕ) (given : Result Given Wrong) (v : Version) → (inputs.pages p).given ≡ given → is_pinned_by inputs.setting.root.overrides p given ≡ true → given_version_of inputs.pages p given ≡ Some v → chosen_of inputs facts p ≡ Some v
chosen_pinned inputs facts p given v e pinned is =
    ap (λ b. cond b (given_version_of inputs.pages p (inputs.pages p).given) (greatest_of inputs (floors_of inputs facts p))) (ap (is_pinned_by inputs.setting.root.overrides p) e ∙ pinned) ∙ ap (given_version_of inputs.pages p) e ∙ is

module _ (inputs : Inputs) (order : IsOrder inputs.at_most) (facts : List Fact) (second : second_faults_of inputs facts ≡ []) where
  -- where the second phase has no line, a port that isn't pinned and has a floor has a choice
  pub free_has_choice : (p : List ℕ) (v : Version) → is_pinned inputs.setting inputs.pages p ≡ false → Contains (floors_of inputs facts p) v → (chosen : Option Version) → chosen_of inputs facts p ≡ chosen → (c : Version) × (chosen ≡ Some c)
  free_has_choice p v free h (Some c) e = (c, refl)
  free_has_choice p v free h None e =
      let line = choice_or_conflict inputs order facts p (record { free = free; some = λ none. contains_nothing v (subst (λ l. Contains l v) none h); none = e }) in
      absurd (contains_nothing (conflicts p line.one line.one_line line.other line.other_line) (subst (λ l. Contains l (conflicts p line.one line.one_line line.other line.other_line)) second line.line))

-- the version that a port has, and that it is a floor
pub record HasChoice (inputs : Inputs) (facts : List Fact) (p : List ℕ) : Type 0 where
  pub version : Version
  pub chosen : chosen_of inputs facts p ≡ Some version
  pub has : Contains facts (floor p (ask_of version))

module _ (inputs : Inputs) (order : IsOrder inputs.at_most) (facts : List Fact) (least : IsLeast (rules_of inputs) facts) (first : first_faults_of inputs facts ≡ []) (second : second_faults_of inputs facts ≡ []) where
  pub needed_has_choice : (i : Instance) (f : List ℕ) → Contains facts (need (inst i) f) → (g : Given) → (inputs.pages i.port).given ≡ Ok g → HasChoice inputs facts i.port
  needed_has_choice i f needed (overlay v) e = record { version = v; chosen = chosen_pinned inputs facts i.port (Ok (overlay v)) v e refl refl; has = given_floor inputs facts least.closed i f needed (overlay v) e }
  needed_has_choice i f needed (override b) e =
      let has = given_floor inputs facts least.closed i f needed (override b) e in
      let v = floor_in_table inputs facts first i.port b (override b) e (λ w clash. (cc)) has in
      record { version = v.0; chosen = chosen_pinned inputs facts i.port (Ok (override b)) v.0 e refl v.1; has = subst (λ a. Contains facts (floor i.port a)) (sym (version_ask inputs.pages i.port b v.0 v.1)) has }
  needed_has_choice i f needed (baseline b) e =
      let free = ap (is_pinned_by inputs.setting.root.overrides i.port) e in
      let has = given_floor inputs facts least.closed i f needed (baseline b) e in
      let v = floor_in_table inputs facts first i.port b (baseline b) e (λ w clash. (cc)) has in
      let c = free_has_choice inputs order facts second i.port v.0 free (floor_is inputs facts i.port b v.0 has v.1) (chosen_of inputs facts i.port) refl in
      let is = floors_are inputs facts i.port c.0 (free_choice inputs facts i.port c.0 free c.1).0 in
      record { version = c.0; chosen = c.1; has = subst (λ a. Contains facts (floor i.port a)) (sym (version_ask inputs.pages i.port is.ask c.0 is.version)) is.has }

  port_has_choice : (p : List ℕ) → Contains (floored_ports_of facts) p → HasChoice inputs facts p
  port_has_choice p h =
      let r = has_floor facts p h in
      let n = floor_needed inputs facts least p r.0 r.1 in
      let g = needed_given inputs facts first n.i n.f n.has in
      subst (HasChoice inputs facts) n.is_port (needed_has_choice n.i n.f n.has g.0 g.1)

  choice_there : (p : List ℕ) → Contains (floored_ports_of facts) p → (c : Choice) × (c.port ≡ p) × IsChoice inputs facts c
  choice_there p h =
      let c = port_has_choice p h in
      let line = line_exists (same_fact (floor p (ask_of c.version))) facts (floor p (ask_of c.version)) c.has ((same_fact-Decides (floor p (ask_of c.version)) (floor p (ask_of c.version))).1 refl) in
      (record { port = p; version = c.version; line = line.0 }, refl, record { chosen = c.chosen; floor = line.1 })

  choices_there : (ports : List (List ℕ)) → ((p : List ℕ) → Contains ports p → Contains (floored_ports_of facts) p) → (choices : List Choice) × (map (λ (c : Choice). c.port) choices ≡ ports) × ((c : Choice) → Contains choices c → IsChoice inputs facts c)
  choices_there [] within = ([], refl, λ c h. absurd (contains_nothing c h))
  choices_there (p ∷ ports) within =
      let c = choice_there p (within p (contains_first p ports)) in
      let cs = choices_there ports (λ q h. within q (contains_later p q ports h)) in
      (c.0 ∷ cs.0, ap₂ (λ (q : List ℕ) (qs : List (List ℕ)). q ∷ qs) c.1 cs.1, each c.0 cs.0 c.2 cs.2)
    where
      each : (c : Choice) (cs : List Choice) → IsChoice inputs facts c → ((d : Choice) → Contains cs d → IsChoice inputs facts d) → (d : Choice) → Contains (c ∷ cs) d → IsChoice inputs facts d
      each c cs is rest d h = elim (contains_cases c d cs h) [ inl same ↦ subst (IsChoice inputs facts) same is | inr later ↦ rest d later ]

pub choices_or_conflicts : ChoicesOrConflicts
choices_or_conflicts inputs order facts least first =
    elim (nothing_or (second_faults_of inputs facts)) [
      | inr some ↦ inr some
      | inl second ↦ (let r = choices_there inputs order facts least first second (floored_ports_of facts) (λ p h. h) in inl (r.0, record { ports = r.1; each = r.2 }))
    ]

-- a port that has a choice has no line
no_conflict : (inputs : Inputs) (facts : List Fact) (ports : List (List ℕ)) → ((p : List ℕ) → Contains ports p → (v : Version) × (chosen_of inputs facts p ≡ Some v)) → flat_map (λ p. conflicts_of inputs facts p (chosen_of inputs facts p)) ports ≡ []
no_conflict inputs facts [] each = refl
no_conflict inputs facts (p ∷ ports) each =
    let c = each p (contains_first p ports) in
    ap₂ (λ (o : Option Version) (rest : List Fault). conflicts_of inputs facts p o ++ rest) c.1 (no_conflict inputs facts ports (λ q h. each q (contains_later p q ports h)))

pub choices_have_no_conflict : ChoicesHaveNoConflict
choices_have_no_conflict inputs facts choices is =
    no_conflict inputs facts (floored_ports_of facts) (λ p h. (
    let r = contains_map (λ (c : Choice). c.port) choices p (subst (λ l. Contains l p) (sym is.ports) h) in
    (r.0.version, ap (chosen_of inputs facts) (sym r.2) ∙ (is.each r.0 r.1).chosen)
    ))

choice_same : (inputs : Inputs) (facts : List Fact) (c d : Choice) → c.port ≡ d.port → IsChoice inputs facts c → IsChoice inputs facts d → c ≡ d
choice_same inputs facts c d port is is_other =
    let versions : Some c.version ≡ Some d.version = sym is.chosen ∙ ap (chosen_of inputs facts) port ∙ is_other.chosen in
    let version : c.version ≡ d.version = (cc) in
    let lines : Some c.line ≡ Some d.line = sym is.floor ∙ ap₂ (λ (p : List ℕ) (v : Version). line_of facts (floor p (ask_of v))) port version ∙ is_other.floor in
    let line : c.line ≡ d.line = (cc) in
    λ i. record { port = port i; version = version i; line = line i }

choices_same : (inputs : Inputs) (facts : List Fact) (one other : List Choice) → map (λ (c : Choice). c.port) one ≡ map (λ (c : Choice). c.port) other → ((c : Choice) → Contains one c → IsChoice inputs facts c) → ((c : Choice) → Contains other c → IsChoice inputs facts c) → one ≡ other
choices_same inputs facts [] [] e a b = refl
choices_same inputs facts [] (d ∷ ds) e a b = (cc)
choices_same inputs facts (c ∷ cs) [] e a b = (cc)
choices_same inputs facts (c ∷ cs) (d ∷ ds) e a b =
    let port : c.port ≡ d.port = (cc) in
    let ports : map (λ (k : Choice). k.port) cs ≡ map (λ (k : Choice). k.port) ds = (cc) in
    let head : c ≡ d = choice_same inputs facts c d port (a c (contains_first c cs)) (b d (contains_first d ds)) in
    let tail : cs ≡ ds = choices_same inputs facts cs ds ports (λ k h. a k (contains_later c k cs h)) (λ k h. b k (contains_later d k ds h)) in
    (cc)

pub choices_are_one : ChoicesAreOne
choices_are_one inputs facts one other is is_other = choices_same inputs facts one other (is.ports ∙ sym is_other.ports) is.each is_other.each

pub items_have_choices : ItemsHaveChoices
items_have_choices inputs facts planned order item is choices are =
    let p : List ℕ = item.instance.port in
    let has : Contains facts (floor p (ask_of item.version)) = at_contains facts item.line (floor p (ask_of item.version)) (line_at facts (floor p (ask_of item.version)) item.line is.line) in
    let listed : Contains (map (λ (c : Choice). c.port) choices) p = subst (λ l. Contains l p) (sym are.ports) (floor_listed facts p (ask_of item.version) has) in
    let c = contains_map (λ (c : Choice). c.port) choices p listed in
    subst (Contains choices) (choice_same inputs facts c.0 (choice_of item) c.2 (are.each c.0 c.1) (record { chosen = is.version; floor = is.line })) c.1
