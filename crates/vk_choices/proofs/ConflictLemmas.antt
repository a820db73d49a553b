-- The greatest floor of a port is its choice, and where there is none the first two tops are its conflict.
use Rattle.std.proofs.Common.{◌≡◌, ℕ, Bool, true, false, cond, not, List, [], ◌∷◌, filter, inl, inr, refl, ap, ap₂, sym, ◌∙◌, subst}
use Rattle.std.specs.Prelude.{Option, Some, None, option_map, option_and_then, option_to_list}
use Rattle.std.specs.declared.cmp.Ordering.{Ordering}
use Rattle.std.specs.declared.cmp.Ordering.TheVariants.{Less, Equal, Greater}
use Rattle.std.specs.Ordering.{is_lt, ordering_then, nat_cmp}
use Rattle.std.specs.Cmp.Lexicographic.{slice_cmp}
use Rattle.std.specs.List.{Contains, list_all, find}
use Rattle.vk_spec.specs.Versions.{Version, ask_of}
use Rattle.vk_spec.specs.Settings.{Setting}
use Rattle.vk_spec.proofs.ListLemmas.{contains_nothing, contains_first, contains_later, contains_cases, any_by}
use Rattle.vk_version.specs.Orders.{at_most}
use Rattle.vk_version.proofs.TestLemmas.{at_most-IsOrder}
use Rattle.vk_resolution.specs.Keys.{key_cmp, Ascends}
use Rattle.vk_resolution.specs.Givens.{Pages}
use Rattle.vk_resolution.specs.Asking.{Fact, floor}
use Rattle.vk_resolution.specs.Choices as plain
use Rattle.vk_resolution.specs.Choices.{chosen_of, floors_of, greatest_of, version_key, class_number, tops_of}
use Rattle.vk_resolution.specs.Reasons.{line_of}
use Rattle.vk_resolution.specs.Faults.{conflicts, conflict_of, conflicts_of}
use Rattle.vk_resolution.specs.Planner.{inputs_of}
use Rattle.vk_resolution.proofs.Members.{true_false, both_true, and_true, all_contains, contains_all, found_contains, nothing_found, contains_map, map_contains, contains_filter, filter_contains}
use Rattle.vk_resolution.proofs.Orders.{before_itself, contains-in_order, in_order-contains, in_order-ascends}
use Rattle.vk_resolution.proofs.ChoiceLemmas.{version_key-IsKey}
use Rattle.vk_choices.specs.declared.floors.Floor.{Floor}
use Rattle.vk_choices.specs.Floors.{versions_of}
use Rattle.vk_choices.specs.Tops.{IsAboveAll, IsGreatest, is_below, is_top, is_sooner, is_later_top, IsFirst, floor_version, both, AreFirstTwo}
use Rattle.vk_choices.specs.Settling.{IsRow, conflict_on}
use Rattle.vk_choices.proofs.RowLemmas.{bytes_same}
use Rattle.vk_choices.proofs.TopLemmas.{sooner_itself}

floor_with : (floors : List Floor) (v : Version) → Contains (versions_of floors) v → (f : Floor) × Contains floors f × (f.version ≡ v)
floor_with floors v h = contains_map (λ (f : Floor). f.version) floors v h

version_with : (floors : List Floor) (f : Floor) → Contains floors f → Contains (versions_of floors) f.version
version_with floors f h = map_contains (λ (g : Floor). g.version) floors f h

-- ---- the greatest

module _ (setting : Setting) (pages : Pages) (floors : List Floor) where
  abbrev tests : Version → Bool
  tests v = list_all (λ w. at_most w v) (versions_of floors)

  all_below : (v : Version) → IsAboveAll floors v → tests v ≡ true
  all_below v above = contains_all (λ w. at_most w v) (versions_of floors) (λ w h. (
      let r = floor_with floors w h in
      subst (λ u. at_most u v ≡ true) r.2 (above r.0 r.1)
      ))

  below_all : (v : Version) → tests v ≡ true → IsAboveAll floors v
  below_all v e f h = all_contains (λ w. at_most w v) (versions_of floors) e f.version (version_with floors f h)

  one_greatest : (f : Floor) → Contains floors f → IsAboveAll floors f.version → (o : Option Version) → find tests (versions_of floors) ≡ o → o ≡ Some f.version
  one_greatest f h above None e = absurd (true_false (tests f.version) (all_below f.version above) (nothing_found tests (versions_of floors) e f.version (version_with floors f h)))
  one_greatest f h above (Some u) e =
      let r = found_contains tests (versions_of floors) u e in
      let g = floor_with floors u r.0 in
      ap Some (at_most-IsOrder.antisymmetric u f.version (subst (λ w. at_most w f.version ≡ true) g.2 (above g.0 g.1)) (below_all u r.1 f h))

  pub greatest_some : (f : Floor) → Contains floors f → IsAboveAll floors f.version → greatest_of (inputs_of setting pages) (versions_of floors) ≡ Some f.version
  greatest_some f h above = one_greatest f h above (greatest_of (inputs_of setting pages) (versions_of floors)) refl

  no_greatest : IsGreatest floors None → (o : Option Version) → find tests (versions_of floors) ≡ o → o ≡ None
  no_greatest none None e = refl
  no_greatest none (Some u) e =
      let r = found_contains tests (versions_of floors) u e in
      let g = floor_with floors u r.0 in
      absurd (none g.0 g.1 (subst (IsAboveAll floors) (sym g.2) (below_all u r.1)))

  pub greatest_none : IsGreatest floors None → greatest_of (inputs_of setting pages) (versions_of floors) ≡ None
  greatest_none none = no_greatest none (greatest_of (inputs_of setting pages) (versions_of floors)) refl

-- ---- the order of asks and the order of versions

sooner_parts : (a b c : Ordering) → ordering_then a (ordering_then b (ordering_then c Equal)) ≡ Less → (a ≡ Equal → b ≡ Equal → ⊥) → ordering_then a (ordering_then b Equal) ≡ Less
sooner_parts Less b c e apart = refl
sooner_parts Equal Less c e apart = refl
sooner_parts Equal Equal c e apart = absurd (apart refl refl)
sooner_parts Equal Greater c e apart = (cc)
sooner_parts Greater b c e apart = (cc)

same_ask_by : (v w : Version) → slice_cmp nat_cmp v.text w.text ≡ Equal → slice_cmp nat_cmp (v.port ∷ []) (w.port ∷ []) ≡ Equal → ask_of v ≡ ask_of w
same_ask_by v w text port =
    let texts : v.text ≡ w.text = bytes_same v.text w.text text in
    let ports : v.port ∷ [] ≡ w.port ∷ [] = bytes_same (v.port ∷ []) (w.port ∷ []) port in
    let same : v.port ≡ w.port = (cc) in
    λ i. record { text = texts i; port = same i }

sooner_by_key : (v w : Version) → key_cmp (version_key v) (version_key w) ≡ Less → (ask_of v ≡ ask_of w → ⊥) → is_sooner v w ≡ true
sooner_by_key v w e apart =
    ap is_lt (sooner_parts (slice_cmp nat_cmp v.text w.text) (slice_cmp nat_cmp (v.port ∷ []) (w.port ∷ [])) (slice_cmp nat_cmp (class_number v.class ∷ []) (class_number w.class ∷ [])) e
    (λ text port. apart (same_ask_by v w text port)))

-- ---- the first of a list in order

module _ (floors : List Floor) (apart : (f g : Floor) → Contains floors f → Contains floors g → ask_of f.version ≡ ask_of g.version → f.version ≡ g.version) where
  -- the list has the versions of the floors that pass
  record Lists (test : Floor → Bool) (s : List Version) : Type 0 where
    pub from : (v : Version) → Contains s v → (f : Floor) × Contains floors f × (f.version ≡ v) × (test f ≡ true)
    pub to : (f : Floor) → Contains floors f → test f ≡ true → Contains s f.version

  sooner_of : (f g : Floor) → Contains floors f → Contains floors g → key_cmp (version_key f.version) (version_key g.version) ≡ Less → is_sooner f.version g.version ≡ true
  sooner_of f g h k e = sooner_by_key f.version g.version e (λ same. before_itself (version_key g.version) (subst (λ v. key_cmp (version_key v) (version_key g.version) ≡ Less) (apart f g h k same) e))

  first_of_none : (test : Floor → Bool) → Lists test [] → (best : Option Floor) → IsFirst test floors best → best ≡ None
  first_of_none test lists None is = refl
  first_of_none test lists (Some f) is = absurd (contains_nothing f.version (lists.to f is.0 is.1))

  first_of : (test : Floor → Bool) (v : Version) (rest : List Version) → Ascends version_key (v ∷ rest) → Lists test (v ∷ rest) → (best : Option Floor) → IsFirst test floors best → (f : Floor) × (best ≡ Some f) × (f.version ≡ v)
  first_of test v rest ascends lists None is = let r = lists.from v (contains_first v rest) in absurd (true_false (test r.0) r.3 (is r.0 r.1))
  first_of test v rest ascends lists (Some g) is =
      let r = lists.from v (contains_first v rest) in
      let same : g.version ≡ v = elim (contains_cases v g.version rest (lists.to g is.0 is.1)) [
        | inl e ↦ sym e
        | inr later ↦ absurd (true_false (is_sooner r.0.version g.version) (sooner_of r.0 g r.1 is.0 (subst (λ u. key_cmp (version_key u) (version_key g.version) ≡ Less) (sym r.2) (ascends.0 g.version later))) (is.2 r.0 r.1 r.3))
      ] in
      (g, refl, same)

  -- those behind the first
  rest_lists : (v : Version) (f : Floor) (rest : List Version) → Ascends version_key (v ∷ rest) → Lists (is_later_top floors None) (v ∷ rest) → Contains floors f → f.version ≡ v → Lists (is_later_top floors (Some f.version)) rest
  rest_lists v f rest ascends lists h is = record {
    from = λ u k. (
        let r = lists.from u (contains_later v u rest k) in
        let less : key_cmp (version_key f.version) (version_key r.0.version) ≡ Less = subst (λ w. key_cmp (version_key w) (version_key r.0.version) ≡ Less) (sym is) (subst (λ w. key_cmp (version_key v) (version_key w) ≡ Less) (sym r.2) (ascends.0 u k)) in
        (r.0, r.1, r.2, and_true (is_sooner f.version r.0.version) (is_top floors r.0.version) (sooner_of f r.0 h r.1 less) r.3)
        );
    to = λ g k e. (
        let p = both_true (is_sooner f.version g.version) (is_top floors g.version) e in
        elim (contains_cases v g.version rest (lists.to g k p.1)) [
          | inl same ↦ absurd (true_false (is_sooner f.version g.version) p.0 (subst (λ w. is_sooner f.version w ≡ false) (is ∙ same) (sooner_itself f.version)))
          | inr later ↦ later
        ]
        );
  }

-- ---- a conflict

module _ (setting : Setting) (pages : Pages) (facts : List Fact) (p : List ℕ) (floors : List Floor) (row : IsRow setting pages facts p floors) where
  abbrev tops : List Version
  tops = tops_of (inputs_of setting pages) (versions_of floors)

  top_same : (v : Version) → plain.is_top (inputs_of setting pages) (versions_of floors) v ≡ is_top floors v
  top_same v = ap not (any_by (λ (f : Floor). f.version) (λ w. is_below v w) floors)

  tops_lists : Lists floors row.apart (is_later_top floors None) tops
  tops_lists = record {
    from = λ v h. (
        let r = contains_filter (plain.is_top (inputs_of setting pages) (versions_of floors)) (versions_of floors) v (contains-in_order version_key (filter (plain.is_top (inputs_of setting pages) (versions_of floors)) (versions_of floors)) v h) in
        let f = floor_with floors v r.0 in
        (f.0, f.1, f.2, subst (λ w. is_top floors w ≡ true) (sym f.2) (sym (top_same v) ∙ r.1))
        );
    to = λ f h e. in_order-contains version_key version_key-IsKey (filter (plain.is_top (inputs_of setting pages) (versions_of floors)) (versions_of floors)) f.version
        (filter_contains (plain.is_top (inputs_of setting pages) (versions_of floors)) (versions_of floors) f.version (version_with floors f h) (top_same f.version ∙ e));
  }

  ascends : Ascends version_key tops
  ascends = in_order-ascends version_key (filter (plain.is_top (inputs_of setting pages) (versions_of floors)) (versions_of floors))

  line : (f : Floor) (v : Version) → Contains floors f → f.version ≡ v → line_of facts (floor p (ask_of v)) ≡ Some f.line
  line f v h e = subst (λ w. line_of facts (floor p (ask_of w)) ≡ Some f.line) e (row.lines f h)

  told_by : (two : Option (Floor × Floor)) → (are : AreFirstTwo floors two) → (s : List Version) → tops ≡ s → conflict_on p two ≡ conflict_of facts p s
  told_by two are [] e =
      let none : are.first ≡ None = first_of_none floors row.apart (is_later_top floors None) (subst (Lists floors row.apart (is_later_top floors None)) e tops_lists) are.first are.is_first in
      ap (conflict_on p) (are.told ∙ ap (λ o. both o are.second) none)
  told_by two are (v ∷ rest) e =
      let lists : Lists floors row.apart (is_later_top floors None) (v ∷ rest) = subst (Lists floors row.apart (is_later_top floors None)) e tops_lists in
      let up : Ascends version_key (v ∷ rest) = subst (Ascends version_key) e ascends in
      let f = first_of floors row.apart (is_later_top floors None) v rest up lists are.first are.is_first in
      let first : IsFirst (is_later_top floors None) floors (Some f.0) = subst (IsFirst (is_later_top floors None) floors) f.1 are.is_first in
      let second : IsFirst (is_later_top floors (Some f.0.version)) floors are.second = subst (λ o. IsFirst (is_later_top floors (floor_version o)) floors are.second) f.1 are.is_second in
      ap (conflict_on p) (are.told ∙ ap (λ o. both o are.second) f.1) ∙ behind f.0 v rest first.0 f.2 up (rest_lists floors row.apart v f.0 rest up lists first.0 f.2) are.second second
    where
      behind : (f : Floor) (v : Version) (rest : List Version) → Contains floors f → f.version ≡ v → Ascends version_key (v ∷ rest) → Lists floors row.apart (is_later_top floors (Some f.version)) rest
          → (o : Option Floor) → IsFirst (is_later_top floors (Some f.version)) floors o → conflict_on p (both (Some f) o) ≡ conflict_of facts p (v ∷ rest)
      behind f v [] h is up lists o second = ap (λ x. conflict_on p (both (Some f) x)) (first_of_none floors row.apart (is_later_top floors (Some f.version)) lists o second)
      behind f v (w ∷ more) h is up lists o second =
          let g = first_of floors row.apart (is_later_top floors (Some f.version)) w more up.1 lists o second in
          let held : IsFirst (is_later_top floors (Some f.version)) floors (Some g.0) = subst (IsFirst (is_later_top floors (Some f.version)) floors) g.1 second in
          ap (λ x. conflict_on p (both (Some f) x)) g.1
          ∙ ap₂ (λ (x y : Version). conflicts p x f.line y g.0.line ∷ []) is g.2
          ∙ sym (ap₂ (λ (x y : Option ℕ). option_to_list (option_and_then (λ n. option_map (conflicts p v n w) y) x)) (line f v h is) (line g.0 w held.0 g.2))

  pub conflict_told : (two : Option (Floor × Floor)) → IsGreatest floors None → AreFirstTwo floors two → conflict_on p two ≡ conflicts_of (inputs_of setting pages) facts p (chosen_of (inputs_of setting pages) facts p)
  conflict_told two none are =
      let lacks : greatest_of (inputs_of setting pages) (versions_of floors) ≡ None = greatest_none setting pages floors none in
      told_by two are tops refl
      ∙ ap (λ l. conflict_of facts p (tops_of (inputs_of setting pages) l)) row.versions
      ∙ sym (ap (λ b. cond b [] (conflict_of facts p (tops_of (inputs_of setting pages) (floors_of (inputs_of setting pages) facts p)))) (row.free lacks))
      ∙ sym (ap (conflicts_of (inputs_of setting pages) facts p) (row.chosen ∙ lacks))
