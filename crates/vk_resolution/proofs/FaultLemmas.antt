-- What the fault lines mean.
use Rattle.vk_spec.specs.Conditions.{holds, Condition}
use Rattle.std.proofs.Common.{◌≡◌, ◌≢◌, ◌≤◌, ◌<◌, ℕ, Bool, true, false, cond, List, [], ◌∷◌, filter, inl, inr, refl, ap, sym, ◌∙◌, subst, arith}
use Rattle.std.specs.Prelude.{Option, Some, None, option_map, option_and_then, option_to_list, flat_map, Result, Ok, Err, bytes_eq}
use Rattle.std.specs.Ordering.{nat_cmp, ordering_then, MatchOrdering}
use Rattle.std.specs.declared.cmp.Ordering.{Ordering}
use Rattle.std.specs.declared.cmp.Ordering.TheVariants.{Less, Equal, Greater}
use Rattle.std.specs.Cmp.{ranks, nat_cmp_is, tied_itself}
use Rattle.std.specs.Cmp.Lexicographic.{slice_cmp}
use Rattle.std.specs.FinMap.{slice_cmp-IsAntisymmetric, nat_cmp-IsAntisymmetric}
use Rattle.std.specs.List.{Contains, list_any}
use Rattle.std.proofs.lemmas.Cmp.{nat_list_cmp_total}
use Rattle.std.proofs.lemmas.Slice.Eq.{bytes_eq-Decides}
use Rattle.vk_spec.specs.Versions.{Version, ask_of}
use Rattle.vk_spec.specs.Manifests.{Manifest, Feature, core, default}
use Rattle.vk_spec.specs.Pages.{Wrong}
use Rattle.vk_spec.proofs.ListLemmas.{contains_nothing, contains_first, contains_later, contains_cases, contains-flat_map, flat_map-contains}
use Rattle.vk_spec.proofs.FileLemmas.{path_total}
use Rattle.vk_spec.specs.Settings.{Instance}
use Rattle.vk_resolution.specs.Keys.{key_cmp, Ascends, in_order}
use Rattle.vk_resolution.specs.Settings.{Who, root, inst, marks_of, triplet_of, feature_of}
use Rattle.vk_resolution.specs.Givens.{manifest_at, is_pinned}
use Rattle.vk_resolution.specs.Asking.{Fact, need, floor, visit, is_among}
use Rattle.vk_resolution.specs.Consequences.{Inputs, is_below}
use Rattle.vk_resolution.specs.Choices.{floors_of, chosen_of, version_key, is_top, tops_of, class_number}
use Rattle.vk_resolution.specs.Reasons.{first_line, line_of}
use Rattle.vk_resolution.specs.Faults.{Trouble, trouble_key, same_trouble, troubles_of, told_of, Fault, troubled, conflicts, lacks_feature, isnt_supported, first_faults_of, judged_on_line, conflict_of, conflicts_of, ports_in, feature_faults, judged, judged_at, judged_chosen, judged_need, third_faults_of, second_faults_of}
use Rattle.vk_resolution.specs.FaultLaws.{IsTold, FirstLinesMean, IsConflictLine, SecondLinesMean, IsJudgedBy, by_root, by_choice, IsWrongWith, no_such_feature, no_support, no_feature_support, IsJudged, ThirdLinesMean, IsTopFloor, ComesBefore, by_text, by_port, by_class, VersionsComeInOrder}
use Rattle.vk_resolution.proofs.Members.{true_false, no_is_false, any_contains, contains_any, contains_map, map_contains, contains_single, option_contains, contains_option, contains_filter, filter_contains, not_true, not_false}
use Rattle.vk_resolution.proofs.Orders.{contains-in_order, in_order-contains, before_itself, before_both, in_order-ascends}
use Rattle.vk_resolution.proofs.FactLemmas.{trouble_key-IsKey, same_trouble-Decides, among_contains, contains_among}
use Rattle.vk_resolution.proofs.Soundness.{map_some, then_some}
use Rattle.vk_resolution.proofs.LineLemmas.{first_line_is, at_contains, line_at}
use Rattle.vk_resolution.proofs.ChoiceLemmas.{line_exists, floors_are, version_key-IsKey}

met_is : (inputs : Inputs) (t : Trouble) (x : Fact) → list_any (same_trouble t) (troubles_of inputs x) ≡ true → Contains (troubles_of inputs x) t
met_is inputs t x e = let r = any_contains (same_trouble t) (troubles_of inputs x) e in subst (Contains (troubles_of inputs x)) (sym ((same_trouble-Decides t r.0).0 r.2)) r.1

is_met : (inputs : Inputs) (t : Trouble) (x : Fact) → Contains (troubles_of inputs x) t → list_any (same_trouble t) (troubles_of inputs x) ≡ true
is_met inputs t x h = contains_any (same_trouble t) (troubles_of inputs x) t h ((same_trouble-Decides t t).1 refl)

module _ (inputs : Inputs) (facts : List Fact) where
  told_is : (fault : Fault) → Contains (first_faults_of inputs facts) fault → IsTold inputs facts fault
  told_is fault h =
      let r = contains-flat_map (told_of inputs facts) (in_order trouble_key (flat_map (troubles_of inputs) facts)) fault h in
      let t : Trouble = r.0 in
      let test : Fact → Bool = λ x. list_any (same_trouble t) (troubles_of inputs x) in
      let q = contains_map (troubled t) (option_to_list (first_line test facts)) fault r.2 in
      let is = first_line_is test facts q.0 (option_contains (first_line test facts) q.0 q.1) in
      record {
        trouble = t;
        n = q.0;
        is = sym q.2;
        fact = is.fact;
        line = is.line;
        meets = met_is inputs t is.fact is.passes;
        first = λ m other at met_too. is.first m other at (is_met inputs t other met_too);
      }

  is_told : (fault : Fault) → IsTold inputs facts fault → Contains (first_faults_of inputs facts) fault
  is_told fault told =
      let t : Trouble = told.trouble in
      let test : Fact → Bool = λ x. list_any (same_trouble t) (troubles_of inputs x) in
      let passes : test told.fact ≡ true = is_met inputs t told.fact told.meets in
      let held : Contains facts told.fact = at_contains facts told.n told.fact told.line in
      let line = line_exists test facts told.fact held passes in
      let is = first_line_is test facts line.0 line.1 in
      let below : line.0 ≤ told.n = is.first told.n told.fact told.line passes in
      let above : told.n ≤ line.0 = told.first line.0 is.fact is.line (met_is inputs t is.fact is.passes) in
      let same : line.0 ≡ told.n = omega arith in
      let listed : Contains (in_order trouble_key (flat_map (troubles_of inputs) facts)) t = in_order-contains trouble_key trouble_key-IsKey (flat_map (troubles_of inputs) facts) t (flat_map-contains (troubles_of inputs) facts told.fact t held told.meets) in
      let here : Contains (told_of inputs facts t) (troubled t line.0) = map_contains (troubled t) (option_to_list (first_line test facts)) line.0 (contains_option (first_line test facts) line.0 line.1) in
      subst (Contains (first_faults_of inputs facts)) (ap (troubled t) same ∙ sym told.is) (flat_map-contains (told_of inputs facts) (in_order trouble_key (flat_map (troubles_of inputs) facts)) t (troubled t line.0) listed here)

pub first_lines_mean : FirstLinesMean
first_lines_mean inputs facts fault = (told_is inputs facts fault, is_told inputs facts fault)

module _ (inputs : Inputs) (facts : List Fact) (p : List ℕ) where
  top_listed : (v : Version) → IsTopFloor inputs facts p v → Contains (tops_of inputs (floors_of inputs facts p)) v
  top_listed v top =
      let floors : List Version = floors_of inputs facts p in
      let is : is_top inputs floors v ≡ true =
      not_false _ (no_is_false _ (λ some. (let r = any_contains (is_below inputs v) floors some in true_false (is_below inputs v r.0) r.2 (top.none_above r.0 r.1)))) in
      in_order-contains version_key version_key-IsKey (filter (is_top inputs floors) floors) v (filter_contains (is_top inputs floors) floors v top.floor is)

  listed_top : (v : Version) → Contains (tops_of inputs (floors_of inputs facts p)) v → IsTopFloor inputs facts p v
  listed_top v h =
      let floors : List Version = floors_of inputs facts p in
      let r = contains_filter (is_top inputs floors) floors v (contains-in_order version_key (filter (is_top inputs floors) floors) v h) in
      record {
        floor = r.0;
        none_above = λ w at. no_is_false _ (λ above. true_false (list_any (is_below inputs v) floors) (contains_any (is_below inputs v) floors w at above) (not_true _ r.1));
      }

  tops_ascend : Ascends version_key (tops_of inputs (floors_of inputs facts p))
  tops_ascend = in_order-ascends version_key (filter (is_top inputs (floors_of inputs facts p)) (floors_of inputs facts p))

-- what stands before another differs from it
before_differs : (v w : Version) → key_cmp (version_key v) (version_key w) ≡ Less → v ≢ w
before_differs v w e same = before_itself (version_key v) (subst (λ k. key_cmp (version_key v) (version_key k) ≡ Less) (sym same) e)

-- two members of a list in order, such that each other comes after the second, are its first two
module _ (one other : Version) (before : key_cmp (version_key one) (version_key other) ≡ Less) where
  second_is : (w : Version) (rest : List Version) → Ascends version_key (one ∷ w ∷ rest) → Contains (one ∷ w ∷ rest) other
      → ((v : Version) → Contains (one ∷ w ∷ rest) v → v ≢ one → v ≢ other → key_cmp (version_key other) (version_key v) ≡ Less) → other ≡ w
  second_is w rest ascends has after =
      elim (contains_cases one other (w ∷ rest) has) [
        | inl same ↦ absurd (before_differs one other before same)
        | inr later ↦ elim (contains_cases w other rest later) [
          | inl same ↦ sym same
          | inr last ↦ (
              let w_before : key_cmp (version_key w) (version_key other) ≡ Less = ascends.1.0 other last in
              let one_before : key_cmp (version_key one) (version_key w) ≡ Less = ascends.0 w (contains_first w rest) in
              let w_after : key_cmp (version_key other) (version_key w) ≡ Less =
              after w (contains_later one w (w ∷ rest) (contains_first w rest)) (λ same. before_differs one w one_before (sym same)) (before_differs w other w_before) in
              absurd (before_both (version_key w) (version_key other) w_before w_after)
              )
        ]
      ]

  first_is : (v : Version) (rest : List Version) → Ascends version_key (v ∷ rest) → Contains (v ∷ rest) one → Contains (v ∷ rest) other
      → ((u : Version) → Contains (v ∷ rest) u → u ≢ one → u ≢ other → key_cmp (version_key other) (version_key u) ≡ Less) → one ≡ v
  first_is v rest ascends has_one has_other after =
      elim (contains_cases v one rest has_one) [
        | inl same ↦ sym same
        | inr later ↦ (
            let v_before : key_cmp (version_key v) (version_key one) ≡ Less = ascends.0 one later in
            let v_first : key_cmp (version_key v) (version_key other) ≡ Less = path_total.trans (version_key v) (version_key one) (version_key other) v_before before in
            let v_after : key_cmp (version_key other) (version_key v) ≡ Less = after v (contains_first v rest) (before_differs v one v_before) (before_differs v other v_first) in
            absurd (before_both (version_key v) (version_key other) v_first v_after)
            )
      ]

  pub first_two_are : (xs : List Version) → Ascends version_key xs → Contains xs one → Contains xs other
      → ((v : Version) → Contains xs v → v ≢ one → v ≢ other → key_cmp (version_key other) (version_key v) ≡ Less) → (rest : List Version) × (xs ≡ one ∷ other ∷ rest)
  first_two_are [] ascends has_one has_other after = absurd (contains_nothing one has_one)
  first_two_are (v ∷ []) ascends has_one has_other after = absurd (before_differs one other before (sym (contains_single v one has_one) ∙ contains_single v other has_other))
  first_two_are (v ∷ w ∷ rest) ascends has_one has_other after =
      let first : one ≡ v = first_is v (w ∷ rest) ascends has_one has_other after in
      let split : v ∷ w ∷ rest ≡ one ∷ w ∷ rest = ap (λ u. u ∷ w ∷ rest) (sym first) in
      let second : other ≡ w = second_is w rest (subst (Ascends version_key) split ascends) (subst (λ l. Contains l other) split has_other)
      (λ u h. after u (subst (λ l. Contains l u) (sym split) h)) in
      (rest, split ∙ ap (λ u. one ∷ u ∷ rest) (sym second))

module _ (inputs : Inputs) (facts : List Fact) (p : List ℕ) (fault : Fault) where
  conflict_line : (free : is_pinned inputs.setting inputs.pages p ≡ false) (none : chosen_of inputs facts p ≡ None) (tops : List Version) → tops_of inputs (floors_of inputs facts p) ≡ tops → Contains (conflict_of facts p tops) fault → IsConflictLine inputs facts fault
  conflict_line free none [] e h = absurd (contains_nothing fault h)
  conflict_line free none (v ∷ []) e h = absurd (contains_nothing fault h)
  conflict_line free none (v ∷ w ∷ more) e h =
      let told = option_contains (option_and_then (λ n. option_map (conflicts p v n w) (line_of facts (floor p (ask_of w)))) (line_of facts (floor p (ask_of v)))) fault h in
      let n = then_some (λ n. option_map (conflicts p v n w) (line_of facts (floor p (ask_of w)))) (line_of facts (floor p (ask_of v))) fault told in
      let m = map_some (conflicts p v n.0 w) (line_of facts (floor p (ask_of w))) fault n.2 in
      let top_v : IsTopFloor inputs facts p v = listed_top inputs facts p v (subst (λ l. Contains l v) (sym e) (contains_first v (w ∷ more))) in
      let top_w : IsTopFloor inputs facts p w = listed_top inputs facts p w (subst (λ l. Contains l w) (sym e) (contains_later v w (w ∷ more) (contains_first w more))) in
      let ascends : Ascends version_key (v ∷ w ∷ more) = subst (Ascends version_key) e (tops_ascend inputs facts p) in
      let before : key_cmp (version_key v) (version_key w) ≡ Less = ascends.0 w (contains_first w more) in
      record {
        port = p;
        conflict = record { free = free; some = λ empty. contains_nothing v (subst (λ l. Contains l v) empty top_v.floor); none = none };
        one = v;
        one_line = n.0;
        other = w;
        other_line = m.0;
        is = sym m.2;
        one_top = top_v;
        other_top = top_w;
        differ = before_differs v w before;
        before = before;
        after = λ u top not_v not_w. elim (contains_cases v u (w ∷ more) (subst (λ l. Contains l u) e (top_listed inputs facts p u top))) [
          | inl same ↦ absurd (not_v (sym same))
          | inr later ↦ elim (contains_cases w u more later) [ inl same ↦ absurd (not_w (sym same)) | inr last ↦ ascends.1.0 u last ]
        ];
        one_cited = n.1;
        other_cited = m.1;
      }

  conflict_case : (b : Bool) → is_pinned inputs.setting inputs.pages p ≡ b → chosen_of inputs facts p ≡ None → Contains (cond b [] (conflict_of facts p (tops_of inputs (floors_of inputs facts p)))) fault → IsConflictLine inputs facts fault
  conflict_case true e none h = absurd (contains_nothing fault h)
  conflict_case false e none h = conflict_line e none (tops_of inputs (floors_of inputs facts p)) refl h

  conflicts_are : (o : Option Version) → chosen_of inputs facts p ≡ o → Contains (conflicts_of inputs facts p o) fault → IsConflictLine inputs facts fault
  conflicts_are None e h = conflict_case (is_pinned inputs.setting inputs.pages p) refl e h
  conflicts_are (Some v) e h = absurd (contains_nothing fault h)

second_is_conflict : (inputs : Inputs) (facts : List Fact) (fault : Fault) → Contains (second_faults_of inputs facts) fault → IsConflictLine inputs facts fault
second_is_conflict inputs facts fault h =
    let r = contains-flat_map (λ p. conflicts_of inputs facts p (chosen_of inputs facts p)) (in_order (λ p. p ∷ []) (flat_map ports_in facts)) fault h in
    conflicts_are inputs facts r.0 fault (chosen_of inputs facts r.0) refl r.2

conflict_is_second : (inputs : Inputs) (facts : List Fact) (fault : Fault) → IsConflictLine inputs facts fault → Contains (second_faults_of inputs facts) fault
conflict_is_second inputs facts fault line =
    let p : List ℕ = line.port in
    let v : Version = line.one in
    let w : Version = line.other in
    let two = first_two_are v w line.before (tops_of inputs (floors_of inputs facts p)) (tops_ascend inputs facts p) (top_listed inputs facts p v line.one_top) (top_listed inputs facts p w line.other_top)
    (λ u h. line.after u (listed_top inputs facts p u h)) in
    let told : option_and_then (λ n. option_map (conflicts p v n w) (line_of facts (floor p (ask_of w)))) (line_of facts (floor p (ask_of v))) ≡ Some fault =
    ap (option_and_then (λ n. option_map (conflicts p v n w) (line_of facts (floor p (ask_of w))))) line.one_cited ∙ ap (option_map (conflicts p v line.one_line w)) line.other_cited ∙ ap Some (sym line.is) in
    let here : Contains (conflict_of facts p (tops_of inputs (floors_of inputs facts p))) fault = subst (λ l. Contains (conflict_of facts p l) fault) (sym two.1) (contains_option _ fault told) in
    let free : Contains (cond (is_pinned inputs.setting inputs.pages p) [] (conflict_of facts p (tops_of inputs (floors_of inputs facts p)))) fault =
    subst (λ b. Contains (cond b [] (conflict_of facts p (tops_of inputs (floors_of inputs facts p)))) fault) (sym line.conflict.free) here in
    let at : Contains (conflicts_of inputs facts p (chosen_of inputs facts p)) fault = subst (λ o. Contains (conflicts_of inputs facts p o) fault) (sym line.conflict.none) free in
    let is = floors_are inputs facts p v line.one_top.floor in
    let listed : Contains (in_order (λ q. q ∷ []) (flat_map ports_in facts)) p = in_order-contains (λ q. q ∷ []) (λ x y e. (cc)) (flat_map ports_in facts) p (flat_map-contains ports_in facts (floor p is.ask) p is.has (contains_first p [])) in
    flat_map-contains (λ q. conflicts_of inputs facts q (chosen_of inputs facts q)) (in_order (λ q. q ∷ []) (flat_map ports_in facts)) p fault listed at

pub second_lines_mean : SecondLinesMean
second_lines_mean inputs facts fault = (second_is_conflict inputs facts fault, conflict_is_second inputs facts fault)

-- the order of versions, said by `version_key` and by its parts
nat_less : (m n : ℕ) → nat_cmp m n ≡ Less → m < n
nat_less m n e = subst (λ o. MatchOrdering o (m < n) (m ≡ n) (n < m)) e (ranks m n)

less_nat : (m n : ℕ) → m < n → nat_cmp m n ≡ Less
less_nat m n h = sym (nat_cmp_is m n Less h)

text_is : (v w : Version) → slice_cmp nat_cmp v.text w.text ≡ Equal → v.text ≡ w.text
text_is v w e = slice_cmp-IsAntisymmetric nat_cmp-IsAntisymmetric v.text w.text e

text_tied : (v w : Version) → v.text ≡ w.text → slice_cmp nat_cmp v.text w.text ≡ Equal
text_tied v w same = ap (slice_cmp nat_cmp v.text) (sym same) ∙ tied_itself nat_list_cmp_total v.text

-- the answer of three comparisons, one after another
abbrev then_then : Ordering → Ordering → Ordering → Ordering
then_then text port class = ordering_then text (ordering_then (ordering_then port Equal) (ordering_then (ordering_then class Equal) Equal))

before_by : (v w : Version) (text port class : Ordering) → slice_cmp nat_cmp v.text w.text ≡ text → nat_cmp v.port w.port ≡ port → nat_cmp (class_number v.class) (class_number w.class) ≡ class → then_then text port class ≡ Less → ComesBefore v w
before_by v w Less port class a b c e = by_text a
before_by v w Greater port class a b c e = (cc)
before_by v w Equal Less class a b c e = by_port (text_is v w a) (nat_less v.port w.port b)
before_by v w Equal Greater class a b c e = (cc)
before_by v w Equal Equal Less a b c e = by_class (text_is v w a) (nat_cmp-IsAntisymmetric v.port w.port b) (nat_less (class_number v.class) (class_number w.class) c)
before_by v w Equal Equal Equal a b c e = (cc)
before_by v w Equal Equal Greater a b c e = (cc)

comes_before : (v w : Version) → ComesBefore v w → key_cmp (version_key v) (version_key w) ≡ Less
comes_before v w (by_text e) = ap (λ o. then_then o (nat_cmp v.port w.port) (nat_cmp (class_number v.class) (class_number w.class))) e
comes_before v w (by_port same h) =
    ap (λ o. then_then o (nat_cmp v.port w.port) (nat_cmp (class_number v.class) (class_number w.class))) (text_tied v w same)
    ∙ ap (λ o. then_then Equal o (nat_cmp (class_number v.class) (class_number w.class))) (less_nat v.port w.port h)
comes_before v w (by_class same tied h) =
    ap (λ o. then_then o (nat_cmp v.port w.port) (nat_cmp (class_number v.class) (class_number w.class))) (text_tied v w same)
    ∙ ap (λ o. then_then Equal o (nat_cmp (class_number v.class) (class_number w.class))) (sym (nat_cmp_is v.port w.port Equal tied))
    ∙ ap (then_then Equal Equal) (less_nat (class_number v.class) (class_number w.class) h)

pub versions_come_in_order : VersionsComeInOrder
versions_come_in_order v w = (before_by v w (slice_cmp nat_cmp v.text w.text) (nat_cmp v.port w.port) (nat_cmp (class_number v.class) (class_number w.class)) refl refl refl, comes_before v w)

-- the third phase
apart : (f g : List ℕ) → bytes_eq f g ≡ false → f ≢ g
apart f g e same = true_false (bytes_eq f g) ((bytes_eq-Decides f g).1 same) e

is_apart : (f g : List ℕ) → f ≢ g → bytes_eq f g ≡ false
is_apart f g other = no_is_false (bytes_eq f g) (λ e. other ((bytes_eq-Decides f g).0 e))

module _ (inputs : Inputs) (who : Who) (f : List ℕ) (v : Option Version) (m : Manifest Condition) (n : ℕ) where
  support_wrong : (b : Bool) → holds m.supports (marks_of inputs.setting (triplet_of who)) ≡ b → f ≡ core → (fault : Fault) → Contains (cond b [] (isnt_supported who f v n ∷ [])) fault → IsWrongWith inputs who f v m n fault
  support_wrong true e is fault h = absurd (contains_nothing fault h)
  support_wrong false e is fault h = subst (IsWrongWith inputs who f v m n) (contains_single (isnt_supported who f v n) fault h) (no_support is e)

  feature_support : (g : Feature Condition) → f ≢ core → f ≢ default → feature_of m f ≡ Some g → (b : Bool) → holds g.supports (marks_of inputs.setting (triplet_of who)) ≡ b → (fault : Fault) → Contains (cond b [] (isnt_supported who f v n ∷ [])) fault → IsWrongWith inputs who f v m n fault
  feature_support g not_core not_default found true e fault h = absurd (contains_nothing fault h)
  feature_support g not_core not_default found false e fault h = subst (IsWrongWith inputs who f v m n) (contains_single (isnt_supported who f v n) fault h) (no_feature_support g not_core not_default found e)

  feature_wrong : f ≢ core → f ≢ default → (o : Option (Feature Condition)) → feature_of m f ≡ o → (fault : Fault) → Contains (feature_faults who f v (marks_of inputs.setting (triplet_of who)) o n) fault → IsWrongWith inputs who f v m n fault
  feature_wrong not_core not_default None e fault h = subst (IsWrongWith inputs who f v m n) (contains_single (lacks_feature who f v n) fault h) (no_such_feature not_core not_default e)
  feature_wrong not_core not_default (Some g) e fault h = feature_support g not_core not_default e (holds g.supports (marks_of inputs.setting (triplet_of who))) refl fault h

  wrong_case : (b c : Bool) → bytes_eq f core ≡ b → bytes_eq f default ≡ c → (fault : Fault)
      → Contains (cond b (cond (holds m.supports (marks_of inputs.setting (triplet_of who))) [] (isnt_supported who f v n ∷ [])) (cond c [] (feature_faults who f v (marks_of inputs.setting (triplet_of who)) (feature_of m f) n))) fault → IsWrongWith inputs who f v m n fault
  wrong_case true c e k fault h = support_wrong (holds m.supports (marks_of inputs.setting (triplet_of who))) refl ((bytes_eq-Decides f core).0 e) fault h
  wrong_case false true e k fault h = absurd (contains_nothing fault h)
  wrong_case false false e k fault h = feature_wrong (apart f core e) (apart f default k) (feature_of m f) refl fault h

  judged_wrong : (fault : Fault) → Contains (judged inputs.setting who f v m n) fault → IsWrongWith inputs who f v m n fault
  judged_wrong fault h = wrong_case (bytes_eq f core) (bytes_eq f default) refl refl fault h

  wrong_judged : (fault : Fault) → IsWrongWith inputs who f v m n fault → Contains (judged inputs.setting who f v m n) fault
  wrong_judged _ (no_such_feature not_core not_default none) =
      subst (λ b. Contains (cond b (cond (holds m.supports (marks_of inputs.setting (triplet_of who))) [] (isnt_supported who f v n ∷ [])) (cond (bytes_eq f default) [] (feature_faults who f v (marks_of inputs.setting (triplet_of who)) (feature_of m f) n))) (lacks_feature who f v n)) (sym (is_apart f core not_core))
      (subst (λ b. Contains (cond b [] (feature_faults who f v (marks_of inputs.setting (triplet_of who)) (feature_of m f) n)) (lacks_feature who f v n)) (sym (is_apart f default not_default))
      (subst (λ o. Contains (feature_faults who f v (marks_of inputs.setting (triplet_of who)) o n) (lacks_feature who f v n)) (sym none) (contains_first (lacks_feature who f v n) [])))
  wrong_judged _ (no_support is none) =
      subst (λ b. Contains (cond b (cond (holds m.supports (marks_of inputs.setting (triplet_of who))) [] (isnt_supported who f v n ∷ [])) (cond (bytes_eq f default) [] (feature_faults who f v (marks_of inputs.setting (triplet_of who)) (feature_of m f) n))) (isnt_supported who f v n)) (sym ((bytes_eq-Decides f core).1 is))
      (subst (λ b. Contains (cond b [] (isnt_supported who f v n ∷ [])) (isnt_supported who f v n)) (sym none) (contains_first (isnt_supported who f v n) []))
  wrong_judged _ (no_feature_support g not_core not_default found none) =
      subst (λ b. Contains (cond b (cond (holds m.supports (marks_of inputs.setting (triplet_of who))) [] (isnt_supported who f v n ∷ [])) (cond (bytes_eq f default) [] (feature_faults who f v (marks_of inputs.setting (triplet_of who)) (feature_of m f) n))) (isnt_supported who f v n)) (sym (is_apart f core not_core))
      (subst (λ b. Contains (cond b [] (feature_faults who f v (marks_of inputs.setting (triplet_of who)) (feature_of m f) n)) (isnt_supported who f v n)) (sym (is_apart f default not_default))
      (subst (λ o. Contains (feature_faults who f v (marks_of inputs.setting (triplet_of who)) o n) (isnt_supported who f v n)) (sym found)
      (subst (λ b. Contains (cond b [] (isnt_supported who f v n ∷ [])) (isnt_supported who f v n)) (sym none) (contains_first (isnt_supported who f v n) []))))

module _ (inputs : Inputs) (facts chosen : List Fact) (fault : Fault) where
  at_manifest : (i : Instance) (f : List ℕ) (n : ℕ) (v : Version) → Contains chosen (need (inst i) f) → line_of facts (need (inst i) f) ≡ Some n → chosen_of inputs facts i.port ≡ Some v → (manifest : Option (Result (Manifest Condition) Wrong)) → manifest_at inputs.pages i.port (ask_of v) ≡ manifest
      → Contains (judged_at inputs i f v manifest n) fault → IsJudged inputs facts chosen fault
  at_manifest i f n v h line e None found at = absurd (contains_nothing fault at)
  at_manifest i f n v h line e (Some (Err wrong)) found at = absurd (contains_nothing fault at)
  at_manifest i f n v h line e (Some (Ok m)) found at = record { who = inst i; f = f; needed = h; n = n; line = line; v = Some v; m = m; judged_by = by_choice i v m e found; wrong = judged_wrong inputs (inst i) f (Some v) m n fault at }

  at_choice : (i : Instance) (f : List ℕ) (n : ℕ) → Contains chosen (need (inst i) f) → line_of facts (need (inst i) f) ≡ Some n → (o : Option Version) → chosen_of inputs facts i.port ≡ o → Contains (judged_chosen inputs i f o n) fault → IsJudged inputs facts chosen fault
  at_choice i f n h line None e at = absurd (contains_nothing fault at)
  at_choice i f n h line (Some v) e at = at_manifest i f n v h line e (manifest_at inputs.pages i.port (ask_of v)) refl at

  at_need : (x : Fact) (n : ℕ) → Contains chosen x → line_of facts x ≡ Some n → Contains (judged_need inputs facts x n) fault → IsJudged inputs facts chosen fault
  at_need (need (root t) f) n h line at = record { who = root t; f = f; needed = h; n = n; line = line; v = None; m = inputs.setting.root; judged_by = by_root t; wrong = judged_wrong inputs (root t) f None inputs.setting.root n fault at }
  at_need (need (inst i) f) n h line at = at_choice i f n h line (chosen_of inputs facts i.port) refl at
  at_need (floor p a) n h line at = absurd (contains_nothing fault at)
  at_need (visit i f a) n h line at = absurd (contains_nothing fault at)

  third_is : Contains (third_faults_of inputs facts chosen) fault → IsJudged inputs facts chosen fault
  third_is h =
      let r = contains-flat_map (judged_on_line inputs facts) (filter (is_among chosen) facts) fault h in
      let q = contains-flat_map (judged_need inputs facts r.0) (option_to_list (line_of facts r.0)) fault r.2 in
      at_need r.0 q.0 (among_contains chosen r.0 (contains_filter (is_among chosen) facts r.0 r.1).1) (option_contains (line_of facts r.0) q.0 q.1) q.2

  judged_by_is : (who : Who) (f : List ℕ) (v : Option Version) (m : Manifest Condition) (n : ℕ) → IsJudgedBy inputs facts who v m → Contains (judged inputs.setting who f v m n) fault → Contains (judged_need inputs facts (need who f) n) fault
  judged_by_is _ f _ _ n (by_root t) h = h
  judged_by_is _ f _ _ n (by_choice i v m e found) h =
      subst (λ o. Contains (judged_chosen inputs i f o n) fault) (sym e) (subst (λ o. Contains (judged_at inputs i f v o n) fault) (sym found) h)

  is_third : IsJudged inputs facts chosen fault → Contains (third_faults_of inputs facts chosen) fault
  is_third j =
      flat_map-contains (judged_on_line inputs facts) (filter (is_among chosen) facts) (need j.who j.f) fault
      (filter_contains (is_among chosen) facts (need j.who j.f) (at_contains facts j.n (need j.who j.f) (line_at facts (need j.who j.f) j.n j.line)) (contains_among chosen (need j.who j.f) j.needed))
      (flat_map-contains (judged_need inputs facts (need j.who j.f)) (option_to_list (line_of facts (need j.who j.f))) j.n fault (contains_option (line_of facts (need j.who j.f)) j.n j.line)
      (judged_by_is j.who j.f j.v j.m j.n j.judged_by (wrong_judged inputs j.who j.f j.v j.m j.n fault j.wrong)))

pub third_lines_mean : ThirdLinesMean
third_lines_mean inputs facts chosen fault = (third_is inputs facts chosen fault, is_third inputs facts chosen fault)
