-- Notes of what facts meet, one fact after the other, are the faults of all of them.
use Rattle.std.proofs.Common.{◌≡◌, ◌<◌, ◌+◌, take, get_or, arith, ℕ, zero, suc, Bool, true, false, cond, List, [], ◌∷◌, ◌++◌, length, map, inl, inr, refl, ap, ap₂, sym, ◌∙◌, subst}
use Rattle.std.specs.Prelude.{Option, Some, None, IfSome, option_map, option_to_list, flat_map}
use Rattle.std.specs.List.{Contains, list_any}
use Rattle.std.proofs.lemmas.List.Elements.{Contains-push_cases}
use Rattle.vk_spec.proofs.ListLemmas.{contains_nothing, contains_first, contains_later, contains-flat_map, flat_map-contains}
use Rattle.vk_resolution.specs.Keys.{Ascends, in_order}
use Rattle.vk_resolution.specs.Asking.{Fact}
use Rattle.vk_resolution.specs.Reasons.{first_line}
use Rattle.vk_resolution.specs.Faults.{Trouble, trouble_key, same_trouble, troubled}
use Rattle.vk_resolution.proofs.Members.{any_contains, contains_any, contains_map, map_contains}
use Rattle.vk_resolution.proofs.Soundness.{map_some}
use Rattle.vk_resolution.proofs.LineLemmas.{first_line_is, at_contains}
use Rattle.vk_resolution.proofs.FactLemmas.{same_trouble-Decides, trouble_key-IsKey}
use Rattle.vk_resolution.proofs.Orders.{contains-in_order, in_order-contains, in_order-ascends, ascending_one}
use Rattle.std.proofs.lemmas.List.{take_more, map-append, length-map}
use Rattle.vk_spec.proofs.OptionLemmas.{of_each, of_both}
use Rattle.vk_resolution.specs.Givens.{Pages}
use Rattle.vk_resolution.specs.Reasons.{facts_of}
use Rattle.vk_model.specs.declared.reasons.Reason.{Reason}
use Rattle.vk_model.specs.FactViews.{fact_view, reason_view, reasons_view}
use Rattle.vk_faults.specs.Met.{told_by, faults_by, met_on}
use Rattle.vk_faults.specs.Notes.{Note, Entry, noted, fault_of, IsNoted, HaveFirstLines}

-- ---- the first line, as lines come

stays_by : (b : Bool) (o p : Option ℕ) (n : ℕ) → ((m : ℕ) → o ≡ Some m → p ≡ Some m) → cond b (Some 1) (option_map suc o) ≡ Some n → cond b (Some 1) (option_map suc p) ≡ Some n
stays_by true o p n more e = e
stays_by false o p n more e = let r = map_some suc o n e in ap (option_map suc) (more r.0 r.1) ∙ ap Some r.2

stays : (test : Fact → Bool) (xs : List Fact) (x : Fact) (n : ℕ) → first_line test xs ≡ Some n → first_line test (xs ++ x ∷ []) ≡ Some n
stays test [] x n e = (cc)
stays test (y ∷ ys) x n e = stays_by (test y) (first_line test ys) (first_line test (ys ++ x ∷ [])) n (stays test ys x) e

none_by : (b : Bool) (o : Option ℕ) → cond b (Some 1) (option_map suc o) ≡ None → (b ≡ false) × (o ≡ None)
none_by true o e = (cc)
none_by false None e = (refl, refl)
none_by false (Some n) e = (cc)

comes : (test : Fact → Bool) (xs : List Fact) (x : Fact) → first_line test xs ≡ None → test x ≡ true → first_line test (xs ++ x ∷ []) ≡ Some (suc (length xs))
comes test [] x e passes = ap (λ b. cond b (Some 1) None) passes
comes test (y ∷ ys) x e passes =
    let p = none_by (test y) (first_line test ys) e in
    ap₂ (λ b o. cond b (Some 1) (option_map suc o)) p.0 (comes test ys x p.1 passes)

module _ (met : Fact → List Trouble) where
  abbrev meets : Trouble → Fact → Bool
  meets t x = list_any (same_trouble t) (met x)

  met_is : (t : Trouble) (x : Fact) → meets t x ≡ true → Contains (met x) t
  met_is t x e = let r = any_contains (same_trouble t) (met x) e in subst (Contains (met x)) (sym ((same_trouble-Decides t r.0).0 r.2)) r.1

  is_met : (t : Trouble) (x : Fact) → Contains (met x) t → meets t x ≡ true
  is_met t x h = contains_any (same_trouble t) (met x) t h ((same_trouble-Decides t t).1 refl)

  -- a line that meets it is one of the facts
  among : (facts : List Fact) (t : Trouble) (n : ℕ) → first_line (meets t) facts ≡ Some n → Contains (flat_map met facts) t
  among facts t n e =
      let is = first_line_is (meets t) facts n e in
      flat_map-contains met facts is.fact t (at_contains facts n is.fact is.line) (met_is t is.fact is.passes)

  pub nothing_met : HaveFirstLines met [] []
  nothing_met = record { first = λ note h. absurd (contains_nothing note h); all = λ t h. absurd (contains_nothing t h) }

  -- what wasn't noted, no fact met
  unmet : (facts : List Fact) (notes : List Note) (t : Trouble) (o : Option ℕ) → HaveFirstLines met facts notes → ((n : ℕ) → Contains notes (t, n) → ⊥) → first_line (meets t) facts ≡ o → first_line (meets t) facts ≡ None
  unmet facts notes t None have new e = e
  unmet facts notes t (Some n) have new e = let r = have.all t (among facts t n e) in absurd (new r.0 r.1)

  pub more_met : (facts : List Fact) (x : Fact) (old new : List Note) → HaveFirstLines met facts old → IsNoted (met x) (suc (length facts)) old new → HaveFirstLines met (facts ++ x ∷ []) new
  more_met facts x old new have step = record { first = first; all = all }
    where
      first : (note : Note) → Contains new note → first_line (meets note.0) (facts ++ x ∷ []) ≡ Some note.1
      first note h = elim (step.only note h) [
        | inl was ↦ stays (meets note.0) facts x note.1 (have.first note was)
        | inr is ↦ comes (meets note.0) facts x (unmet facts old note.0 (first_line (meets note.0) facts) have is.2 refl) (is_met note.0 x is.1) ∙ ap Some (sym is.0)
      ]

      by : (t : Trouble) (y : Fact) → Contains (met y) t → Contains (facts ++ x ∷ []) y → (n : ℕ) × Contains new (t, n)
      by t y at h = elim (Contains-push_cases facts x y h) [
        | inl was ↦ (let r = have.all t (flat_map-contains met facts y t was at) in (r.0, step.keeps (t, r.0) r.1))
        | inr is ↦ step.has t (subst (λ z. Contains (met z) t) (sym is) at)
      ]

      all : (t : Trouble) → Contains (flat_map met (facts ++ x ∷ [])) t → (n : ℕ) × Contains new (t, n)
      all t h = let r = contains-flat_map met (facts ++ x ∷ []) t h in by t r.0 r.2 r.1

  -- ---- all of them

  told_each : (facts : List Fact) (notes : List Note) → ((note : Note) → Contains notes note → first_line (meets note.0) facts ≡ Some note.1) → flat_map (told_by met facts) (map (λ note. note.0) notes) ≡ map fault_of notes
  told_each facts [] each = refl
  told_each facts (note ∷ notes) each =
      ap₂ (λ o l. map (troubled note.0) (option_to_list o) ++ l) (each note (contains_first note notes)) (told_each facts notes (λ other h. each other (contains_later note other notes h)))

  pub faults_are : (facts : List Fact) (notes : List Note) → Ascends trouble_key (map (λ note. note.0) notes) → HaveFirstLines met facts notes → map fault_of notes ≡ faults_by met facts
  faults_are facts notes ascends have =
      sym (told_each facts notes have.first)
      ∙ ap (flat_map (told_by met facts)) (ascending_one trouble_key (map (λ note. note.0) notes) (in_order trouble_key (flat_map met facts)) ascends (in_order-ascends trouble_key (flat_map met facts)) to from)
    where
      to : (t : Trouble) → Contains (map (λ note. note.0) notes) t → Contains (in_order trouble_key (flat_map met facts)) t
      to t h =
          let p = contains_map (λ (note : Note). note.0) notes t h in
          subst (Contains (in_order trouble_key (flat_map met facts))) p.2 (in_order-contains trouble_key trouble_key-IsKey (flat_map met facts) p.0.0 (among facts p.0.0 p.0.1 (have.first p.0 p.1)))

      from : (t : Trouble) → Contains (in_order trouble_key (flat_map met facts)) t → Contains (map (λ note. note.0) notes) t
      from t h = let r = have.all t (contains-in_order trouble_key (flat_map met facts) t h) in map_contains (λ (note : Note). note.0) notes (t, r.0) r.1

-- ---- the facts of reasons, one more

length_take : {X : Type 0} (xs : List X) (i : ℕ) → i < length xs → length (take i xs) ≡ i
length_take xs zero h = refl
length_take [] (suc i) h = absurd (omega (arith, h))
length_take (x ∷ xs) (suc i) h = ap suc (length_take xs i (omega (arith, h)))

abbrev facts_to : List Reason → ℕ → List Fact
facts_to reasons i = facts_of (reasons_view (take i reasons))

facts_more : (reasons : List Reason) (i : ℕ) (r : Reason) → i < length reasons → r ≡ get_or reasons i r → facts_to reasons (i + 1) ≡ facts_to reasons i ++ fact_view r.fact ∷ []
facts_more reasons i r within is =
    ap (λ l. facts_of (reasons_view l)) (take_more reasons i r within ∙ ap (λ x. take i reasons ++ x ∷ []) (sym is))
    ∙ ap facts_of (map-append reason_view (take i reasons) (r ∷ []))
    ∙ map-append (λ x. x.fact) (reasons_view (take i reasons)) (reason_view r ∷ [])

facts_length : (reasons : List Reason) (i : ℕ) → i < length reasons → i + 1 ≡ suc (length (facts_to reasons i))
facts_length reasons i within =
    let a = length-map (reasons_view (take i reasons)) (λ x. x.fact) in
    let b = length-map (take i reasons) reason_view in
    let d = length_take reasons i within in
    omega (arith, a, b, d)

pub noted_more : (o : Option Pages) (reasons : List Reason) (i n : ℕ) (r : Reason) (old new : List Note) → i < length reasons → r ≡ get_or reasons i r → n ≡ i + 1
    → IfSome o (λ pages. HaveFirstLines (met_on pages) (facts_to reasons i) old) → IfSome o (λ pages. IsNoted (met_on pages (fact_view r.fact)) n old new) → IfSome o (λ pages. HaveFirstLines (met_on pages) (facts_to reasons (i + 1)) new)
noted_more o reasons i n r old new within is line have step =
    of_both o have step (λ pages before more.
    subst (λ l. HaveFirstLines (met_on pages) l new) (sym (facts_more reasons i r within is))
    (more_met (met_on pages) (facts_to reasons i) (fact_view r.fact) old new before (subst (λ k. IsNoted (met_on pages (fact_view r.fact)) k old new) (line ∙ facts_length reasons i within) more)))

pub nothing_noted : (o : Option Pages) (es : List Entry) → es ≡ [] → IfSome o (λ pages. HaveFirstLines (met_on pages) [] (noted es))
nothing_noted o es none = of_each o (λ pages. subst (λ l. HaveFirstLines (met_on pages) [] (noted l)) (sym none) (nothing_met (met_on pages)))
