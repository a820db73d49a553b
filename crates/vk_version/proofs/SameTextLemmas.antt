-- Two dates with the same day and numbers have the same text.
use Rattle.std.proofs.Common.{◌≡◌, ◌<◌, ◌≤◌, ◌+◌, ◌*◌, ◌-◌, ◌^◌, ◌==◌, ◌++◌, ℕ, true}
use Rattle.std.proofs.Common.{List, [], ◌∷◌, length, map, take, drop, get_or, Option, Some, None}
use Rattle.std.proofs.Common.{Ok, inl, inr, refl, ap, sym, ◌∙◌, arith}
use Rattle.std.specs.Prelude.{slice_range, nat_lt}
use Rattle.std.specs.Char.{is_ascii_digit, digit_value}
use Rattle.std.specs.List.{list_all, list_any}
use Rattle.std.specs.Fmt.{decimal}
use Rattle.std.specs.Str.Parse.{digits_value_after}
use Rattle.std.proofs.Common.{length-drop}
use Rattle.std.proofs.lemmas.List.{drop_more, drop-drop, take-append-drop, take_all}
use Rattle.std.proofs.lemmas.Bool.{cases_Bool, and_parts, eqb-true, ltb-true}
use Rattle.std.proofs.lemmas.Bool.Decides.{nat_tests}
use Rattle.semver.specs.Order.{parts}
use Rattle.semver.specs.OrderLaws.{join_dots, join-parts}
use Rattle.vk_spec.specs.Versions.{Version}
use Rattle.vk_spec.specs.Versions as plain
use Rattle.vk_version.specs.declared.faults.VersionFault.{VersionFault}
use Rattle.vk_version.specs.Schemes.{Scheme}
use Rattle.vk_version.specs.Schemes as the
use Rattle.vk_version.specs.Texts.{is_number, number_of, all_fit, are_digits, is_day}
use Rattle.vk_version.specs.Texts.{numbers_of_day, first_part, later_parts, later_numbers, day_of}
use Rattle.vk_version.specs.Texts.{is_dated, has_day}
use Rattle.vk_version.specs.Readings.{IsVersion, reads_version, unless, fault_under}
use Rattle.vk_version.proofs.DigitLemmas.{number_digits}
use Rattle.vk_version.proofs.CutLemmas.{uncut, cut_at}

-- ---- numbers

digit_is : (c : ℕ) → is_ascii_digit c ≡ true → (digit_value c ≡ c - 48) × (48 ≤ c) × (c ≤ 57)
digit_is c e = (grind (arith, nat_tests), grind (arith, nat_tests), grind (arith, nat_tests))

-- as many digits that say the same after the same
same_digits : (m n : ℕ) (ds es : List ℕ) → list_all is_ascii_digit ds ≡ true
    → list_all is_ascii_digit es ≡ true → length ds ≡ length es
    → digits_value_after 10 m ds ≡ digits_value_after 10 n es → (m ≡ n) × (ds ≡ es)
same_digits m n [] [] p q l e = (e, refl)
same_digits m n [] (d ∷ es) p q l e = absurd (omega arith)
same_digits m n (c ∷ ds) [] p q l e = absurd (omega arith)
same_digits m n (c ∷ ds) (d ∷ es) p q l e =
    let ps = and_parts (is_ascii_digit c) (list_all is_ascii_digit ds) p in
    let qs = and_parts (is_ascii_digit d) (list_all is_ascii_digit es) q in
    let ih =
    same_digits (m * 10 + digit_value c) (n * 10 + digit_value d) ds es ps.1 qs.1
    (omega arith) e in
    let dc = digit_is c ps.0 in
    let dd = digit_is d qs.0 in
    let step : m * 10 + (c - 48) ≡ n * 10 + (d - 48) = rw (← dc.0, ← dd.0) ih.0 in
    let front : m ≡ n = omega arith in
    let head : c ≡ d = omega arith in
    (front, rw (head, ih.1) refl)

pub same_number : (p q : List ℕ) → is_number p ≡ true → is_number q ≡ true
    → nat_lt (number_of p) (2 ^ 64) ≡ true → number_of p ≡ number_of q → p ≡ q
same_number p q e f fit same =
    let small : number_of p < 2 ^ 64 = ltb-true _ _ fit in
    sym (number_digits p e small) ∙ ap decimal same ∙ number_digits q f (rw same at small)

same_numbers : (ps qs : List (List ℕ)) → list_all is_number ps ≡ true → list_all is_number qs ≡ true
    → all_fit (map number_of ps) ≡ true → map number_of ps ≡ map number_of qs → ps ≡ qs
same_numbers [] [] e f fit same = refl
same_numbers [] (q ∷ qs) e f fit same = (cc)
same_numbers (p ∷ ps) [] e f fit same = (cc)
same_numbers (p ∷ ps) (q ∷ qs) e f fit same =
    let es = and_parts (is_number p) (list_all is_number ps) e in
    let fs = and_parts (is_number q) (list_all is_number qs) f in
    let fits = and_parts (nat_lt (number_of p) (2 ^ 64)) (all_fit (map number_of ps)) fit in
    let first : number_of p ≡ number_of q = cc same in
    let later : map number_of ps ≡ map number_of qs = cc same in
    rw (same_number p q es.0 fs.0 fits.0 first, same_numbers ps qs es.1 fs.1 fits.1 later) refl

-- ---- days

-- ten bytes, from the pieces that are read
rebuilt : (t : List ℕ) → length t ≡ 10 → t ≡ slice_range t 0 4
    ++ (get_or t 4 0 ∷ (slice_range t 5 7 ++ (get_or t 7 0 ∷ slice_range t 8 10)))
rebuilt t ten =
    let a : drop 4 t ≡ get_or t 4 0 ∷ drop 5 t = drop_more t 4 0 (omega arith) in
    let b : drop 5 t ≡ take 2 (drop 5 t) ++ drop 7 t =
    sym (rw drop-drop at (take-append-drop 2 (drop 5 t))) in
    let c : drop 7 t ≡ get_or t 7 0 ∷ drop 8 t = drop_more t 7 0 (omega arith) in
    let d : drop 8 t ≡ take 2 (drop 8 t) =
    sym (take_all 2 (drop 8 t) (rw length-drop (omega arith))) in
    sym (take-append-drop 4 t)
    ∙ ap (λ r. take 4 t ++ r)
    (a ∙ ap (λ r. get_or t 4 0 ∷ r)
    (b ∙ ap (λ r. take 2 (drop 5 t) ++ r) (c ∙ ap (λ r. get_or t 7 0 ∷ r) d)))

same_pieces : (a b c x y z : List ℕ) (h k m n : ℕ) → a ≡ x → h ≡ m → b ≡ y → k ≡ n → c ≡ z → a
    ++ (h ∷ (b ++ (k ∷ c))) ≡ x ++ (m ∷ (y ++ (n ∷ z)))
same_pieces a b c x y z h k m n e f g i j = rw (e, f, g, i, j) refl

pub record IsDay (t : List ℕ) : Type 0 where
  pub ten : length t ≡ 10
  pub first_hyphen : get_or t 4 0 ≡ 45
  pub second_hyphen : get_or t 7 0 ≡ 45
  pub year : are_digits 4 (slice_range t 0 4) ≡ true
  pub month : are_digits 2 (slice_range t 5 7) ≡ true
  pub day : are_digits 2 (slice_range t 8 10) ≡ true

pub day_form : (t : List ℕ) → is_day t ≡ true → IsDay t
day_form t e =
    let f = and_parts _ (are_digits 2 (slice_range t 8 10)) e in
    let m = and_parts _ (are_digits 2 (slice_range t 5 7)) f.0 in
    let y = and_parts _ (are_digits 4 (slice_range t 0 4)) m.0 in
    let h = and_parts _ (get_or t 7 0 == 45) y.0 in
    let g = and_parts (length t == 10) (get_or t 4 0 == 45) h.0 in
    record {
      ten = eqb-true _ _ g.0;
      first_hyphen = eqb-true _ _ g.1;
      second_hyphen = eqb-true _ _ h.1;
      year = y.1;
      month = m.1;
      day = f.1;
    }

same_field : (n : ℕ) (ds es : List ℕ) → are_digits n ds ≡ true → are_digits n es ≡ true
    → number_of ds ≡ number_of es → ds ≡ es
same_field n ds es p q same =
    let ps = and_parts (length ds == n) (list_all is_ascii_digit ds) p in
    let qs = and_parts (length es == n) (list_all is_ascii_digit es) q in
    let l : length ds ≡ length es = eqb-true _ _ ps.0 ∙ sym (eqb-true _ _ qs.0) in
    (same_digits 0 0 ds es ps.1 qs.1 l same).1

same_three : (a b c x y z : ℕ) → ◌≡◌ {A = List ℕ} (a ∷ b ∷ c ∷ []) (x ∷ y ∷ z ∷ []) → (a ≡ x)
    × (b ≡ y) × (c ≡ z)
same_three a b c x y z e = ((cc), (cc), (cc))

same_day : (t u : List ℕ) → is_day t ≡ true → is_day u ≡ true → numbers_of_day t ≡ numbers_of_day u
    → t ≡ u
same_day t u et eu same =
    let p = day_form t et in
    let q = day_form u eu in
    let three = same_three _ _ _ _ _ _ same in
    let y = same_field 4 (slice_range t 0 4) (slice_range u 0 4) p.year q.year three.0 in
    let m = same_field 2 (slice_range t 5 7) (slice_range u 5 7) p.month q.month three.1 in
    let d = same_field 2 (slice_range t 8 10) (slice_range u 8 10) p.day q.day three.2 in
    let h : get_or t 4 0 ≡ get_or u 4 0 = p.first_hyphen ∙ sym q.first_hyphen in
    let k : get_or t 7 0 ≡ get_or u 7 0 = p.second_hyphen ∙ sym q.second_hyphen in
    rebuilt t p.ten ∙ same_pieces _ _ _ _ _ _ _ _ _ _ y h m k d ∙ sym (rebuilt u q.ten)

-- ---- texts

parts_cut : (t : List ℕ) → parts t ≡ first_part t ∷ later_parts t
parts_cut t =
    elim (cases_Bool (list_any (λ b. b == 46) t)) [
      | inl dot ↦ rw (cut_at (λ b. b == 46) t 0 dot) refl
      | inr none ↦ rw (uncut (λ b. b == 46) t none) refl
    ]

pub same_text : (t u : List ℕ) → is_dated t ≡ true → is_dated u ≡ true
    → all_fit (later_numbers t) ≡ true → day_of t ≡ day_of u → later_numbers t ≡ later_numbers u
    → t ≡ u
same_text t u dt du fit days later =
    let p = and_parts (is_day (first_part t)) (list_all is_number (later_parts t)) dt in
    let q = and_parts (is_day (first_part u)) (list_all is_number (later_parts u)) du in
    let front = same_day (first_part t) (first_part u) p.0 q.0 days in
    let back = same_numbers (later_parts t) (later_parts u) p.1 q.1 fit later in
    let same : parts t ≡ parts u = parts_cut t ∙ rw (front, back) refl ∙ sym (parts_cut u) in
    sym (join-parts t) ∙ ap join_dots same ∙ join-parts u

-- ---- versions

reads_Ok : (fault : Option VersionFault) (v w : Version) → unless fault v ≡ Ok w → (fault ≡ None)
    × (v ≡ w)
reads_Ok None v w e = (refl, (cc))
reads_Ok (Some fault) v w e = (cc)

abbrev IsSound : List ℕ → Type 0
IsSound text = (is_dated text ≡ true) × (all_fit (later_numbers text) ≡ true)

sound : (text : List ℕ) → fault_under the.date text ≡ None → IsSound text
sound text e =
    elim (cases_Bool (is_dated text)) [
      | inl dated ↦ elim (cases_Bool (has_day (day_of text))) [
        | inl known ↦ elim (cases_Bool (all_fit (later_numbers text))) [
          | inl fit ↦ (dated, fit)
          | inr large ↦ (let clash = rw (dated, known, large) at e in (cc))
        ]
        | inr unknown ↦ (let clash = rw (dated, unknown) at e in (cc))
      ]
      | inr other ↦ (let clash = rw other at e in (cc))
    ]

date_by : (scheme : Scheme) (v : Version) → reads_version scheme v.text v.port ≡ Ok v
    → v.class ≡ plain.date → IsSound v.text
date_by the.relaxed v e c =
    let r =
    reads_Ok (fault_under the.relaxed v.text) _ v e in let clash : plain.dot ≡ plain.date =
    ap (λ (w : Version). w.class) r.1 ∙ c in (cc)
date_by the.semver v e c =
    let r =
    reads_Ok (fault_under the.semver v.text) _ v e in let clash : plain.dot ≡ plain.date =
    ap (λ (w : Version). w.class) r.1 ∙ c in (cc)
date_by the.string v e c =
    let r =
    reads_Ok (fault_under the.string v.text) _ v e in let clash : plain.text ≡ plain.date =
    ap (λ (w : Version). w.class) r.1 ∙ c in (cc)
date_by the.date v e c = let r = reads_Ok (fault_under the.date v.text) _ v e in sound v.text r.0

pub same_dates : (v w : Version) → IsVersion v → IsVersion w → v.class ≡ plain.date
    → w.class ≡ plain.date → day_of v.text ≡ day_of w.text
    → later_numbers v.text ≡ later_numbers w.text → v.text ≡ w.text
same_dates v w iv iw c d days later =
    let p = date_by iv.scheme v iv.reads c in
    let q = date_by iw.scheme w iw.reads d in
    same_text v.text w.text p.0 q.0 p.1 days later
