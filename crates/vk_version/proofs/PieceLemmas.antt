-- A text that is cut at its first plus, and what stands before it at its first hyphen.
use Rattle.std.proofs.Common.{◌≡◌, ◌==◌, ◌&&◌, ◌⊎◌, ◌≢◌, ℕ, Bool, true, false, List, [], ◌∷◌}
use Rattle.std.proofs.Common.{length, Option, Some, None, Result, Ok, Err, inl, inr, refl, ap, sym}
use Rattle.std.proofs.Common.{◌∙◌, arith}
use Rattle.std.specs.Prelude.{MatchOption, if◌then◌else◌}
use Rattle.std.specs.Borrow.{Bor}
use Rattle.std.specs.List.{list_any, before_first, after_first}
use Rattle.std.proofs.lemmas.Bool.{cases_Bool, and_from, and_right, eqb-true, lt-ltb}
use Rattle.semver.specs.Grammar.{is_pre_release, is_build}
use Rattle.semver.specs.Parse.{memory_error, only_identifier}
use Rattle.semver.specs.declared.error.Error.{Error}
use Rattle.semver.specs.declared.error.Position.TheVariants as place
use Rattle.semver.proofs.Grammar.{is_pre_release-only, is_build-only}
use Rattle.vk_base.specs.Stops.{fault_in, out_of_memory}
use Rattle.vk_base.specs.declared.stops.Unread.{Unread}
use Rattle.vk_base.specs.declared.stops.Unread.TheVariants as unread
use Rattle.vk_spec.specs.Reading.{Fails}
use Rattle.vk_version.specs.declared.faults.VersionFault.{VersionFault}
use Rattle.vk_version.specs.declared.faults.VersionFault.TheVariants as fault
use Rattle.vk_version.specs.Schemes as the
use Rattle.vk_version.specs.Readings.{fault_unless, reads_version, unless}
use Rattle.vk_version.specs.Steps.{IsCut, fits_if, passes, reads_form, shape_if, text_in}
use Rattle.vk_version.specs.Texts.{begins_tail, is_dotted, is_relaxed, all_fit, numbers_in, core_of}
use Rattle.vk_version.specs.Texts.{tail_of, pre_in, is_plus, is_pre, is_metadata, is_tail}
use Rattle.vk_version.specs.Texts.{may_have_metadata}
use Rattle.vk_version.proofs.CutLemmas.{nothing_cut, later}

-- ---- where the cuts are

abbrev is_hyphen : ℕ → Bool
is_hyphen b = b == 45

abbrev front_of : List ℕ → List ℕ
front_of text = before_first is_plus text

not_begun : (b : ℕ) → (b == 45) ≡ false → (b == 43) ≡ false → begins_tail b ≡ false
not_begun b hyphen plus = rw (hyphen, plus) refl

front_core : (text : List ℕ) → before_first is_hyphen (front_of text) ≡ core_of text
front_core [] = refl
front_core (b ∷ rest) =
    elim (cases_Bool (b == 45)) [
      | inl hyphen ↦
          rw (eqb-true b 45 hyphen)
          (ap (λ xs. before_first is_hyphen xs) (later is_plus 45 rest refl).before)
      | inr other ↦ elim (cases_Bool (b == 43)) [
        | inl plus ↦ rw (eqb-true b 43 plus) refl
        | inr more ↦
            ap (λ xs. before_first is_hyphen xs) (later is_plus b rest more).before
            ∙ (later is_hyphen b (front_of rest) other).before
            ∙ ap (λ xs. b ∷ xs) (front_core rest)
            ∙ sym (later begins_tail b rest (not_begun b other more)).before
      ]
    ]

front_pre : (text : List ℕ) → after_first is_hyphen (front_of text) ≡ pre_in (tail_of text)
front_pre [] = refl
front_pre (b ∷ rest) =
    elim (cases_Bool (b == 45)) [
      | inl hyphen ↦
          rw (eqb-true b 45 hyphen)
          (ap (λ xs. after_first is_hyphen xs) (later is_plus 45 rest refl).before)
      | inr other ↦ elim (cases_Bool (b == 43)) [
        | inl plus ↦ rw (eqb-true b 43 plus) refl
        | inr more ↦
            ap (λ xs. after_first is_hyphen xs) (later is_plus b rest more).before
            ∙ (later is_hyphen b (front_of rest) other).after
            ∙ front_pre rest
            ∙ ap pre_in (sym (later begins_tail b rest (not_begun b other more)).from_there)
      ]
    ]

-- what stands behind a mark passes, if the mark is there
abbrev pub behind : (List ℕ → Bool) → (ℕ → Bool) → List ℕ → Bool
behind test p xs = if list_any p xs then test (after_first p xs) else true

pub behind_later : (test : List ℕ → Bool) (p : ℕ → Bool) (x : ℕ) (xs : List ℕ) → p x ≡ false
    → behind test p (x ∷ xs) ≡ behind test p xs
behind_later test p x xs other =
    let any : list_any p (x ∷ xs) ≡ list_any p xs = rw other refl in
    ap (λ b. if b then test (after_first p (x ∷ xs)) else true) any
    ∙ ap (λ r. if list_any p xs then test r else true) (later p x xs other).after

front_tail : (text : List ℕ)
    → is_tail (tail_of text) ≡ (behind is_pre is_hyphen (front_of text) && may_have_metadata text)
front_tail [] = refl
front_tail (b ∷ rest) =
    elim (cases_Bool (b == 45)) [
      | inl hyphen ↦ rw (eqb-true b 45 hyphen)
          (ap (λ m. is_pre (front_of rest) && m)
          (sym (behind_later is_metadata is_plus 45 rest refl))
          ∙ ap (λ xs. behind is_pre is_hyphen xs && may_have_metadata (45 ∷ rest))
          (sym (later is_plus 45 rest refl).before))
      | inr other ↦ elim (cases_Bool (b == 43)) [
        | inl plus ↦ rw (eqb-true b 43 plus) refl
        | inr more ↦
            ap is_tail (later begins_tail b rest (not_begun b other more)).from_there
            ∙ front_tail rest
            ∙ ap (λ m. behind is_pre is_hyphen (front_of rest) && m)
            (sym (behind_later is_metadata is_plus b rest more))
            ∙ ap (λ h. h && may_have_metadata (b ∷ rest))
            (sym (behind_later is_pre is_hyphen b (front_of rest) other))
            ∙ ap (λ xs. behind is_pre is_hyphen xs && may_have_metadata (b ∷ rest))
            (sym (later is_plus b rest more).before)
      ]
    ]

-- ---- what is behind a mark

abbrev IsAfter : (ℕ → Bool) → List ℕ → Option (Bor (List ℕ)) → Type 0
IsAfter p xs rest =
    MatchOption rest (list_any p xs ≡ false)
    (λ r. (list_any p xs ≡ true) × (r.now ≡ after_first p xs))

after_passes : (test : List ℕ → Bool) (p : ℕ → Bool) (xs : List ℕ) (rest : Option (Bor (List ℕ)))
    → IsAfter p xs rest
    → passes test rest ≡ behind test p xs
after_passes test p xs None none = rw none refl
after_passes test p xs (Some r) there = rw (there.0, there.1) refl

after_text : (p : ℕ → Bool) (xs : List ℕ) (rest : Option (Bor (List ℕ))) → IsAfter p xs rest
    → text_in rest ≡ after_first p xs
after_text p xs None none = sym (nothing_cut p xs none).2
after_text p xs (Some r) there = there.1

pub cut_is : (text front core : List ℕ) (pre build : Option (Bor (List ℕ))) → front ≡ front_of text
    → core ≡ before_first is_hyphen front
    → IsAfter is_hyphen front pre → IsAfter is_plus text build → IsCut text core pre build
cut_is text front core pre build f c p b = record {
  core = c ∙ ap (λ xs. before_first is_hyphen xs) f ∙ front_core text;
  pre_release = after_text is_hyphen front pre p ∙ ap (λ xs. after_first is_hyphen xs) f
      ∙ front_pre text;
  tail = front_tail text
      ∙ ap (λ xs. behind is_pre is_hyphen xs && may_have_metadata text) (sym f)
      ∙ ap (λ holds. holds && may_have_metadata text)
      (sym (after_passes is_pre is_hyphen front pre p))
      ∙ ap (λ holds. passes is_pre pre && holds)
      (sym (after_passes is_metadata is_plus text build b));
}

-- ---- what the standard's reader says

pub some_pre : (b : ℕ) (rest : List ℕ) → is_pre_release (b ∷ rest) ≡ true → is_pre (b ∷ rest) ≡ true
some_pre b rest e = and_from _ _ (lt-ltb 0 _ (omega arith)) e

pub some_metadata : (b : ℕ) (rest : List ℕ) → is_build (b ∷ rest) ≡ true
    → is_metadata (b ∷ rest) ≡ true
some_metadata b rest e = and_from _ _ (lt-ltb 0 _ (omega arith)) e

pub pre_there : (text : List ℕ) → (length text == 0) ≡ false → is_pre_release text ≡ true
    → is_pre text ≡ true
pre_there [] none e = (cc)
pre_there (b ∷ rest) some e = some_pre b rest e

pub metadata_there : (text : List ℕ) → (length text == 0) ≡ false → is_build text ≡ true
    → is_metadata text ≡ true
metadata_there [] none e = (cc)
metadata_there (b ∷ rest) some e = some_metadata b rest e

pub no_pre : (text : List ℕ) (e : Error) → only_identifier place.Pre text ≡ Err e
    → is_pre text ≡ false
no_pre text e read =
    elim (cases_Bool (is_pre_release text)) [
      | inl holds ↦ (let clash = sym (is_pre_release-only text holds) ∙ read in (cc))
      | inr other ↦ and_right _ (is_pre_release text) other
    ]

pub no_metadata : (text : List ℕ) (e : Error) → only_identifier place.Build text ≡ Err e
    → is_metadata text ≡ false
no_metadata text e read =
    elim (cases_Bool (is_build text)) [
      | inl holds ↦ (let clash = sym (is_build-only text holds) ∙ read in (cc))
      | inr other ↦ and_right _ (is_build text) other
    ]

-- the reader's error is told as the text's fault, unless memory ran out
abbrev IsTold : Unread VersionFault → Error → Type 0
IsTold told e = ((told ≡ unread.Memory out_of_memory) × (e ≡ memory_error))
    ⊎ ((told ≡ unread.Fault fault.Shape) × (e ≢ memory_error))

pub told_fails : {A : Type 0} (told : Unread VersionFault) (e : Error)
    (read : Result (List ℕ) Error) (holds : Bool) (x : A) → IsTold told e
    → (e ≡ memory_error) ⊎ (read ≡ Err e) → (read ≡ Err e → holds ≡ false)
    → Fails (fault_in told) (unless (fault_unless fault.Shape holds) x)
told_fails told e read holds x (inl memory) err wrong = rw memory.0 tt
told_fails told e read holds x (inr shape) (inl memory) wrong = absurd (shape.1 memory)
told_fails told e read holds x (inr shape) (inr refused) wrong = rw (shape.0, wrong refused) refl

-- ---- one test after the other

-- where one test fails the whole fails
pub fails_whole : {A B : Type 0} (told : Option VersionFault) (holds whole : Bool) (x : A) (y : B)
    → (holds ≡ false → whole ≡ false)
    → Fails told (unless (fault_unless fault.Shape holds) x)
    → Fails told (unless (fault_unless fault.Shape whole) y)
fails_whole None holds whole x y more f = tt
fails_whole (Some e) true whole x y more f = (cc)
fails_whole (Some e) false whole x y more f =
    rw (more refl) (let same : fault.Shape ≡ e = cc in ap Err same)

pub holds_where : {A : Type 0} (holds : Bool) (x y : A)
    → unless (fault_unless fault.Shape holds) x ≡ Ok y → (holds ≡ true) × (x ≡ y)
holds_where true x y e = (refl, (cc))
holds_where false x y e = (cc)

-- ---- a text of the relaxed scheme

pub no_metadata_whole : (text core : List ℕ) (pre build : Option (Bor (List ℕ)))
    → IsCut text core pre build → passes is_metadata build ≡ false → is_relaxed text ≡ false
no_metadata_whole text core pre build cut missing =
    and_right (is_dotted (core_of text)) _ (cut.tail ∙ and_right (passes is_pre pre) _ missing)

pub form_read : (text core : List ℕ) (pre build : Option (Bor (List ℕ))) (read : List ℕ)
    → IsCut text core pre build → shape_if (is_dotted core) ≡ Ok tt
    → shape_if (passes is_metadata build) ≡ Ok tt
    → unless (fault_unless fault.Shape (passes is_pre pre)) (text_in pre) ≡ Ok read
    → reads_form text ≡ Ok (core, read)
form_read text core pre build read cut d m r =
    let dotted : is_dotted (core_of text) ≡ true = ap is_dotted (sym cut.core)
    ∙ (holds_where _ _ _ d).0 in
    let behind_pre = holds_where _ _ _ r in
    let tail : is_tail (tail_of text) ≡ true = cut.tail
    ∙ and_from _ _ behind_pre.0 (holds_where _ _ _ m).0 in
    let same = sym cut.core in
    let same_pre = sym cut.pre_release ∙ behind_pre.1 in
    rw (dotted, tail) (ap Ok (λ i. (same i, same_pre i)))

-- what is known of a text whose form was read
pub record IsForm (text front read : List ℕ) : Type 0 where
  pub form : is_relaxed text ≡ true
  pub core : core_of text ≡ front
  pub pre_release : pre_in (tail_of text) ≡ read

pub form_known : (text core read : List ℕ) → reads_form text ≡ Ok (core, read)
    → IsForm text core read
form_known text core read e =
    let h = holds_where _ _ _ e in
    record {
      form =
          h.0;
      core =
          ap (λ (x : List ℕ × List ℕ). x.0) h.1;
      pre_release = ap (λ (x : List ℕ × List ℕ). x.1) h.1;
    }

pub form_fails : (told : Option VersionFault) (text : List ℕ) (port : ℕ)
    → Fails told (reads_form text) → Fails told (reads_version the.relaxed text port)
form_fails None text port f = tt
form_fails (Some e) text port f =
    elim (cases_Bool (is_relaxed text)) [
      | inl form ↦ (let clash = rw form at f in (cc))
      | inr other ↦ rw other (let same = rw other at f in cc)
    ]

pub numbers_fail : (told : Option VersionFault) (text : List ℕ) (port : ℕ) → is_relaxed text ≡ true
    → Fails told (fits_if (all_fit (numbers_in (core_of text))))
    → Fails told (reads_version the.relaxed text port)
numbers_fail None text port form f = tt
numbers_fail (Some e) text port form f =
    elim (cases_Bool (all_fit (numbers_in (core_of text)))) [
      | inl fit ↦ (let clash = rw fit at f in (cc))
      | inr large ↦ rw (form, large) (let same = rw large at f in cc)
    ]
