-- A text of the relaxed scheme is put together of numbers, a pre-release and build metadata.
use Rattle.std.proofs.Common.{◌≡◌, ◌==◌, ◌++◌, ◌+◌, ◌↔◌, ℕ, true, false, List, [], ◌∷◌, length}
use Rattle.std.proofs.Common.{Some, Result, Ok, Err, inl, inr, refl, ap, sym, ◌∙◌, append-nil}
use Rattle.std.proofs.Common.{length-append, append_assoc, get_or, subst, drop, arith}
use Rattle.std.specs.Prelude.{if◌then◌else◌, nat_lt}
use Rattle.std.specs.List.{list_any, position_or_len, before_first, after_first}
use Rattle.std.proofs.lemmas.Bool.{cases_Bool, and_parts, and_from, eqb-true, lt-ltb, le-ltb}
use Rattle.std.proofs.lemmas.List.{drop_all, drop_at, take-append-drop}
use Rattle.std.proofs.lemmas.List.Sums.{split_at_first, passes_at_first}
use Rattle.semver.specs.Grammar.{is_pre_release, is_build, is_identifier_byte}
use Rattle.semver.specs.Identifiers.{marked}
use Rattle.semver.specs.Order.{parts}
use Rattle.semver.specs.Parse.{Parts, version_parts}
use Rattle.semver.specs.declared.error.Error.{Error}
use Rattle.vk_spec.specs.Versions.{Version}
use Rattle.vk_version.specs.declared.faults.VersionFault.TheVariants as fault
use Rattle.vk_version.specs.Schemes as the
use Rattle.vk_version.specs.Readings.{fault_under, fault_unless, reads_version}
use Rattle.vk_version.specs.Texts.{IsWritten, IsPutTogether, is_dotted, is_relaxed, numbers_in}
use Rattle.vk_version.specs.Texts.{all_fit, begins_tail, is_plus, is_pre, is_metadata, is_tail}
use Rattle.vk_version.specs.Texts.{may_have_metadata, core_of, tail_of, pre_in, build_in}
use Rattle.vk_version.proofs.CutLemmas.{any_at, any_within, later, one_passes, nothing_cut}
use Rattle.vk_version.proofs.PieceLemmas.{some_pre, some_metadata}
use Rattle.vk_version.proofs.RefusedLemmas.{semver_dotted}
use Rattle.vk_version.proofs.TailLemmas.{none_in, numbers_digits, first_after, build_begins}
use Rattle.vk_version.proofs.TailLemmas.{identifier_no_plus, identifier_bytes, tail_pre, cut_there}
use Rattle.vk_version.proofs.TailLemmas.{semver_cut, semver_numbers}

-- ---- from the parts to the text

-- the plus of build metadata stands behind a pre-release
plus_at : (x : ℕ) (r build : List ℕ) → is_pre_release (x ∷ r) ≡ true
    → position_or_len is_plus ((x ∷ r) ++ marked 43 build) ≡ length (x ∷ r)
plus_at x r build e =
    let whole =
    none_in is_identifier_byte is_plus identifier_no_plus refl (x ∷ r)
    (identifier_bytes (parts (x ∷ r)) e) in
    first_after is_plus (x ∷ r) (marked 43 build) whole (build_begins build)

after_mark : (front build : List ℕ)
    → position_or_len is_plus (front ++ marked 43 build) ≡ length front
    → after_first is_plus (front ++ marked 43 build) ≡ build
after_mark front [] at = drop_all _ (front ++ []) (rw length-append (omega (arith, at)))
after_mark front (y ∷ ys) at =
    let whole : (front ++ 43 ∷ []) ++ (y ∷ ys) ≡ front ++ 43 ∷ y ∷ ys =
    append_assoc front (43 ∷ []) (y ∷ ys) in
    let long : length (front ++ 43 ∷ []) ≡ position_or_len is_plus (front ++ 43 ∷ y ∷ ys) + 1 =
    (rw length-append (omega (arith, at))) in
    ap (λ xs. drop (position_or_len is_plus (front ++ 43 ∷ y ∷ ys) + 1) xs) (sym whole)
    ∙ drop_at (front ++ 43 ∷ []) (y ∷ ys) _ long

any_mark : (front : List ℕ) (y : ℕ) (ys : List ℕ)
    → position_or_len is_plus (front ++ 43 ∷ y ∷ ys) ≡ length front
    → list_any is_plus (front ++ 43 ∷ y ∷ ys) ≡ true
any_mark front y ys at =
    one_passes is_plus (front ++ 43 ∷ y ∷ ys) (rw length-append (omega (arith, at)))

no_mark : (front : List ℕ) → position_or_len is_plus (front ++ []) ≡ length front
    → list_any is_plus (front ++ []) ≡ false
no_mark front at = any_at is_plus (front ++ []) ∙ le-ltb _ _ (rw length-append (omega (arith, at)))

metadata_behind : (front build : List ℕ)
    → position_or_len is_plus (front ++ marked 43 build) ≡ length front → is_build build ≡ true
    → may_have_metadata (front ++ marked 43 build) ≡ true
metadata_behind front [] at e =
    ap (λ b. if b then is_metadata (after_first is_plus (front ++ [])) else true) (no_mark front at)
metadata_behind front (y ∷ ys) at e =
    ap (λ b. if b then is_metadata (after_first is_plus (front ++ 43 ∷ y ∷ ys)) else true)
    (any_mark front y ys at)
    ∙ ap is_metadata (after_mark front (y ∷ ys) at) ∙ some_metadata y ys e

tail_fits : (pre build : List ℕ) → is_pre_release pre ≡ true → is_build build ≡ true
    → is_tail (marked 45 pre ++ marked 43 build) ≡ true
tail_fits [] [] e f = refl
tail_fits [] (y ∷ ys) e f = some_metadata y ys f
tail_fits (x ∷ r) build e f =
    and_from _ _ (ap is_pre (tail_pre (x ∷ r) build e) ∙ some_pre x r e)
    (metadata_behind (x ∷ r) build (plus_at x r build e) f)

tail_build : (pre build : List ℕ) → is_pre_release pre ≡ true
    → build_in (marked 45 pre ++ marked 43 build) ≡ build
tail_build [] [] e = refl
tail_build [] (y ∷ ys) e = refl
tail_build (x ∷ r) build e = (later is_plus 45 ((x ∷ r) ++ marked 43 build) refl).after
    ∙ after_mark (x ∷ r) build (plus_at x r build e)

pub written_parts : (text core pre build : List ℕ) → IsWritten text core pre build
    → (core_of text ≡ core) × (pre_in (tail_of text) ≡ pre) × (build_in (tail_of text) ≡ build)
written_parts text core pre build w =
    let cut = cut_there core pre build (numbers_digits (parts core) w.numbers) in
    rw w.whole (
      cut.front,
      ap pre_in cut.tail
          ∙ tail_pre pre build w.pre_release,
      ap build_in cut.tail
          ∙ tail_build pre build w.pre_release,
    )

put_together : (text : List ℕ) → IsPutTogether text → is_relaxed text ≡ true
put_together text p =
    let w = p.written in
    let cut = cut_there p.core p.pre p.build (numbers_digits (parts p.core) w.numbers) in
    rw (w.whole, cut.front, cut.tail, w.numbers) (tail_fits p.pre p.build w.pre_release w.metadata)

-- ---- from the text to the parts

-- what is there stands after its mark
marked_some : (mark : ℕ) (xs : List ℕ) → nat_lt 0 (length xs) ≡ true → mark ∷ xs ≡ marked mark xs
marked_some mark [] none = (cc)
marked_some mark (x ∷ xs) some = refl

-- a pre-release and build metadata with their marks
pub record IsWhole (tail pre build : List ℕ) : Type 0 where
  pub whole : tail ≡ marked 45 pre ++ marked 43 build
  pub pre_release : is_pre_release pre ≡ true
  pub metadata : is_build build ≡ true

after_hyphen : (rest : List ℕ) → is_pre (before_first is_plus rest) ≡ true
    → may_have_metadata rest ≡ true
    → IsWhole (45 ∷ rest) (before_first is_plus rest) (after_first is_plus rest)
after_hyphen rest p m =
    let some =
    and_parts (nat_lt 0 (length (before_first is_plus rest)))
    (is_pre_release (before_first is_plus rest)) p in
    let pre = marked_some 45 (before_first is_plus rest) some.0 in
    elim (cases_Bool (list_any is_plus rest)) [
      | inl there ↦
          let at = any_within is_plus rest there in
          let metadata : is_metadata (after_first is_plus rest) ≡ true = rw there at m in
          let both =
          and_parts (nat_lt 0 (length (after_first is_plus rest)))
          (is_build (after_first is_plus rest)) metadata in
          let split = split_at_first is_plus rest 0 at in
          let plus : get_or rest (position_or_len is_plus rest) 0 ≡ 43 =
          eqb-true _ 43 (passes_at_first is_plus rest 0 at) in
          record {
            whole = ap (λ xs. 45 ∷ xs) split
                ∙ ap (λ b. 45 ∷ (before_first is_plus rest ++ b ∷ after_first is_plus rest)) plus
                ∙ ap (λ xs. xs ++ 43 ∷ after_first is_plus rest) pre
                ∙ ap (λ xs. marked 45 (before_first is_plus rest) ++ xs)
                (marked_some 43 (after_first is_plus rest) both.0);
            pre_release = some.1;
            metadata = both.1;
          }
      | inr none ↦
          let cut = nothing_cut is_plus rest none in
          record {
            whole = ap (λ xs. 45 ∷ xs) (sym cut.0) ∙ pre
                ∙ sym (append-nil (marked 45 (before_first is_plus rest)))
                ∙ ap (λ xs. marked 45 (before_first is_plus rest) ++ marked 43 xs) (sym cut.2);
            pre_release = some.1;
            metadata = ap is_build cut.2;
          }
    ]

tail_whole : (tail : List ℕ) → is_tail tail ≡ true → IsWhole tail (pre_in tail) (build_in tail)
tail_whole [] e = record { whole = refl; pre_release = refl; metadata = refl }
tail_whole (b ∷ rest) e =
    elim (cases_Bool (b == 45)) [
      | inl hyphen ↦
          let both =
          and_parts (is_pre (before_first is_plus rest)) (may_have_metadata rest)
          (rw hyphen at e) in
          rw (eqb-true b 45 hyphen)
          (subst (λ build. IsWhole (45 ∷ rest) (before_first is_plus rest) build)
          (sym (later is_plus 45 rest refl).after) (after_hyphen rest both.0 both.1))
      | inr other ↦
          let both = and_parts (b == 43) (is_metadata rest) (rw other at e) in
          let some = and_parts (nat_lt 0 (length rest)) (is_build rest) both.1 in
          rw (eqb-true b 43 both.0)
          (record { whole = marked_some 43 rest some.0; pre_release = refl; metadata = some.1 })
    ]

pub relaxed_parts : (text : List ℕ) → is_relaxed text ≡ true
    → IsWritten text (core_of text) (pre_in (tail_of text)) (build_in (tail_of text))
relaxed_parts text e =
    let both = and_parts (is_dotted (core_of text)) (is_tail (tail_of text)) e in
    let t = tail_whole (tail_of text) both.1 in
    record {
      whole = sym (take-append-drop (position_or_len begins_tail text) text)
          ∙ ap (λ r. core_of text ++ r) t.whole;
      numbers = both.0;
      pre_release = t.pre_release;
      metadata = t.metadata;
    }

pub relaxed_form : (text : List ℕ) → (is_relaxed text ≡ true) ↔ IsPutTogether text
relaxed_form text = (
  (λ e. record {
    core =
        core_of text;
    pre =
        pre_in (tail_of text);
    build = build_in (tail_of text);
    written = relaxed_parts text e;
  }),
  put_together text,
)

-- ---- other schemes and other texts

pub relaxed_numbers : (text : List ℕ) → list_any begins_tail text ≡ false
    → fault_under the.relaxed text ≡
    (if is_dotted text then fault_unless fault.Number
    (all_fit (numbers_in text)) else Some fault.Shape)
relaxed_numbers text none =
    let cut = nothing_cut begins_tail text none in
    elim (cases_Bool (is_dotted text)) [
      | inl dotted ↦ rw (cut.0, cut.1, dotted) refl
      | inr other ↦ rw (cut.0, cut.1, other) refl
    ]

semver_reads : (text : List ℕ) (port : ℕ) (v : Version) (read : Result Parts Error)
    → version_parts text ≡ read → reads_version the.semver text port ≡ Ok v
    → reads_version the.relaxed text port ≡ Ok v
semver_reads text port v (Ok p) e r =
    let s = semver_cut text p e in
    let valid = s.valid in
    let same = rw e at r in
    let form : is_relaxed text ≡ true =
    rw (semver_dotted text p e, s.tail) (tail_fits p.3 p.4 valid.3 valid.4) in
    let fit : all_fit (numbers_in (core_of text)) ≡ true =
    rw (
      semver_numbers text p e,
      lt-ltb _ _ valid.0,
      lt-ltb _ _ valid.1,
      lt-ltb _ _ valid.2,
    ) refl in
    rw (form, fit) same
semver_reads text port v (Err e) r s = (let clash = rw r at s in (cc))

pub semantic_is_relaxed : (text : List ℕ) (port : ℕ) (v : Version)
    → reads_version the.semver text port ≡ Ok v → reads_version the.relaxed text port ≡ Ok v
semantic_is_relaxed text port v e = semver_reads text port v (version_parts text) refl e
