-- Where the numbers of a text end, and what follows them.
use Rattle.std.proofs.Common.{◌≡◌, ◌<◌, ◌^◌, ◌==◌, ◌++◌, ℕ, Bool, true, false, not, List, [], ◌∷◌}
use Rattle.std.proofs.Common.{length, get_or, append_assoc, inl, inr, refl, ap, sym, ◌∙◌, arith, Ok}
use Rattle.std.specs.Char.{is_ascii_digit}
use Rattle.std.specs.List.{list_all, position_or_len}
use Rattle.std.specs.Fmt.{decimal}
use Rattle.std.proofs.lemmas.Bool.{cases_Bool, and_parts, and_from, eqb-true, eq-eqb}
use Rattle.std.proofs.lemmas.Bool.Decides.{nat_tests}
use Rattle.std.proofs.lemmas.List.{take_at, drop_at}
use Rattle.std.proofs.lemmas.List.Folds.{prefix_len-append}
use Rattle.std.proofs.lemmas.List.Sums.{AllPass-from_list_all}
use Rattle.std.proofs.lemmas.List.Splits.{slice_split_at, slice_split_none}
use Rattle.std.proofs.lemmas.Fmt.{digits_decimal, digits_value-decimal}
use Rattle.semver.specs.Grammar.{IsValid, is_identifier_byte, is_build_identifier}
use Rattle.semver.specs.Grammar.{is_pre_identifier, is_pre_release}
use Rattle.semver.specs.Identifiers.{marked}
use Rattle.semver.specs.Order.{parts}
use Rattle.semver.specs.OrderLaws.{parts-shape}
use Rattle.semver.specs.Parse.{Parts, version_parts}
use Rattle.semver.proofs.Grammar.{version_parts-sound}
use Rattle.vk_version.specs.Texts.{is_number, numbers_in, begins_tail, core_of, tail_of, pre_in}
use Rattle.vk_version.proofs.DigitLemmas.{own}

-- each part has such bytes alone
abbrev pub all_of : (ℕ → Bool) → List (List ℕ) → Bool
all_of ok ps = list_all (list_all ok) ps

-- a byte that is in no part of a text is nowhere in it, but for the dot
pub none_in : (ok p : ℕ → Bool) → ((b : ℕ) → ok b ≡ true → p b ≡ false) → p 46 ≡ false
    → (text : List ℕ) → all_of ok (parts text) ≡ true → position_or_len p text ≡ length text
none_in ok p clear dotless [] e = refl
none_in ok p clear dotless (b ∷ rest) e =
    elim (cases_Bool (b == 46)) [
      | inl dot ↦
          let same : b ≡ 46 = eqb-true b 46 dot in
          let later : all_of ok (parts rest) ≡ true = rw dot at e in
          let ih : position_or_len p rest ≡ length rest = none_in ok p clear dotless rest later in
          rw (same, dotless, ih) (omega arith)
      | inr other ↦
          let r = parts-shape rest in
          let here = rw (other, r.2) at e in
          let both = and_parts _ _ here in
          let first = and_parts _ _ both.0 in
          let later : all_of ok (parts rest) ≡ true = rw r.2 (and_from _ _ first.1 both.1) in
          let ih : position_or_len p rest ≡ length rest = none_in ok p clear dotless rest later in
          rw (clear b first.0, ih) (omega arith)
    ]

pub number_digits : (part : List ℕ) → is_number part ≡ true → list_all is_ascii_digit part ≡ true
number_digits [] e = refl
number_digits (b ∷ rest) e = (and_parts _ _ e).1

pub numbers_digits : (ps : List (List ℕ)) → list_all is_number ps ≡ true
    → all_of is_ascii_digit ps ≡ true
numbers_digits [] e = refl
numbers_digits (p ∷ ps) e =
    let both = and_parts _ _ e in
    and_from _ _ (number_digits p both.0) (numbers_digits ps both.1)

digit_begins_none : (b : ℕ) → is_ascii_digit b ≡ true → begins_tail b ≡ false
digit_begins_none b e = grind (arith, nat_tests)

pub no_tail : (text : List ℕ) → all_of is_ascii_digit (parts text) ≡ true
    → position_or_len begins_tail text ≡ length text
no_tail text e = none_in is_ascii_digit begins_tail digit_begins_none refl text e

-- ---- a semantic version

-- three numbers joined by dots
abbrev pub core_text : ℕ → ℕ → ℕ → List ℕ
core_text a b c = decimal a ++ (46 ∷ (decimal b ++ (46 ∷ decimal c)))

digit_no_dot : (b : ℕ) → is_ascii_digit b ≡ true → (b == 46) ≡ false
digit_no_dot b e = grind (arith, nat_tests)

no_dot : (ds : List ℕ) → list_all is_ascii_digit ds ≡ true → (k d : ℕ) → k < length ds
    → (get_or ds k d == 46) ≡ false
no_dot ds each k d within =
    digit_no_dot (get_or ds k d) (AllPass-from_list_all is_ascii_digit ds each k d within)

pub core_parts : (a b c : ℕ) → a < 2 ^ 64 → b < 2 ^ 64 → c < 2 ^ 64
    → parts (core_text a b c) ≡ decimal a ∷ decimal b ∷ decimal c ∷ []
core_parts a b c x y z =
    slice_split_at (λ b. b == 46) (decimal a) 46 _
    (no_dot (decimal a) (digits_decimal own a x)) refl
    ∙ ap (λ ps. decimal a ∷ ps)
    (slice_split_at (λ b. b == 46) (decimal b) 46 _
    (no_dot (decimal b) (digits_decimal own b y)) refl)
    ∙ ap (λ ps. decimal a ∷ decimal b ∷ ps)
    (slice_split_none (λ b. b == 46) (decimal c) (no_dot (decimal c) (digits_decimal own c z)))

pub core_numbers : (a b c : ℕ) → a < 2 ^ 64 → b < 2 ^ 64 → c < 2 ^ 64
    → numbers_in (core_text a b c) ≡ a ∷ b ∷ c ∷ []
core_numbers a b c x y z =
    rw (
      core_parts a b c x y z,
      digits_value-decimal own a x,
      digits_value-decimal own b y,
      digits_value-decimal own c z,
    ) refl

core_digits : (a b c : ℕ) → a < 2 ^ 64 → b < 2 ^ 64 → c < 2 ^ 64
    → all_of is_ascii_digit (parts (core_text a b c)) ≡ true
core_digits a b c x y z =
    rw (
      core_parts a b c x y z,
      digits_decimal own a x,
      digits_decimal own b y,
      digits_decimal own c z,
    ) refl

-- the first byte that passes stands after a front in which none does
pub first_after : (p : ℕ → Bool) (front tail : List ℕ) → position_or_len p front ≡ length front
    → position_or_len p tail ≡ 0 → position_or_len p (front ++ tail) ≡ length front
first_after p front tail whole none =
    prefix_len-append (λ x. not (p x)) front tail
    ∙ rw (whole, eq-eqb (length front) (length front) refl, none) (omega arith)

tail_begins : (pre build : List ℕ)
    → position_or_len begins_tail (marked 45 pre ++ marked 43 build) ≡ 0
tail_begins [] [] = refl
tail_begins [] (y ∷ ys) = refl
tail_begins (x ∷ r) build = refl

pub build_begins : (build : List ℕ) → position_or_len (λ b. b == 43) (marked 43 build) ≡ 0
build_begins [] = refl
build_begins (y ∷ ys) = refl

pub identifier_no_plus : (b : ℕ) → is_identifier_byte b ≡ true → (b == 43) ≡ false
identifier_no_plus b e = grind (arith, nat_tests)

pub identifier_bytes : (ps : List (List ℕ)) → list_all is_pre_identifier ps ≡ true
    → all_of is_identifier_byte ps ≡ true
identifier_bytes [] e = refl
identifier_bytes (p ∷ ps) e =
    let both = and_parts _ _ e in
    let first = and_parts (is_build_identifier p) _ both.0 in
    let bytes = and_parts _ (list_all is_identifier_byte p) first.0 in
    and_from _ _ bytes.1 (identifier_bytes ps both.1)

pub tail_pre : (pre build : List ℕ) → is_pre_release pre ≡ true
    → pre_in (marked 45 pre ++ marked 43 build) ≡ pre
tail_pre [] [] e = refl
tail_pre [] (y ∷ ys) e = refl
tail_pre (x ∷ r) build e =
    let whole =
    none_in is_identifier_byte (λ b. b == 43) identifier_no_plus refl (x ∷ r)
    (identifier_bytes (parts (x ∷ r)) e) in
    let at = first_after (λ b. b == 43) (x ∷ r) (marked 43 build) whole (build_begins build) in
    take_at (x ∷ r) (marked 43 build) (position_or_len (λ b. b == 43) ((x ∷ r) ++ marked 43 build))
    (sym at)

-- digits alone, and then what their marks begin: that is how the text is cut
pub record IsCutThere (text core pre build : List ℕ) : Type 0 where
  pub front : core_of text ≡ core
  pub tail : tail_of text ≡ marked 45 pre ++ marked 43 build

pub cut_there : (core pre build : List ℕ) → all_of is_ascii_digit (parts core) ≡ true
    → IsCutThere (core ++ (marked 45 pre ++ marked 43 build)) core pre build
cut_there core pre build digits =
    let tail = marked 45 pre ++ marked 43 build in
    let at : position_or_len begins_tail (core ++ tail) ≡ length core =
    first_after begins_tail core tail (no_tail core digits) (tail_begins pre build) in
    record {
      front = take_at core tail (position_or_len begins_tail (core ++ tail)) (sym at);
      tail = drop_at core tail (position_or_len begins_tail (core ++ tail)) (sym at);
    }

-- the text of a semantic version
pub record IsSemver (text : List ℕ) (p : Parts) : Type 0 where
  pub core : core_of text ≡ core_text p.0 p.1 p.2
  pub tail : tail_of text ≡ marked 45 p.3 ++ marked 43 p.4
  pub valid : IsValid p

pub semver_cut : (text : List ℕ) (p : Parts) → version_parts text ≡ Ok p → IsSemver text p
semver_cut text p e =
    let sound = version_parts-sound text p e in
    let v = sound.1 in
    let front = core_text p.0 p.1 p.2 in
    let joined : front ++ (marked 45 p.3 ++ marked 43 p.4) ≡ text = simp append_assoc sound.0 in
    let cut = cut_there front p.3 p.4 (core_digits p.0 p.1 p.2 v.0 v.1 v.2) in
    rw (← joined) (record {
      core = cut.front;
      tail = cut.tail;
      valid = v;
    })

pub semver_numbers : (text : List ℕ) (p : Parts) → version_parts text ≡ Ok p
    → numbers_in (core_of text) ≡ p.0 ∷ p.1 ∷ p.2 ∷ []
semver_numbers text p e =
    let s = semver_cut text p e in
    rw s.core (core_numbers p.0 p.1 p.2 s.valid.0 s.valid.1 s.valid.2)

pub semver_pre : (text : List ℕ) (p : Parts) → version_parts text ≡ Ok p
    → pre_in (tail_of text) ≡ p.3
semver_pre text p e =
    let s = semver_cut text p e in
    rw s.tail (tail_pre p.3 p.4 s.valid.3)
