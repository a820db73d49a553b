-- Texts without a reading: numbers with a leading zero.
use Rattle.std.proofs.Common.{◌≡◌, ℕ, true, false, List, [], ◌∷◌, Result}
use Rattle.std.proofs.Common.{Ok, Err, refl, sym, ◌∙◌, arith}
use Rattle.std.specs.List.{Contains, list_all}
use Rattle.std.proofs.lemmas.Bool.{and_right}
use Rattle.std.proofs.lemmas.Bool.Decides.{nat_tests}
use Rattle.std.proofs.lemmas.List.Folds.{list_all_at}
use Rattle.semver.specs.Order.{parts}
use Rattle.semver.specs.Parse.{Parts, version_parts}
use Rattle.semver.specs.declared.error.Error.{Error}
use Rattle.vk_version.specs.declared.faults.VersionFault.TheVariants as fault
use Rattle.vk_version.specs.Schemes as the
use Rattle.vk_version.specs.Texts.{IsPadded, is_number, is_dotted, core_of, later_parts, first_part}
use Rattle.vk_version.specs.Texts.{is_day, is_dated}
use Rattle.vk_version.specs.Readings.{reads_version}
use Rattle.vk_version.proofs.DigitLemmas.{decimal_number}
use Rattle.vk_version.proofs.TailLemmas.{semver_cut, core_parts}

-- ---- leading zeros

padded_none : (part : List ℕ) → IsPadded part → is_number part ≡ false
padded_none [] p = let l = p.longer in absurd (omega arith)
padded_none (b ∷ []) p = let l = p.longer in absurd (omega arith)
padded_none (b ∷ c ∷ rest) p = let z = p.zero in grind (arith, nat_tests)

-- one part that is no number
not_all : (ps : List (List ℕ)) (part : List ℕ) → IsPadded part → Contains ps part
    → list_all is_number ps ≡ false
not_all ps part p has = list_all_at is_number ps has.0 part has.1 (rw has.2 (padded_none part p))

pub relaxed_padded : (text part : List ℕ) (port : ℕ) → IsPadded part
    → Contains (parts (core_of text)) part → reads_version the.relaxed text port ≡ Err fault.Shape
relaxed_padded text part port p has = rw (not_all (parts (core_of text)) part p has) refl

pub semver_dotted : (text : List ℕ) (p : Parts) → version_parts text ≡ Ok p
    → is_dotted (core_of text) ≡ true
semver_dotted text p e =
    let s = semver_cut text p e in
    let v = s.valid in
    rw (
      s.core,
      core_parts p.0 p.1 p.2 v.0 v.1 v.2,
      decimal_number p.0 v.0,
      decimal_number p.1 v.1,
      decimal_number p.2 v.2,
    ) refl

semver_unless : (text : List ℕ) (port : ℕ) (read : Result Parts Error) → version_parts text ≡ read
    → is_dotted (core_of text) ≡ false → reads_version the.semver text port ≡ Err fault.Shape
semver_unless text port (Ok p) e undotted =
    (let clash : true ≡ false = sym (semver_dotted text p e) ∙ undotted in (cc))
semver_unless text port (Err e) r undotted = rw r refl

pub semver_padded : (text part : List ℕ) (port : ℕ) → IsPadded part
    → Contains (parts (core_of text)) part → reads_version the.semver text port ≡ Err fault.Shape
semver_padded text part port p has =
    semver_unless text port (version_parts text) refl (not_all (parts (core_of text)) part p has)

pub date_padded : (text part : List ℕ) (port : ℕ) → IsPadded part → Contains (later_parts text) part
    → reads_version the.date text port ≡ Err fault.Shape
date_padded text part port p has =
    let undated : is_dated text ≡ false =
    and_right (is_day (first_part text)) (list_all is_number (later_parts text))
    (not_all (later_parts text) part p has) in
    rw undated refl
