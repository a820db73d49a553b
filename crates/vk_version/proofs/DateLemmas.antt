-- What is known of a text that is a day with numbers after it.
use Rattle.std.proofs.Common.{◌≡◌, ◌++◌, ◌&&◌, ℕ, true, false, List, ◌∷◌, drop, map, Ok, refl, ap}
use Rattle.std.proofs.Common.{sym, ◌∙◌, Option, Some, None, inl, inr}
use Rattle.std.specs.Prelude.{if◌then◌else◌}
use Rattle.std.specs.List.{list_all}
use Rattle.std.proofs.lemmas.Bool.{and_parts, and_from, cases_Bool}
use Rattle.semver.specs.Order.{parts}
use Rattle.vk_spec.specs.Versions as plain
use Rattle.vk_version.specs.declared.faults.VersionFault.TheVariants as fault
use Rattle.vk_version.specs.Schemes as the
use Rattle.vk_version.specs.Texts.{is_number, number_of, all_fit, later_numbers, later_parts}
use Rattle.vk_version.specs.Texts.{first_part, is_day, day_of, is_dated, has_day, numbers_of_day}
use Rattle.vk_version.specs.Readings.{reads_version, date_fault}
use Rattle.vk_version.specs.Steps.{IsDate}

pub later_numbered : (text day : List ℕ) (later : List (List ℕ)) → IsDate text day later
    → list_all is_number later ≡ true
later_numbered text day later d =
    let both =
    and_parts (is_day (first_part text))
    (list_all is_number (later_parts text)) d.form in rw d.parts at both.1

pub date_reads : (text day : List ℕ) (later : List (List ℕ)) (port : ℕ) → IsDate text day later
    → all_fit (map number_of later) ≡ true
    → reads_version the.date text port ≡ Ok
    (record { class = plain.date; text = text; port = port })
date_reads text day later port d fit = rw (d.form, d.known, d.parts, fit) refl

pub date_numbers : (text day : List ℕ) (later : List (List ℕ)) → IsDate text day later → day
    ++ map number_of later ≡ day_of text ++ later_numbers text
date_numbers text day later d = rw (d.days, d.parts) refl

-- ---- a text that is cut at its first dot

cut_dated : (text front : List ℕ) (later : List (List ℕ)) → front ≡ first_part text
    → parts text ≡ front ∷ later → is_dated text ≡ (is_day front && list_all is_number later)
cut_dated text front later f p =
    ap (λ day. is_day day && list_all is_number (later_parts text)) (sym f)
    ∙ ap (λ all. is_day front && list_all is_number (drop 1 all)) p

pub undated : (text front : List ℕ) (later : List (List ℕ)) → front ≡ first_part text
    → parts text ≡ front ∷ later → (is_day front && list_all is_number later) ≡ false
    → Some fault.Shape ≡ date_fault text
undated text front later f p none = rw (cut_dated text front later f p ∙ none) refl

-- what the calendar says of the day in front
abbrev Known : List ℕ → Option (List ℕ) → Type 0
Known front day =
    day ≡ (if has_day (numbers_of_day front) then Some (numbers_of_day front) else None)

pub date_there : (text front : List ℕ) (later : List (List ℕ)) (day : List ℕ)
    → front ≡ first_part text → parts text ≡ front ∷ later → is_day front ≡ true
    → list_all is_number later ≡ true → Known front (Some day) → IsDate text day later
date_there text front later day f p form numbers read =
    elim (cases_Bool (has_day (numbers_of_day front))) [
      | inl known ↦
          (let there = rw known at read in
          let same : day ≡ numbers_of_day front = cc in
          record {
            form = cut_dated text front later f p ∙ and_from _ _ form numbers;
            known = ap (λ t. has_day (numbers_of_day t)) (sym f) ∙ known;
            days = same ∙ ap numbers_of_day f;
            parts = ap (λ all. drop 1 all) p;
          })
      | inr other ↦ (let clash = rw other at read in (cc))
    ]

pub no_such_day : (text front : List ℕ) (later : List (List ℕ)) → front ≡ first_part text
    → parts text ≡ front ∷ later → is_day front ≡ true → list_all is_number later ≡ true
    → Known front None → Some fault.Day ≡ date_fault text
no_such_day text front later f p form numbers read =
    elim (cases_Bool (has_day (numbers_of_day front))) [
      | inl known ↦ (let clash = rw known at read in (cc))
      | inr other ↦
          rw (
            cut_dated text front later f p ∙ and_from _ _ form numbers,
            ap (λ t. has_day (numbers_of_day t)) (sym f) ∙ other,
          ) refl
    ]
