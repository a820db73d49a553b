-- The digits of a day, and the calendar.
use Rattle.std.proofs.Common.{◌≡◌, ◌-◌, ◌==◌, ℕ, true, false, List, [], ◌∷◌, length, take, drop}
use Rattle.std.proofs.Common.{Some, None, refl, ap, sym, ◌∙◌}
use Rattle.std.specs.Prelude.{slice_range, if◌then◌else◌}
use Rattle.std.specs.Char.{is_ascii_digit}
use Rattle.std.specs.List.{list_all}
use Rattle.std.proofs.lemmas.Bool.{and_parts, eqb-true}
use Rattle.vk_version.specs.Texts.{are_digits, is_day, number_of, has_day, numbers_of_day}
use Rattle.vk_version.proofs.SameTextLemmas.{day_form}

-- so many digits
pub record IsField (n : ℕ) (ds : List ℕ) : Type 0 where
  pub long : length ds ≡ n
  pub digits : list_all is_ascii_digit ds ≡ true

field : (n : ℕ) (ds : List ℕ) → are_digits n ds ≡ true → IsField n ds
field n ds e =
    let both = and_parts (length ds == n) (list_all is_ascii_digit ds) e in
    record { long = eqb-true _ _ both.0; digits = both.1 }

pub ten : (t : List ℕ) → is_day t ≡ true → length t ≡ 10
ten t e = (day_form t e).ten

pub year_field : (t : List ℕ) → is_day t ≡ true → IsField 4 (take 4 t)
year_field t e = field 4 (take 4 t) (day_form t e).year

pub month_field : (t : List ℕ) → is_day t ≡ true → IsField 2 (take 2 (drop 5 t))
month_field t e = field 2 (take 2 (drop 5 t)) (day_form t e).month

pub day_field : (t : List ℕ) → is_day t ≡ true → IsField 2 (take (length t - 8) (drop 8 t))
day_field t e = rw (ten t e) (field 2 (take 2 (drop 8 t)) (day_form t e).day)

-- the three numbers are the text's
pub record AreNumbers (t : List ℕ) (y m d : ℕ) : Type 0 where
  pub year : y ≡ number_of (take 4 t)
  pub month : m ≡ number_of (take 2 (drop 5 t))
  pub day : d ≡ number_of (take (length t - 8) (drop 8 t))

same_numbers : (t : List ℕ) (y m d : ℕ) → is_day t ≡ true → AreNumbers t y m d
    → ◌≡◌ {A = List ℕ} (y ∷ m ∷ d ∷ []) (numbers_of_day t)
same_numbers t y m d e n =
    let last : d ≡ number_of (take 2 (drop 8 t)) = rw (ten t e) at n.day in
    rw (n.year, n.month, last) refl

pub day_there : (t : List ℕ) (y m d : ℕ) → is_day t ≡ true → AreNumbers t y m d
    → has_day (y ∷ m ∷ d ∷ []) ≡ true
    → Some (y ∷ m ∷ d ∷ []) ≡ (if has_day (numbers_of_day t) then Some (numbers_of_day t) else None)
day_there t y m d e n there =
    let same = same_numbers t y m d e n in
    rw (ap has_day (sym same) ∙ there) (ap Some same)

pub no_day : (t : List ℕ) (y m d : ℕ) → is_day t ≡ true → AreNumbers t y m d
    → has_day (y ∷ m ∷ d ∷ []) ≡ false
    → None ≡ (if has_day (numbers_of_day t) then Some (numbers_of_day t) else None)
no_day t y m d e n none =
    rw (ap has_day (sym (same_numbers t y m d e n)) ∙ none) refl
