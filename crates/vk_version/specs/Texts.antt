-- What stands in a version text: numbers between dots, a pre-release, build metadata, a day.
use Rattle.std.specs.Prelude.{◌≡◌, ◌<◌, ◌++◌, ℕ, ◌^◌, ◌==◌, ◌&&◌, ◌||◌, not, nat_lt, nat_le, Bool}
use Rattle.std.specs.Prelude.{true, false, List, [], ◌∷◌, length, map, drop, slice_index}
use Rattle.std.specs.Prelude.{slice_range, pos, if◌then◌else◌}
use Rattle.std.specs.Char.{is_ascii_digit, is_ascii_control}
use Rattle.std.specs.List.{list_all, list_any, position_or_len, before_first, after_first}
use Rattle.std.specs.Str.Parse.{digits_value}
use Rattle.semver.specs.Grammar.{is_pre_release, is_build}
use Rattle.semver.specs.Identifiers.{marked}
use Rattle.semver.specs.Order.{parts}
use Rattle.jiff.specs.Words.{days_in_month}

-- a number without leading zeros: digits, and 0 first only where it stands alone
abbrev pub is_number : List ℕ → Bool
is_number [] = false
is_number (b ∷ rest) = (not (b == 48) || length rest == 0) && list_all is_ascii_digit (b ∷ rest)

-- numbers without leading zeros, joined by dots
abbrev pub is_dotted : List ℕ → Bool
is_dotted text = list_all is_number (parts text)

-- what digits say
abbrev pub number_of : List ℕ → ℕ
number_of digits = digits_value 10 digits

-- the numbers between the dots
abbrev pub numbers_in : List ℕ → List ℕ
numbers_in text = map number_of (parts text)

-- no number is above 2^64 - 1
abbrev pub all_fit : List ℕ → Bool
all_fit numbers = list_all (λ n. nat_lt n (2 ^ 64)) numbers

-- a hyphen and a plus end the numbers
abbrev pub begins_tail : ℕ → Bool
begins_tail b = (b == 45) || (b == 43)

abbrev pub is_plus : ℕ → Bool
is_plus b = b == 43

-- what stands before the first hyphen or plus
abbrev pub core_of : List ℕ → List ℕ
core_of text = before_first begins_tail text

-- what stands from there on
abbrev pub tail_of : List ℕ → List ℕ
tail_of text = drop (position_or_len begins_tail text) text

-- the pre-release in a tail: what stands after a hyphen, up to the next plus
abbrev pub pre_in : List ℕ → List ℕ
pre_in [] = []
pre_in (b ∷ rest) = if b == 45 then before_first is_plus rest else []

-- the build metadata in a tail: what stands after the first plus
abbrev pub build_in : List ℕ → List ℕ
build_in tail = after_first is_plus tail

-- a pre-release of at least one identifier (SemVer 2.0.0, 9)
abbrev pub is_pre : List ℕ → Bool
is_pre text = nat_lt 0 (length text) && is_pre_release text

-- build metadata of at least one identifier (SemVer 2.0.0, 10)
abbrev pub is_metadata : List ℕ → Bool
is_metadata text = nat_lt 0 (length text) && is_build text

-- build metadata after the first plus, if there is one
abbrev pub may_have_metadata : List ℕ → Bool
may_have_metadata text =
    if list_any is_plus text then is_metadata (after_first is_plus text) else true

-- what may follow the numbers: a hyphen with a pre-release, a plus with build metadata, both in
-- this order, or nothing
abbrev pub is_tail : List ℕ → Bool
is_tail [] = true
is_tail (b ∷ rest) =
    if b == 45 then is_pre (before_first is_plus rest) && may_have_metadata rest
    else (b == 43) && is_metadata rest

-- a text of the relaxed scheme, however large its numbers are
abbrev pub is_relaxed : List ℕ → Bool
is_relaxed text = is_dotted (core_of text) && is_tail (tail_of text)

-- so many digits
abbrev pub are_digits : ℕ → List ℕ → Bool
are_digits n text = (length text == n) && list_all is_ascii_digit text

-- YYYY-MM-DD
abbrev pub is_day : List ℕ → Bool
is_day text = (length text == 10) && (slice_index text 4 == 45) && (slice_index text 7 == 45)
    && are_digits 4 (slice_range text 0 4) && are_digits 2 (slice_range text 5 7)
    && are_digits 2 (slice_range text 8 10)

-- what stands before the first dot
abbrev pub first_part : List ℕ → List ℕ
first_part text = before_first (λ b. b == 46) text

-- what stands after the first dot, part by part
abbrev pub later_parts : List ℕ → List (List ℕ)
later_parts text = drop 1 (parts text)

-- a day, then any number of dots with a number each
abbrev pub is_dated : List ℕ → Bool
is_dated text = is_day (first_part text) && list_all is_number (later_parts text)

-- the year, the month and the day of YYYY-MM-DD
abbrev pub numbers_of_day : List ℕ → List ℕ
numbers_of_day day =
    number_of (slice_range day 0 4) ∷ number_of (slice_range day 5 7) ∷ number_of
    (slice_range day 8 10) ∷ []

-- the year, the month and the day that a text begins with
abbrev pub day_of : List ℕ → List ℕ
day_of text = numbers_of_day (first_part text)

-- the numbers after the day
abbrev pub later_numbers : List ℕ → List ℕ
later_numbers text = map number_of (later_parts text)

-- the Gregorian calendar has this year, month and day
abbrev pub has_day : List ℕ → Bool
has_day (y ∷ m ∷ d ∷ []) = nat_le 1 m && nat_le m 12 && nat_le 1 d
    && nat_le d (days_in_month (pos y) m)
has_day other = false

-- one byte or more, none of them a control character
abbrev pub is_plain : List ℕ → Bool
is_plain text = nat_lt 0 (length text) && list_all (λ b. not (is_ascii_control b)) text

abbrev pub is_hash : ℕ → Bool
is_hash b = b == 35

-- a part that goes on after a leading zero
pub record IsPadded (part : List ℕ) : Type 0 where
  pub zero : slice_index part 0 ≡ 48
  pub longer : 1 < length part

-- numbers, a pre-release and build metadata, of which the last two may be empty; each that isn't
-- stands after its mark
pub record IsWritten (text core pre build : List ℕ) : Type 0 where
  pub whole : text ≡ core ++ (marked 45 pre ++ marked 43 build)
  pub numbers : is_dotted core ≡ true
  pub pre_release : is_pre_release pre ≡ true
  pub metadata : is_build build ≡ true

-- the numbers, the pre-release and the build metadata that a text is put together of
pub record IsPutTogether (text : List ℕ) : Type 0 where
  pub core : List ℕ
  pub pre : List ℕ
  pub build : List ℕ
  pub written : IsWritten text core pre build
