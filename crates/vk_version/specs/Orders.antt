-- The partial order on versions.
use Rattle.std.specs.Prelude.{◌≡◌, ◌<◌, ◌≤◌, ◌++◌, ℕ, Bool, List, [], ◌∷◌, Option, Some, None}
use Rattle.std.specs.Prelude.{nat_eq, if◌then◌else◌}
use Rattle.std.specs.declared.cmp.Ordering.{Ordering}
use Rattle.std.specs.declared.cmp.Ordering.TheVariants.{Less, Equal, Greater}
use Rattle.std.specs.Ordering.{nat_cmp, ordering_then, is_some_and, is_le}
use Rattle.std.specs.Cmp.Lexicographic.{slice_cmp, pointwise}
use Rattle.semver.specs.Order.{pre_cmp}
use Rattle.vk_spec.specs.Versions.{Class, Version, same_class}
use Rattle.vk_spec.specs.Versions as plain
use Rattle.vk_version.specs.Texts.{numbers_in, core_of, tail_of, pre_in, day_of, later_numbers}

-- numbers compared from the left: the first that differs is less, or they end where the others go
-- on
pub data IsLess (xs ys : List ℕ) : Type 0 where
  at_number : (same : List ℕ) (x y : ℕ) (xs_left ys_left : List ℕ) → xs ≡ same ++ x ∷ xs_left
      → ys ≡ same ++ y ∷ ys_left → x < y → IsLess xs ys
  at_end : (y : ℕ) (ys_left : List ℕ) → ys ≡ xs ++ y ∷ ys_left → IsLess xs ys

-- lower precedence of pre-releases, where having none is the highest (SemVer 2.0.0, 11.3 and 11.4)
abbrev pub IsLower : List ℕ → List ℕ → Type 0
IsLower p q = pre_cmp p q ≡ Less

-- the numbers of a dotted version
abbrev pub numbers_of : Version → List ℕ
numbers_of v = numbers_in (core_of v.text)

-- the pre-release of a dotted version
abbrev pub pre_of : Version → List ℕ
pre_of v = pre_in (tail_of v.text)

-- two versions of one class
pub record BothAre (class : Class) (v w : Version) : Type 0 where
  pub first : v.class ≡ class
  pub second : w.class ≡ class

-- a version is at most another in exactly these cases
pub data AtMost (v w : Version) : Type 0 where
  -- dotted: the numbers are less
  less_numbers : BothAre plain.dot v w → IsLess (numbers_of v) (numbers_of w) → AtMost v w
  -- the same numbers, and the pre-release is lower
  lower_pre : BothAre plain.dot v w → numbers_of v ≡ numbers_of w → IsLower (pre_of v) (pre_of w)
      → AtMost v w
  -- the same numbers, pre-release and text, and the port-version isn't greater
  same_dotted : BothAre plain.dot v w → numbers_of v ≡ numbers_of w → pre_of v ≡ pre_of w
      → v.text ≡ w.text → v.port ≤ w.port → AtMost v w
  -- dates: the day is earlier
  earlier_day : BothAre plain.date v w → IsLess (day_of v.text) (day_of w.text) → AtMost v w
  -- the same day, and the numbers after it are less
  less_later : BothAre plain.date v w → day_of v.text ≡ day_of w.text
      → IsLess (later_numbers v.text) (later_numbers w.text) → AtMost v w
  -- the same day, numbers and text, and the port-version isn't greater; readable dates of the same
  -- day and numbers have the same text
  same_date : BothAre plain.date v w → day_of v.text ≡ day_of w.text
      → later_numbers v.text ≡ later_numbers w.text → v.text ≡ w.text → v.port ≤ w.port → AtMost v w
  -- any texts: they are the same, and the port-version isn't greater
  same_string : BothAre plain.text v w → v.text ≡ w.text → v.port ≤ w.port → AtMost v w

-- at most, and not the same version
abbrev pub Below : Version → Version → Type 0
Below v w = AtMost v w × (v ≡ w → ⊥)

-- neither is at most the other
abbrev pub Unrelated : Version → Version → Type 0
Unrelated v w = (AtMost v w → ⊥) × (AtMost w v → ⊥)

-- ---- the same as a test

-- the numbers of a text by its class, a date's beginning with its year, month and day
abbrev pub numbers_by : Class → List ℕ → List ℕ
numbers_by plain.dot text = numbers_in (core_of text)
numbers_by plain.date text = day_of text ++ later_numbers text
numbers_by plain.text text = []

-- the pre-release of a text by its class
abbrev pub pre_by : Class → List ℕ → List ℕ
pre_by plain.dot text = pre_in (tail_of text)
pre_by plain.date text = []
pre_by plain.text text = []

-- which of two versions of one class comes first by numbers and pre-release
abbrev pub rank_cmp : Version → Version → Ordering
rank_cmp v w =
    ordering_then (slice_cmp nat_cmp (numbers_by v.class v.text) (numbers_by w.class w.text))
    (pre_cmp (pre_by v.class v.text) (pre_by w.class w.text))

-- of one rank: by port-version, where they have the same text
abbrev pub tie_cmp : Version → Version → Option Ordering
tie_cmp v w = if pointwise nat_eq v.text w.text then Some (nat_cmp v.port w.port) else None

-- the order, unless it is a tie
abbrev pub unless_tied : Ordering → Option Ordering → Option Ordering
unless_tied Less tie = Some Less
unless_tied Equal tie = tie
unless_tied Greater tie = Some Greater

-- how a version compares with another, if they are related
abbrev pub order_of : Version → Version → Option Ordering
order_of v w = if same_class v.class w.class then unless_tied (rank_cmp v w) (tie_cmp v w) else None

-- whether a version is at most another
abbrev pub at_most : Version → Version → Bool
at_most v w = is_some_and is_le (order_of v w)
