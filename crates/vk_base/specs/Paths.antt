-- What a path is, as plain data, and what can be done with one.
use Rattle.std.specs.Prelude.{◌≡◌, ◌≢◌, ◌<◌, ◌+◌, ◌-◌, ◌/◌, ◌^◌, ◌==◌, ◌&&◌, ◌||◌, ◌++◌, ℕ, zero, suc}
use Rattle.std.specs.Prelude.{Bool, true, not, List, [], ◌∷◌, length, take, slice_index, nat_lt}
use Rattle.std.specs.Prelude.{if◌then◌else◌}
use Rattle.std.specs.Prelude.{Option, Some, None}
use Rattle.std.specs.List.{All, join_with_byte, starts_with}
use Rattle.std.specs.Str.{bytes_eq}
use Rattle.vk_spec.specs.Paths.{Path, anchor, Begins}

-- the byte is nowhere in the text
abbrev pub Lacks : ℕ → List ℕ → Type 0
Lacks b text = All (λ c. c ≢ b) text

-- a part of a path: not empty, neither `.` nor `..`, and without `/` and without byte 0
pub record IsPart (part : List ℕ) : Type 0 where
  pub some : part ≢ []
  pub not_here : part ≢ 46 ∷ []
  pub not_above : part ≢ 46 ∷ 46 ∷ []
  pub no_slash : Lacks 47 part
  pub no_zero : Lacks 0 part

-- the same as tests, which compute
abbrev pub lacks : ℕ → List ℕ → Bool
lacks b [] = true
lacks b (c ∷ text) = not (c == b) && lacks b text

abbrev pub is_part : List ℕ → Bool
is_part text = not (length text == 0) && (not (bytes_eq text (46 ∷ [])) && (not (bytes_eq text (46 ∷ 46 ∷ [])) && (lacks 47 text && lacks 0 text)))

-- a path rooted or with so many steps up, which are a number of 32 bits, and with these parts
pub record IsPathOf (rooted : Bool) (ups : ℕ) (parts : Path) : Type 0 where
  pub root : rooted ≡ true → ups ≡ 0
  pub small : ups < 2 ^ 32
  pub each : All IsPart parts

-- the key of a path
pub record IsPath (key : Path) : Type 0 where
  pub rooted : Bool
  pub ups : ℕ
  pub parts : Path
  pub key_is : key ≡ anchor rooted ups ∷ parts
  pub path : IsPathOf rooted ups parts

-- the anchor of a key, and the parts after it
abbrev pub anchor_of : Path → List ℕ
anchor_of [] = []
anchor_of (first ∷ parts) = first

abbrev pub parts_of : Path → Path
parts_of [] = []
parts_of (first ∷ parts) = parts

abbrev pub is_rooted : Path → Bool
is_rooted key = slice_index (anchor_of key) 0 == 47

-- how many steps up a key begins with: `..` has two bytes, and each one more has three
abbrev pub ups_of : Path → ℕ
ups_of key = (length (anchor_of key) + 1) / 3

-- so many steps up from a path: its last parts go, then steps up are counted; above `/` is `/`
abbrev pub climbed : Path → ℕ → Path
climbed key n = anchor (is_rooted key) (ups_of key + (n - length (parts_of key))) ∷ take (length (parts_of key) - n) (parts_of key)

-- the one path, and from there the other
abbrev pub joined : Path → Path → Path
joined key more = if is_rooted more then more else climbed key (ups_of more) ++ parts_of more

-- a path as it is seen from a folder, which has no such path where it doesn't begin the path
abbrev pub IsFrom : Path → Path → Option Path → Type 0
IsFrom folder path None = Begins folder path → ⊥
IsFrom folder path (Some seen) = (rest : Path) × (path ≡ folder ++ rest) × (seen ≡ (46 ∷ []) ∷ rest)

-- the one path begins the other, as a test
abbrev pub begins : Path → Path → Bool
begins folder path = starts_with bytes_eq path folder

-- a folder without parts that is `/`, or more steps up than a path that isn't rooted
abbrev pub is_far_up : Path → Path → Bool
is_far_up folder path =
    (length (parts_of folder) == 0) && (is_rooted folder || (not (is_rooted path) && nat_lt (ups_of path) (ups_of folder)))

-- a folder has a path in it, as far as their texts tell
abbrev pub has_in_it : Path → Path → Bool
has_in_it folder path = begins folder path || is_far_up folder path

-- one of two folders has the other in it
abbrev pub overlaps : Path → Path → Bool
overlaps one other = has_in_it one other || has_in_it other one

-- so many times `../`
abbrev pub steps_of : ℕ → List ℕ
steps_of zero = []
steps_of (suc n) = 46 ∷ 46 ∷ 47 ∷ steps_of n

-- what stands in front of the parts
abbrev pub front_of : Path → List ℕ
front_of key = if is_rooted key then 47 ∷ [] else steps_of (ups_of key)

-- a path's text
abbrev pub text_of_path : Path → List ℕ
text_of_path key = if length (parts_of key) == 0 then anchor_of key else front_of key ++ join_with_byte 47 (parts_of key)
