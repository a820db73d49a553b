-- Texts and keys: when two are the same, and which comes first.
use Rattle.std.specs.Prelude.{◌≡◌, ◌↔◌, Bool, ℕ, List, [], ◌∷◌, bytes_eq}
use Rattle.std.specs.declared.cmp.Ordering.{Ordering}
use Rattle.std.specs.declared.cmp.Ordering.TheVariants.{Less, Equal, Greater}
use Rattle.std.specs.List.{Contains}
use Rattle.std.specs.Cmp.Lexicographic.{pointwise}
use Rattle.vk_spec.specs.Paths.{path_cmp}

-- what a thing is known and ordered by: parts, each a text or one number
abbrev pub Key : Type 0
Key = List (List ℕ)

-- keys are the same where their parts are
abbrev pub same_key : Key → Key → Bool
same_key = pointwise bytes_eq

-- keys are compared part by part, and parts by their bytes
abbrev pub key_cmp : Key → Key → Ordering
key_cmp = path_cmp

-- different things have different keys
abbrev pub IsKey : {X : Type 0} → (X → Key) → Type 0
IsKey {X} key = (x y : X) → key x ≡ key y → x ≡ y

-- each thing stands before all that follow it
abbrev pub Ascends : {X : Type 0} → (X → Key) → List X → Type 0
Ascends key [] = Unit {0}
Ascends key (x ∷ xs) = ((y : _) → Contains xs y → key_cmp (key x) (key y) ≡ Less) × Ascends key xs

-- the list, in order and without repeats, of all of which P holds
pub record IsListing {X : Type 0} (key : X → Key) (P : X → Type 0) (xs : List X) : Type 0 where
  pub each : (x : X) → Contains xs x ↔ P x
  pub ascends : Ascends key xs

-- x put where it belongs in a list in order, unless it is there
abbrev pub put_by : {X : Type 0} → Ordering → X → X → List X → List X → List X
put_by Less x y ys later = x ∷ y ∷ ys
put_by Equal x y ys later = y ∷ ys
put_by Greater x y ys later = y ∷ later

-- x put into a list in order
abbrev pub put_in : {X : Type 0} → (X → Key) → X → List X → List X
put_in key x [] = x ∷ []
put_in key x (y ∷ ys) = put_by (key_cmp (key x) (key y)) x y ys (put_in key x ys)

-- the members of a list in order, each once
abbrev pub in_order : {X : Type 0} → (X → Key) → List X → List X
in_order key [] = []
in_order key (x ∷ xs) = put_in key x (in_order key xs)
