-- The bytes in front of a text that pass a test.
use Rattle.std.proofs.Common.{◌≡◌, ℕ, suc, Bool, true, false, not, List, [], ◌∷◌, ◌++◌, length, take, drop, ◌+◌, inl, inr, refl, arith}
use Rattle.std.specs.Option.{unwrap_or}
use Rattle.std.specs.List.{prefix_len, position, position_or_len, list_all}
use Rattle.std.proofs.lemmas.Bool.{cases_lt, cases_Bool, and_parts, lt-ltb, le-ltb}
use Rattle.std.proofs.Math.Seq.{take-append_seam, drop-append_seam}
use Rattle.std.proofs.lemmas.List.Sums.{prefix_len-le-length}

twice_not : (b : Bool) → not (not b) ≡ b
twice_not true = refl
twice_not false = refl

fails_not : {X : Type 0} (p : X → Bool) (xs : List X) → position_or_len (λ x. not (p x)) xs ≡ prefix_len p xs
fails_not p [] = refl
fails_not p (x ∷ xs) = rw (twice_not (p x), fails_not p xs) refl

add-one-left : (n : ℕ) → 1 + n ≡ suc n
add-one-left n = omega arith

-- the place of the first that fails, or the end
pub front_end : {X : Type 0} (p : X → Bool) (xs : List X) → unwrap_or (position (λ x. not (p x)) xs) (length xs) ≡ prefix_len p xs
front_end p xs =
    let few = prefix_len-le-length p xs in
    elim (cases_lt (prefix_len p xs) (length xs)) [
      | inl at ↦ rw (fails_not p xs, lt-ltb _ _ at) refl
      | inr past ↦ (let all : length xs ≡ prefix_len p xs = omega arith in rw (fails_not p xs, le-ltb _ _ past) all)
    ]

pub front_all : {X : Type 0} (p : X → Bool) (xs : List X) → list_all p (take (prefix_len p xs) xs) ≡ true
front_all p [] = refl
front_all p (x ∷ xs) = elim (cases_Bool (p x)) [ inl passes ↦ rw (passes, add-one-left (prefix_len p xs), passes) (front_all p xs) | inr fails ↦ rw fails refl ]

-- a text that doesn't begin with a byte that passes
abbrev pub Stops : (ℕ → Bool) → List ℕ → Type 0
Stops p [] = Unit {0}
Stops p (y ∷ ys) = p y ≡ false

-- the front ends where the text no longer passes
pub front_stops : (p : ℕ → Bool) (xs ys : List ℕ) → list_all p xs ≡ true → Stops p ys → prefix_len p (xs ++ ys) ≡ length xs
front_stops p [] [] all stops = refl
front_stops p [] (y ∷ ys) all stops = rw stops refl
front_stops p (x ∷ xs) ys all stops =
    let both = and_parts (p x) (list_all p xs) all in
    let more = front_stops p xs ys both.1 stops in
    rw both.0 (omega (arith, more))

pub front_cut : (p : ℕ → Bool) (xs ys : List ℕ) → list_all p xs ≡ true → Stops p ys → (take (prefix_len p (xs ++ ys)) (xs ++ ys) ≡ xs) × (drop (prefix_len p (xs ++ ys)) (xs ++ ys) ≡ ys)
front_cut p xs ys all stops = rw (front_stops p xs ys all stops) (take-append_seam xs ys, drop-append_seam xs ys)
