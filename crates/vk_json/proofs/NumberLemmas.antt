-- A number's text, by whether a minus stands first.
use Rattle.std.proofs.Common.{◌≡◌, ◌==◌, ◌-◌, ℕ, ℤ, List, Bool, true, false, Float, length, drop, take, get_or, Some, None, cond, option_and_then, refl, arith, take_all, length-drop}
use Rattle.fast_float.specs.Text.{Parts, scan}
use Rattle.serde_json.specs.Data.{negative, float}
use Rattle.serde_json.specs.Find.{as_u64}
use Rattle.serde_json.specs.Read.{number_of, number_from}

-- what is taken of a text behind its first byte, to the end, is the rest
pub behind_first : (s : List ℕ) → take (length s - 1) (drop 1 s) ≡ drop 1 s
behind_first s = take_all _ (drop 1 s) (omega (arith, length-drop 1 s))

pub with_minus : (s : List ℕ) → (get_or s 0 0 == 45) ≡ true → number_of s ≡ number_from true (scan (drop 1 s))
unfolding number_of
with_minus s minus = rw minus refl

pub without_minus : (s : List ℕ) → (get_or s 0 0 == 45) ≡ false → number_of s ≡ number_from false (scan s)
unfolding number_of
without_minus s minus = rw minus refl

either_way : (whole finite : Bool) (z : ℤ) (x : Float) → option_and_then as_u64 (cond whole (Some (negative z)) (cond finite (Some (float x)) None)) ≡ None
either_way true finite z x = refl
either_way false true z x = refl
either_way false false z x = refl

-- a number with a minus is no whole number from 0 on
pub below_zero : (p : Parts) → option_and_then as_u64 (number_from true p) ≡ None
below_zero p = either_way _ _ _ _
