-- What stands at the place of an installer.
use Rattle.std.proofs.Common.{◌≡◌, ◌≢◌, ◌<◌, ℕ, zero, suc, List, [], ◌∷◌, length, set, get_or, refl, ap, sym, ◌∙◌, arith}
use Rattle.std.specs.Prelude.{Option, Some, None, Result, IfSome, slice_get}
use Rattle.std.proofs.lemmas.Option.{slice_get-get_or}
use Rattle.vk_base.specs.declared.memory.Memory.{Memory}
use Rattle.vk_spec.specs.States.{Told, State}
use Rattle.vk_spec.specs.Standing.{disk_of, OnFiles}
use Rattle.vk_entry.specs.Packages.{File}
use Rattle.vk_protocol.specs.Turns.{Left}
use Rattle.vk_make.specs.Makes.{AllMade, Supplies}
use Rattle.vk_make.specs.Several.{meant_of}
use Rattle.vk_shared.specs.MakeMachine.{CanGo, make_left, stage_of}
use Rattle.vk_shared.specs.Plays.{CanTake, IsServed, PlayTurn, TakesTurn, lefts_of}
use Rattle.vk_shared.specs.declared.makings.Making.{Making}

get_set_same : {X : Type 0} (xs : List X) (i : ℕ) (x : X) → i < length xs → slice_get (set xs i x) i ≡ Some x
get_set_same [] i x within = absurd (omega (arith, within))
get_set_same (y ∷ xs) zero x within = refl
get_set_same (y ∷ xs) (suc i) x within = get_set_same xs i x (omega (arith, within))

get_set_other : {X : Type 0} (xs : List X) (i j : ℕ) (x : X) → j ≢ i → slice_get (set xs i x) j ≡ slice_get xs j
get_set_other [] i j x other = refl
get_set_other (y ∷ xs) zero zero x other = absurd (other refl)
get_set_other (y ∷ xs) zero (suc j) x other = refl
get_set_other (y ∷ xs) (suc i) zero x other = refl
get_set_other (y ∷ xs) (suc i) (suc j) x other = get_set_other xs i j x (λ same. other (ap suc same))

-- ---- what is left of one

abbrev left_by : Option (List (List File)) → Option Making → Option (Left AllMade)
left_by None m = None
left_by (Some packages) None = None
left_by (Some packages) (Some m) = Some (make_left (meant_of packages) m)

none_by : (o : Option (List (List File))) → left_by o None ≡ None
none_by None = refl
none_by (Some packages) = refl

left_is : (meant : List (List (List File))) (all : List Making) (w : ℕ) → slice_get (lefts_of meant all) w ≡ left_by (slice_get meant w) (slice_get all w)
left_is [] all w = refl
left_is (p ∷ meant) [] w = sym (none_by (slice_get (p ∷ meant) w))
left_is (p ∷ meant) (m ∷ all) zero = refl
left_is (p ∷ meant) (m ∷ all) (suc w) = left_is meant all w

-- by its place
pub left_at : (meant : List (List (List File))) (all : List Making) (w : ℕ) (packages : List (List File)) (m : Making) → slice_get meant w ≡ Some packages → slice_get all w ≡ Some m → slice_get (lefts_of meant all) w ≡ Some (make_left (meant_of packages) m)
left_at meant all w packages m means is = left_is meant all w ∙ ap (λ o. left_by o (slice_get all w)) means ∙ ap (λ o. left_by (Some packages) o) is

-- and where the same installer stands in two lists
pub left_same : (meant : List (List (List File))) (all now : List Making) (w : ℕ) → slice_get now w ≡ slice_get all w → slice_get (lefts_of meant now) w ≡ slice_get (lefts_of meant all) w
left_same meant all now w same = left_is meant now w ∙ ap (λ o. left_by (slice_get meant w) o) same ∙ sym (left_is meant all w)

-- ---- the turn of one

some_supplies : (packages : List (List File)) (m : Making) (o : Option Told) → IfSome o (λ t. CanGo (make_left (meant_of packages) m) (disk_of t.files)) → IfSome o (λ t. (s : Supplies) × CanGo (make_left s m) (disk_of t.files))
some_supplies packages m None may = tt
some_supplies packages m (Some t) may = (meant_of packages, may)

-- the next call may be made
pub may_take : (meant : List (List (List File))) (w : ℕ) (all : List Making) (packages : List (List File)) (d : Making) (s : State) → w < length all → Some packages ≡ slice_get meant w → CanTake meant w all s → OnFiles (λ disk. (x : Supplies) × CanGo (make_left x (get_or all w d)) disk) s
may_take meant w all packages d s within is may = some_supplies packages (get_or all w d) s.told (may packages (get_or all w d) (sym is) (slice_get-get_or all w d within))

-- and was made
pub turn_is : (meant : List (List (List File))) (w : ℕ) (result : Result (Unit {0}) Memory) (all : List Making) (packages : List (List File)) (d n : Making) (s t : State) → w < length all → Some packages ≡ slice_get meant w
    → TakesTurn (stage_of (get_or all w d)) packages (get_or all w d) s n t → IsServed result (get_or all w d) n → PlayTurn meant w result all s (set all w n) t
turn_is meant w result all packages d n s t within is takes served = record {
  packages = packages;
  means = sym is;
  m = get_or all w d;
  was = slice_get-get_or all w d within;
  n = n;
  is = get_set_same all w n within;
  takes = takes;
  served = served;
  others = λ other differs. get_set_other all w other n differs;
}
