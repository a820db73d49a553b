-- Installers that take turns on one tree.
use Rattle.std.specs.Prelude.{◌≡◌, ◌≢◌, ◌⊎◌, [], ◌∷◌, ℕ, List, Some, Result, Ok, Err, IfSome, slice_get}
use Rattle.vk_base.specs.declared.memory.Memory.{Memory}
use Rattle.vk_base.specs.declared.stops.Outage.{Outage}
use Rattle.vk_spec.specs.Paths.{Path}
use Rattle.vk_spec.specs.Files.{Files}
use Rattle.vk_spec.specs.States.{State}
use Rattle.vk_spec.specs.Standing.{disk_of, OnFiles}
use Rattle.vk_entry.specs.Packages.{File}
use Rattle.vk_protocol.specs.Turns.{Left}
use Rattle.vk_publish.specs.Shared.{Pair, IsSound}
use Rattle.vk_make.specs.Makes.{AllMade}
use Rattle.vk_make.specs.Several.{Installer, meant_of, Agrees, AreInstallers, AtStart, StaysWhole}
use Rattle.vk_shared.specs.MakeMachine.{CanGo, GoesOn, IsWaiting, make_left, stage_of}
use Rattle.vk_shared.specs.declared.makings.Making.{Making}
use Rattle.vk_shared.specs.declared.makings.Stage.{Stage}
use Rattle.vk_shared.specs.declared.makings.Stage.TheVariants as stage

-- what is left of each installer that is supplied the packages that are meant for it
abbrev pub lefts_of : List (List (List File)) → List Making → List (Left AllMade)
lefts_of [] all = []
lefts_of (packages ∷ meant) [] = []
lefts_of (packages ∷ meant) (m ∷ all) = make_left (meant_of packages) m ∷ lefts_of meant all

-- ---- what is done

-- some call was made, exactly the next one, and this is left; or it stopped there
abbrev pub MakesCall : Left AllMade → State → Left AllMade → State → Type 0
MakesCall left s next t = (result : Result (Unit {0}) Outage) × GoesOn left result next s t

-- who is to make a call makes it, and what is meant is supplied; anybody else does nothing
abbrev pub TakesTurn : Stage → List (List File) → Making → State → Making → State → Type 0
TakesTurn stage.Calls packages m s n t = MakesCall (make_left (meant_of packages) m) s (make_left (meant_of packages) n) t
TakesTurn (stage.Builds place) packages m s n t = (n ≡ m) × (t ≡ s)
TakesTurn stage.Done packages m s n t = (n ≡ m) × (t ≡ s)
TakesTurn stage.Ended packages m s n t = (n ≡ m) × (t ≡ s)

-- who didn't wait for a package doesn't wait for one now; where memory ran out it does
abbrev pub IsServed : Result (Unit {0}) Memory → Making → Making → Type 0
IsServed (Ok u) m n = (IsWaiting (stage_of m) → ⊥) → IsWaiting (stage_of n) → ⊥
IsServed (Err e) m n = IsWaiting (stage_of n)

-- the turn of the installer with this number, for which these packages are meant; all others stay as they are
pub record PlayTurn (meant : List (List (List File))) (who : ℕ) (result : Result (Unit {0}) Memory) (before : List Making) (s : State) (after : List Making) (t : State) : Type 0 where
  pub packages : List (List File)
  pub means : slice_get meant who ≡ Some packages
  pub m : Making
  pub was : slice_get before who ≡ Some m
  pub n : Making
  pub is : slice_get after who ≡ Some n
  pub takes : TakesTurn (stage_of m) packages m s n t
  pub served : IsServed result m n
  pub others : (other : ℕ) → other ≢ who → slice_get after other ≡ slice_get before other

-- memory ran out in this turn
abbrev pub EndsPlay : List (List (List File)) → ℕ → Result (Unit {0}) Memory → List Making → State → List Making → State → Type 0
EndsPlay meant who (Ok u) before s after t = ⊥
EndsPlay meant who (Err e) before s after t = PlayTurn meant who (Err e) before s after t

-- the turns of these numbers, one after the other, or up to one in which memory ran out
abbrev pub Plays : List (List (List File)) → List ℕ → Result (Unit {0}) Memory → List Making → State → List Making → State → Type 0
Plays meant [] (Ok u) before s after t = (after ≡ before) × (t ≡ s)
Plays meant [] (Err e) before s after t = ⊥
Plays meant (who ∷ order) result before s after t =
    EndsPlay meant who result before s after t
    ⊎ ((between : List Making) × (mid : State) × PlayTurn meant who (Ok tt) before s between mid × Plays meant order result between mid after t)

-- ---- what is kept

-- the premises of the law on several installers: these are at their start, on a cache that is whole
pub record CanPlay (pairs : List Pair) (cache : Path) (who : List Installer) (meant : List (List (List File))) (all : List Making) (f : Files) : Type 0 where
  pub agrees : Agrees pairs
  pub installers : AreInstallers pairs who
  pub starts : AtStart cache who (lefts_of meant all)
  pub sound : IsSound pairs cache (disk_of f)

-- where the tree tells its files, the premises hold of some pairs, a cache and some installers
abbrev pub MayPlay : List (List (List File)) → List Making → State → Type 0
MayPlay meant all s = IfSome s.told (λ t. (pairs : List Pair) × (cache : Path) × (who : List Installer) × CanPlay pairs cache who meant all t.files)

-- and where it tells them afterwards too, the conclusion holds of all those of which the premises held
abbrev pub PlaysWhole : List (List (List File)) → List Making → State → List Making → State → Type 0
PlaysWhole meant before s after t = IfSome s.told (λ x. (pairs : List Pair) (cache : Path) (who : List Installer)
    → CanPlay pairs cache who meant before x.files → IfSome t.told (λ y. StaysWhole pairs cache who y.files (lefts_of meant after)))

-- ---- what functions say besides

-- where files are told, the next call of the installer with this number may be made
abbrev pub CanTake : List (List (List File)) → ℕ → List Making → State → Type 0
CanTake meant who all s = (packages : List (List File)) (m : Making) → slice_get meant who ≡ Some packages → slice_get all who ≡ Some m → OnFiles (λ d. CanGo (make_left (meant_of packages) m) d) s
