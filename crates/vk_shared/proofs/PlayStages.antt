-- What stages say of the items that wait.
use Rattle.std.proofs.Common.{◌≡◌, ℕ, List, ap, sym, ◌∙◌, subst}
use Rattle.std.specs.Prelude.{Some, None, slice_get}
use Rattle.vk_spec.specs.States.{State}
use Rattle.vk_entry.specs.Packages.{File}
use Rattle.vk_make.specs.Several.{meant_of}
use Rattle.vk_shared.specs.MakeMachine.{folder_of, make_left, place_of, stage_at, stage_of}
use Rattle.vk_shared.specs.Plays.{MakesCall, TakesTurn}
use Rattle.vk_shared.specs.declared.makings.MakeNow.{MakeNow}
use Rattle.vk_shared.specs.declared.makings.MakeNow.TheVariants as now
use Rattle.vk_shared.specs.declared.makings.Making.{Making}
use Rattle.vk_shared.specs.declared.makings.Stage.{Stage}
use Rattle.vk_shared.specs.declared.makings.Stage.TheVariants as stage

same_item : (item place : ℕ) (at : MakeNow) → stage_at place at ≡ stage.Builds item → place ≡ item
same_item item place (now.Makes t at) is = (cc)
same_item item place (now.Waits t mark folder) is = (cc)
same_item item place now.Done is = (cc)
same_item item place (now.Ended why) is = (cc)

-- the item that waits is the one at the place
pub item_is : (m : Making) (item : ℕ) → stage_of m ≡ stage.Builds item → place_of m ≡ item
item_is m item is = same_item item (place_of m) m.at is

-- a call, and then what is supplied
pub call_takes : (st : Stage) (packages : List (List File)) (m n k : Making) (s t : State) → st ≡ stage.Calls → MakesCall (make_left (meant_of packages) m) s (make_left (meant_of packages) n) t → make_left (meant_of packages) k ≡ make_left (meant_of packages) n → TakesTurn st packages m s k t
call_takes st packages m n k s t is made same = subst (λ at. TakesTurn at packages m s k t) (sym is) (subst (λ l. MakesCall (make_left (meant_of packages) m) s l t) (sym same) made)

-- what is meant for the item that waits
pub meant_some : (packages : List (List File)) (m : Making) (item : ℕ) (built copy : List File) → stage_of m ≡ stage.Builds item → slice_get packages item ≡ Some built → copy ≡ built → meant_of packages (place_of m) (folder_of m) ≡ Some copy
meant_some packages m item built copy is at same = ap (slice_get packages) (item_is m item is) ∙ at ∙ ap (λ (p : List File). Some p) (sym same)

pub meant_none : (packages : List (List File)) (m : Making) (item : ℕ) → stage_of m ≡ stage.Builds item → slice_get packages item ≡ None → meant_of packages (place_of m) (folder_of m) ≡ None
meant_none packages m item is at = ap (slice_get packages) (item_is m item is) ∙ at
