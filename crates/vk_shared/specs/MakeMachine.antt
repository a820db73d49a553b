-- What is left of the making of a plan's packages that has come so far, whatever will be supplied.
use Rattle.std.specs.Prelude.{◌≡◌, ◌+◌, [], ℕ, List, length, Option, Some, None, Result, Ok, Err}
use Rattle.vk_spec.specs.Paths.{Path}
use Rattle.vk_spec.specs.States.{State}
use Rattle.vk_spec.specs.Standing.{Disk}
use Rattle.vk_base.specs.declared.stops.Outage.{Outage}
use Rattle.vk_base.specs.declared.stops.Stop.{Stop}
use Rattle.vk_base.specs.declared.stops.Stop.TheVariants.{Fault, Failed, Memory}
use Rattle.vk_protocol.specs.Protocols.{Protocol, ends, on_ok, each, ◌>>=◌}
use Rattle.vk_protocol.specs.Runs.{Stepped, CanAsk}
use Rattle.vk_protocol.specs.Turns.{Left, goes, stopped}
use Rattle.vk_entry.specs.Packages.{File}
use Rattle.vk_make.specs.declared.answers.MakeEnd.{MakeEnd}
use Rattle.vk_make.specs.Makes.{Supplies, Work, OneMade, AllMade, Have, Planned, next_item, add_item, make_one, items_in, supplied}
use Rattle.vk_shared.specs.Tasks.{task_view}
use Rattle.vk_shared.specs.ItemMachine.{item_left, after_waiting}
use Rattle.vk_shared.specs.declared.makings.Shop.{Shop}
use Rattle.vk_shared.specs.declared.makings.MakeNow.{MakeNow}
use Rattle.vk_shared.specs.declared.makings.MakeNow.TheVariants as now
use Rattle.vk_shared.specs.declared.makings.Making.{Making}
use Rattle.vk_shared.specs.declared.makings.Stage.{Stage}
use Rattle.vk_shared.specs.declared.makings.Stage.TheVariants as stage

abbrev pub shop_work : Supplies → Shop → Work
shop_work s shop = record { cache = shop.cache; agent = shop.agent; most = shop.most; supplies = s }

abbrev pub new_work : Supplies → Path → List ℕ → ℕ → Work
new_work s cache agent most = record { cache = cache; agent = agent; most = most; supplies = s }

-- what is left of an item, and then all later ones
abbrev pub then_later : Work → List Planned → Have → Protocol OneMade → Protocol AllMade
then_later w later have p = p >>= on_ok (add_item have) >>= on_ok (each (make_one w) later) >>= λ r. ends (items_in r)

abbrev pub ended_left : Stop MakeEnd → Left AllMade
ended_left (Fault why) = goes (ends (Err why))
ended_left Failed = stopped
ended_left (Memory m) = stopped

abbrev pub now_left : Work → List Planned → Have → MakeNow → Left AllMade
now_left w later have (now.Makes t at) = goes (then_later w later have (item_left w (next_item (task_view t) have) at))
now_left w later have (now.Waits t mark folder) = goes (then_later w later have (supplied w (next_item (task_view t) have) mark (w.supplies (length have.items.packages) folder)))
now_left w later have now.Done = goes (ends (Ok have.items))
now_left w later have (now.Ended why) = ended_left why

-- what is left of the whole, by what will be supplied
unfoldable pub make_left : Supplies → Making → Left AllMade
make_left s m = now_left (shop_work s m.shop) m.later m.have m.at

-- the next call may be made
abbrev pub CanGo : {A : Type 0} → Left A → Disk → Type 0
CanGo (goes p) d = CanAsk p d
CanGo stopped d = Unit {0}

-- exactly the call that is asked was made, and this is left of what its reply leads to; or it stopped there
abbrev pub GoesOn : {A : Type 0} → Left A → Result (Unit {0}) Outage → Left A → State → State → Type 0
GoesOn (goes p) (Ok u) (goes q) before after = Stepped p (Ok u) q before after
GoesOn (goes p) (Ok u) stopped before after = ⊥
GoesOn (goes p) (Err e) next before after = Stepped p (Err e) p before after × (next ≡ stopped)
GoesOn stopped result next before after = ⊥

-- a call was made, and this is what it is to do next; or it stopped
abbrev pub MakesOn : Protocol AllMade → (MakeNow → Left AllMade) → Result MakeNow Outage → State → State → Type 0
MakesOn p means (Ok at) before after = (q : Protocol AllMade) × (means at ≡ goes q) × Stepped p (Ok tt) q before after
MakesOn p means (Err e) before after = Stepped p (Err e) p before after

-- the same of what was left
abbrev pub GoesTo : Left AllMade → Result MakeNow Outage → (MakeNow → Left AllMade) → State → State → Type 0
GoesTo (goes p) result means before after = MakesOn p means result before after
GoesTo stopped result means before after = ⊥

-- ---- what callers see

abbrev pub packages_of : Making → List (List File)
packages_of m = m.have.items.packages

-- the place of the item that is made or waits
abbrev pub place_of : Making → ℕ
place_of m = length (packages_of m)

abbrev pub stage_at : ℕ → MakeNow → Stage
stage_at place (now.Makes t at) = stage.Calls
stage_at place (now.Waits t mark folder) = stage.Builds place
stage_at place now.Done = stage.Done
stage_at place (now.Ended why) = stage.Ended

abbrev pub stage_of : Making → Stage
stage_of m = stage_at (place_of m) m.at

-- the files of the port's folder of the item that waits
abbrev pub folder_at : MakeNow → List File
folder_at (now.Makes t at) = []
folder_at (now.Waits t mark folder) = folder
folder_at now.Done = []
folder_at (now.Ended why) = []

abbrev pub folder_of : Making → List File
folder_of m = folder_at m.at

abbrev pub end_at : MakeNow → Option (Stop MakeEnd)
end_at (now.Makes t at) = None
end_at (now.Waits t mark folder) = None
end_at now.Done = None
end_at (now.Ended why) = Some why

abbrev pub end_of : Making → Option (Stop MakeEnd)
end_of m = end_at m.at

-- how many more calls there may be
abbrev pub calls_left : Making → ℕ
calls_left m = m.left

-- the first place whose item may still come to wait
abbrev pub waits_from_at : ℕ → MakeNow → ℕ
waits_from_at place (now.Makes t at) = after_waiting place at
waits_from_at place (now.Waits t mark folder) = place
waits_from_at place now.Done = place
waits_from_at place (now.Ended why) = place + 1

abbrev pub waits_from : Making → ℕ
waits_from m = waits_from_at (place_of m) m.at

-- an item waits for its package
abbrev pub IsWaiting : Stage → Type 0
IsWaiting stage.Calls = ⊥
IsWaiting (stage.Builds place) = Unit {0}
IsWaiting stage.Done = ⊥
IsWaiting stage.Ended = ⊥
