-- How what a part answers in place of a value becomes what the whole answers.
use Rattle.std.specs.Prelude.{◌≡◌, List, ℕ, Option, Some, None, option_map}
use Rattle.vk_base.specs.Stops.{fault_in}
use Rattle.vk_base.specs.declared.stops.Unread.{Unread}
use Rattle.vk_json.specs.Places.{moved}
use Rattle.vk_json.specs.declared.faults.FileFault.{FileFault}

-- a fault that is told is this one; none is told where memory ran out
abbrev pub Tells : {F : Type 0} → Option F → Option F → Type 0
Tells None fault = Unit {0}
Tells (Some f) fault = fault ≡ Some f

-- the whole tells the part's fault from outside
abbrev pub IsMoved : List ℕ → Unread FileFault → Unread FileFault → Type 0
IsMoved step part whole = Tells (fault_in whole) (option_map (moved step) (fault_in part))
