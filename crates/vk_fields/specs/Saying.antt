-- What a text reads as, told of the value that is the text.
use Rattle.std.specs.Prelude.{◌≡◌, option_map, Result, Ok, Err}
use Rattle.vk_base.specs.Stops.{fault_in}
use Rattle.vk_base.specs.declared.stops.Unread.{Unread}
use Rattle.vk_json.specs.declared.faults.FileFault.{FileFault}
use Rattle.vk_json.specs.declared.faults.Why.{Why}
use Rattle.vk_json.specs.Places.{here}

-- what a rule says of the value itself, its fault by its word
abbrev pub said_here : {A F : Type 0} → (F → Why) → Result A F → Result A FileFault
said_here word (Ok x) = Ok x
said_here word (Err fault) = Err (here (word fault))

-- the same value, or the fault by its word; out of memory stays
abbrev pub IsSaid : {A F : Type 0}
    → (F → Why) → Result A (Unread F) → Result A (Unread FileFault) → Type 0
IsSaid word (Ok x) (Ok said) = said ≡ x
IsSaid word (Err e) (Err said) =
    fault_in said ≡ option_map (λ fault. here (word fault)) (fault_in e)
IsSaid word (Ok x) (Err said) = ⊥
IsSaid word (Err e) (Ok said) = ⊥
