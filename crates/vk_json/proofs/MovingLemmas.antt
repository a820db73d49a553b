-- What a part gives, told from outside.
use Rattle.std.proofs.Common.{◌≡◌, List, ℕ}
use Rattle.std.specs.Prelude.{Option, Some, None, option_map, Result}
use Rattle.vk_spec.specs.Reading.{Fails}
use Rattle.vk_json.specs.declared.faults.FileFault.{FileFault}
use Rattle.vk_json.specs.Places.{moved, inside}
use Rattle.vk_json.specs.FaultViews.{Tells}

-- the fault that a part told, moved, is what the whole tells
pub moved_fails : {A : Type 0} (step : List ℕ) (part whole : Option FileFault) (read : Result A FileFault) → Fails part read → Tells whole (option_map (moved step) part) → Fails whole (inside step read)
moved_fails step part None read fails tells = tt
moved_fails step (Some f) (Some g) read fails tells = let same : Some (moved step f) ≡ Some g = tells in rw fails (cc)
moved_fails step None (Some g) read fails tells = let none : None ≡ Some g = tells in (cc)
