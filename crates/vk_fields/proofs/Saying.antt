-- A fault that is told by its word.
use Rattle.std.proofs.Common.{◌≡◌, refl}
use Rattle.std.specs.Prelude.{Option, Some, None, option_map, Result, Ok, Err}
use Rattle.vk_spec.specs.Reading.{Fails, Gives}
use Rattle.vk_base.specs.Stops.{fault_in}
use Rattle.vk_base.specs.declared.stops.Unread.{Unread}
use Rattle.vk_json.specs.declared.faults.FileFault.{FileFault}
use Rattle.vk_json.specs.declared.faults.Why.{Why}
use Rattle.vk_json.specs.Places.{here}
use Rattle.vk_fields.specs.Saying.{said_here, IsSaid}

-- the fault that a rule told is, by its word, the fault of the value
pub said_fails : {A F : Type 0} (word : F → Why) (part : Option F) (whole : Option FileFault) (said : Result A F) → Fails part said → whole ≡ option_map (λ f. here (word f)) part → Fails whole (said_here word said)
said_fails word None whole said fails is = rw is tt
said_fails word (Some f) whole said fails is = rw (is, fails) refl

-- what a rule gives of a text is given of the value that is the text
pub said_gives : {X A F : Type 0} (view : X → A) (word : F → Why) (part : Result X (Unread F)) (whole : Result X (Unread FileFault)) (read : Result A F) → Gives view fault_in part read → IsSaid word part whole → Gives view fault_in whole (said_here word read)
said_gives view word (Ok x) (Ok y) read gives is = rw (gives, is) refl
said_gives view word (Err e) (Err f) read gives is = said_fails word (fault_in e) (fault_in f) read gives is
said_gives view word (Ok x) (Err f) read gives is = absurd is
said_gives view word (Err e) (Ok y) read gives is = absurd is
