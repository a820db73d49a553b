-- A step that has a fault, in a reading that would go on.
use Rattle.std.proofs.Common.{refl}
use Rattle.std.specs.Prelude.{Option, Some, None, Result}
use Rattle.vk_spec.specs.Reading.{◌>>=◌, Fails}

pub fails_then : {A B F : Type 0} (told : Option F) (step : Result A F) (rest : A → Result B F)
    → Fails told step → Fails told (step >>= rest)
fails_then None step rest fails = tt
fails_then (Some fault) step rest fails = rw fails refl
