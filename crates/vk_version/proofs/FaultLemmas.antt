-- What it means that there is no fault.
use Rattle.std.proofs.Common.{◌≡◌, Bool, true, false, Ok, refl}
use Rattle.vk_version.specs.Steps.{fits_if}

pub fits_if-Ok : (holds : Bool) → fits_if holds ≡ Ok tt → holds ≡ true
fits_if-Ok true e = refl
fits_if-Ok false e = (cc)
