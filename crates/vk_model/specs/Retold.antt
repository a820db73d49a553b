-- Reading of which one fault alone is told.
use Rattle.std.specs.Prelude.{Result, Ok, Err}

-- what reads, and otherwise this fault, whatever the fault was
abbrev pub told_as : {A F G : Type 0} → G → Result A F → Result A G
told_as fault (Ok x) = Ok x
told_as fault (Err other) = Err fault
