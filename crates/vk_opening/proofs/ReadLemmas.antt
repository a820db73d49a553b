-- Two triplets, one after the other.
use Rattle.std.specs.Prelude.{ℕ, List, Result, Ok}
use Rattle.vk_spec.specs.Reading.{◌>>=◌}
use Rattle.vk_spec.specs.Paths.{Path}
use Rattle.vk_spec.specs.Files.{Files}
use Rattle.vk_spec.specs.Earlies.{Early}
use Rattle.vk_triplet.specs.TripletReadings as plain
use Rattle.vk_opening.specs.TripletFiles.{Triplets, triplet_at}

-- what is read after the first triplet, and after the second
abbrev pub after_second : plain.Triplet → plain.Triplet → Files → Result Triplets Early
after_second first second files = Ok (record { target = first; host = second })

abbrev pub after_first : List ℕ → List Path → plain.Triplet → Files → Result Triplets Early
after_first host folders first files = triplet_at host folders files >>= λ second. after_second first second files
