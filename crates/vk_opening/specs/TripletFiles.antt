-- The triplet of a name: the first file of that name in folders of triplets.
use Rattle.std.specs.Prelude.{ℕ, List, map, Option, Some, None, Result, Ok, Err}
use Rattle.std.specs.List.{find}
use Rattle.vk_spec.specs.Reading.{◌>>=◌}
use Rattle.vk_spec.specs.Paths.{Path}
use Rattle.vk_spec.specs.Files.{Files}
use Rattle.vk_json.specs.declared.faults.Why.{Why}
use Rattle.vk_json.specs.declared.faults.Why.TheVariants as why
use Rattle.vk_json.specs.declared.faults.FileFault.{FileFault}
use Rattle.vk_fields.specs.Saying.{said_here}
use Rattle.vk_triplet.specs.declared.faults.TripletFault.{TripletFault}
use Rattle.vk_triplet.specs.declared.faults.TripletFault.TheVariants as triplet_fault
use Rattle.vk_triplet.specs.TripletReadings.{Triplet, triplet_of}
use Rattle.vk_files.specs.Readings.{is_at}
use Rattle.vk_spec.specs.Earlies.{Early, no_triplet}
use Rattle.vk_opening.specs.Roots.{early_at}
use Rattle.vk_opening.specs.Projects.{triplet_path}

-- the word for what is wrong with a triplet file
abbrev pub triplet_word : TripletFault → Why
triplet_word (triplet_fault.Line n) = why.Line n
triplet_word triplet_fault.NotText = why.Utf8

-- the triplet that a file of this name is; its faults are told of the whole
unfoldable pub triplet_in : List ℕ → List ℕ → Result Triplet FileFault
triplet_in name bytes = said_here triplet_word (triplet_of name bytes)

abbrev pub triplet_from : List ℕ → Option Path → Files → Result Triplet Early
triplet_from name None files = Err (no_triplet name)
triplet_from name (Some path) files = early_at (triplet_in name) path files

-- the triplet of a name: the first of its files in folders that is there
unfoldable pub triplet_at : List ℕ → List Path → Files → Result Triplet Early
triplet_at name folders files =
    triplet_from name (find (is_at files) (map (triplet_path name) folders)) files

-- the triplet that is built for, and that of the machine that builds
pub record Triplets : Type 0 where
  pub target : Triplet
  pub host : Triplet

-- the triplets of two names, which may be one
unfoldable pub triplets_at : List ℕ → List ℕ → List Path → Files → Result Triplets Early
triplets_at target host folders files = do
  first ← triplet_at target folders files
  second ← triplet_at host folders files
  Ok (record { target = first; host = second })
