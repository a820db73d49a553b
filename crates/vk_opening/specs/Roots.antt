-- The early files one by one: a file as a root manifest, and a fault as an early line.
use Rattle.std.specs.Prelude.{ℕ, Bool, true, false, ◌||◌, List, Result, Ok}
use Rattle.std.specs.Option.{is_some}
use Rattle.serde_json.specs.Data.{Data}
use Rattle.serde_json.specs.Find.{get}
use Rattle.vk_spec.specs.Reading.{◌>>=◌}
use Rattle.vk_spec.specs.Paths.{Path}
use Rattle.vk_spec.specs.Files.{Files}
use Rattle.vk_spec.specs.Manifests.{Manifest}
use Rattle.vk_spec.specs.Conditions.{Condition}
use Rattle.vk_json.specs.Documents.{json_of}
use Rattle.vk_json.specs.declared.faults.FileFault.{FileFault}
use Rattle.vk_manifest.specs.Manifests.{manifest_at, manifest_of}
use Rattle.vk_config.specs.Configs.{Embedded}
use Rattle.vk_config.specs.Embedding.{first_key, second_key, embedded_at}
use Rattle.vk_files.specs.Readings.{early_of, file_as}
use Rattle.vk_spec.specs.Earlies.{Early}

-- what the file at a path means, or the early line of its fault
abbrev pub early_at : {A : Type 0} → (List ℕ → Result A FileFault) → Path → Files → Result A Early
early_at reading path files = file_as early_of reading path files

-- a root manifest has a configuration where one of the two keys is there, whatever its value is
abbrev pub has_configuration : Data → Bool
has_configuration document = is_some (get first_key document) || is_some (get second_key document)

-- what a root manifest has of a configuration: whether it has one, and what is read of it
pub record OwnConfiguration : Type 0 where
  pub is_there : Bool
  pub embedded : Result Embedded FileFault

abbrev pub own_configuration : Data → OwnConfiguration
own_configuration document = record { is_there = has_configuration document; embedded = embedded_at document }

-- a root manifest, and the configuration in it
pub record Root : Type 0 where
  pub manifest : Manifest Condition
  pub configuration : OwnConfiguration

unfoldable pub root_in : List ℕ → Result Root FileFault
root_in bytes = do
  document ← json_of bytes
  manifest ← manifest_at true document
  Ok (record { manifest = manifest; configuration = own_configuration document })

-- the manifest of a port
abbrev pub port_in : List ℕ → Result (Manifest Condition) FileFault
port_in bytes = manifest_of bytes false
