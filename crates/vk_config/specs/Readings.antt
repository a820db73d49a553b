-- The configuration that a document is, in the order in which it is read.
use Rattle.std.specs.Prelude.{ℕ, List, [], Option, Some, None, Result, Ok, codes, if◌then◌else◌}
use Rattle.std.specs.Option.{is_some}
use Rattle.serde_json.specs.Find.{as_null}
use Rattle.vk_spec.specs.Reading.{◌>>=◌}
use Rattle.vk_spec.specs.Paths.{Path}
use Rattle.vk_json.specs.Documents.{json_of}
use Rattle.vk_json.specs.declared.faults.FileFault.{FileFault}
use Rattle.vk_json.specs.Readings.{Reading, object_at, optional_or, each_item}
use Rattle.vk_fields.specs.Texts.{path_at}
use Rattle.vk_config.specs.Configs.{Source, Registry, Config}
use Rattle.vk_config.specs.Registries.{source_at, registry_at}

-- nothing for null, else a value
abbrev pub unless_null : {A : Type 0} → Reading A → Reading (Option A)
unless_null f d = if is_some (as_null d) then Ok None else (f d >>= λ x. Ok (Some x))

-- paths under a key; where it is missing, there are none
abbrev pub paths_under : List ℕ → Reading (List Path)
paths_under = optional_or [] (each_item path_at)

-- the registries; where the key is missing, there are none
abbrev pub registries_in : Reading (List Registry)
registries_in = optional_or [] (each_item registry_at) (codes "registries")

-- the default registry, which may be missing or null
abbrev pub default_in : Reading (Option Source)
default_in = optional_or None (unless_null source_at) (codes "default-registry")

unfoldable pub config_at : Reading Config
config_at d = do
  object ← object_at d
  default ← default_in d
  overlay_ports ← paths_under (codes "overlay-ports") d
  overlay_triplets ← paths_under (codes "overlay-triplets") d
  registries ← registries_in d
  Ok (record {
    registries =
        registries;
    default =
        default;
    overlay_ports = overlay_ports;
    overlay_triplets = overlay_triplets;
  })

-- the configuration of a file, by its bytes
abbrev pub config_of : List ℕ → Result Config FileFault
config_of bytes = json_of bytes >>= config_at
