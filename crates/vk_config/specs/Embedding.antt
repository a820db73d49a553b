-- The configuration in a root manifest.
use Rattle.std.specs.Prelude.{◌&&◌, ℕ, Bool, List, Option, Some, None, Result, Ok, codes}
use Rattle.std.specs.Prelude.{if◌then◌else◌}
use Rattle.std.specs.Option.{is_some}
use Rattle.serde_json.specs.Data.{Data}
use Rattle.serde_json.specs.Find.{get}
use Rattle.vk_spec.specs.Reading.{◌>>=◌}
use Rattle.vk_json.specs.Documents.{json_of}
use Rattle.vk_json.specs.declared.faults.FileFault.{FileFault}
use Rattle.vk_json.specs.Readings.{Reading, optional}
use Rattle.vk_config.specs.Configs.{Config, Embedded, nothing, one, two}
use Rattle.vk_config.specs.Readings.{config_at}

abbrev pub first_key : List ℕ
first_key = codes "vcpkg-configuration"

abbrev pub second_key : List ℕ
second_key = codes "configuration"

-- a key that is there counts, whatever its value is
abbrev pub has_both : Data → Bool
has_both d = is_some (get first_key d) && is_some (get second_key d)

abbrev pub either : Option Config → Option Config → Embedded
either (Some config) other = one config
either None (Some config) = one config
either None None = nothing

-- the configuration under the one key that is there
unfoldable pub only_one : Reading Embedded
only_one d = do
  first ← optional config_at first_key d
  second ← optional config_at second_key d
  Ok (either first second)

-- two are told before either is read
unfoldable pub embedded_at : Reading Embedded
embedded_at d = if has_both d then Ok two else only_one d

-- the configuration in a root manifest, by its bytes
abbrev pub embedded_of : List ℕ → Result Embedded FileFault
embedded_of bytes = json_of bytes >>= embedded_at
