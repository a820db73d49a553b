-- What single steps of reading a configuration say.
use Rattle.std.specs.Prelude.{List, Option, Ok, codes}
use Rattle.vk_spec.specs.Reading.{◌>>=◌}
use Rattle.vk_spec.specs.Paths.{Path}
use Rattle.vk_json.specs.Readings.{Reading}
use Rattle.vk_config.specs.Configs.{Source, Config}
use Rattle.vk_config.specs.Readings.{paths_under, registries_in}

-- the default registry and the overlays, and then the registries
abbrev pub with_registries : Option Source → List Path → List Path → Reading Config
with_registries default overlay_ports overlay_triplets d = do
  registries ← registries_in d
  Ok (record {
    registries =
        registries;
    default =
        default;
    overlay_ports = overlay_ports;
    overlay_triplets = overlay_triplets;
  })

-- the default registry, and then the overlays
abbrev pub with_overlays : Option Source → Reading Config
with_overlays default d = do
  overlay_ports ← paths_under (codes "overlay-ports") d
  overlay_triplets ← paths_under (codes "overlay-triplets") d
  with_registries default overlay_ports overlay_triplets d
