-- The folders that stand before every registry: each is a port, or holds ports.
use Rattle.std.specs.Prelude.{List, Result, Ok}
use Rattle.vk_spec.specs.Reading.{◌>>=◌, read_each}
use Rattle.vk_spec.specs.Paths.{Path}
use Rattle.vk_spec.specs.Files.{Files}
use Rattle.vk_files.specs.Readings.{Standing, missing, too_long, readable, standing_at}
use Rattle.vk_spec.specs.Earlies.{Early}
use Rattle.vk_opening.specs.Roots.{port_in, early_at}
use Rattle.vk_opening.specs.Projects.{manifest_path}
use Rattle.vk_opening.specs.Layouts.{Overlay, is_port, has_ports}

-- a folder with a manifest is the port of that manifest
abbrev pub port_at : Path → Files → Result Overlay Early
port_at folder files = early_at port_in (manifest_path folder) files >>= λ manifest. Ok (is_port folder manifest)

abbrev pub overlay_by : Standing → Path → Files → Result Overlay Early
overlay_by missing folder files = Ok (has_ports folder)
overlay_by too_long folder files = port_at folder files
overlay_by readable folder files = port_at folder files

-- a folder is a port where a manifest stands in it
unfoldable pub overlay_at : Path → Files → Result Overlay Early
overlay_at folder files = overlay_by (standing_at (manifest_path folder) files) folder files

unfoldable pub overlays_at : List Path → Files → Result (List Overlay) Early
overlays_at folders files = read_each (λ _ folder. overlay_at folder files) 0 folders
