-- The configuration of a project: in a file of its own, or in the root manifest under one of two keys.
use Rattle.std.specs.Prelude.{Result, Ok, Err, if◌then◌else◌}
use Rattle.vk_spec.specs.Reading.{◌>>=◌}
use Rattle.vk_spec.specs.Paths.{Path}
use Rattle.vk_spec.specs.Files.{Files}
use Rattle.vk_config.specs.Configs.{Config, no_config, Embedded, nothing, one, two}
use Rattle.vk_config.specs.Readings.{config_of}
use Rattle.vk_files.specs.Readings.{Standing, missing, too_long, readable, standing_at, early_of, or_told, told_at}
use Rattle.vk_spec.specs.Earlies.{Early, two_configurations}
use Rattle.vk_opening.specs.Roots.{OwnConfiguration, early_at}
use Rattle.vk_opening.specs.Projects.{manifest_path, config_path}

-- the configuration that counts, by what the root manifest has of it
abbrev pub only_of : Embedded → Result Config Early
only_of nothing = Ok no_config
only_of (one config) = Ok config
only_of two = Err two_configurations

-- the configuration in the root manifest, whose faults are told at its file
abbrev pub embedded_in : Path → OwnConfiguration → Result Config Early
embedded_in folder own = or_told early_of (told_at (manifest_path folder) own.embedded) >>= only_of

-- the file's configuration, unless the root manifest has one too
abbrev pub alone_in : Path → OwnConfiguration → Files → Result Config Early
alone_in folder own files = if own.is_there then Err two_configurations else early_at config_of (config_path folder) files

-- by how the configuration file stands: one that is too long is told first, and two configurations are told before any is read
abbrev pub config_by : Standing → Path → OwnConfiguration → Files → Result Config Early
config_by missing folder own files = embedded_in folder own
config_by too_long folder own files = early_at config_of (config_path folder) files
config_by readable folder own files = alone_in folder own files

-- the configuration of the project in a folder, by what its root manifest has of one
unfoldable pub config_in : Path → OwnConfiguration → Files → Result Config Early
config_in folder own files = config_by (standing_at (config_path folder) files) folder own files
