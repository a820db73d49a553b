-- What is known of a project before any port is looked at.
use Rattle.std.specs.Prelude.{List}
use Rattle.vk_spec.specs.Paths.{Path}
use Rattle.vk_spec.specs.Manifests.{Manifest, Override}
use Rattle.vk_spec.specs.Conditions.{Condition}
use Rattle.vk_config.specs.Configs.{Config}

-- a folder that stands before every registry: it is itself a port, with this manifest, or it holds ports
pub data Overlay : Type 0 where
  is_port : Path → Manifest Condition → Overlay
  has_ports : Path → Overlay

-- the project's folder, its configuration, its overlays in order, and the overrides of its root manifest
pub record Layout : Type 0 where
  pub folder : Path
  pub config : Config
  pub overlays : List Overlay
  pub overrides : List Override
