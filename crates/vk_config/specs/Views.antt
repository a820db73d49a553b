-- What contracts see of a configuration: plain data.
use Rattle.std.specs.Prelude.{map, option_map}
pub use Rattle.vk_config.specs.RegistryViews.{pattern_view, source_view, registry_view}
use Rattle.vk_config.specs.Configs as plain
use Rattle.vk_config.specs.Registries as kind
use Rattle.vk_config.specs.declared.registries.Kind.{Kind}
use Rattle.vk_config.specs.declared.registries.Kind.TheVariants as declared_kind
use Rattle.vk_config.specs.declared.configs.Config.{Config}
use Rattle.vk_config.specs.declared.configs.Embedded.{Embedded}
use Rattle.vk_config.specs.declared.configs.Embedded.TheVariants as embedded

abbrev pub kind_view : Kind → kind.Kind
kind_view declared_kind.Filesystem = kind.in_folder
kind_view declared_kind.Git = kind.in_git
kind_view declared_kind.Builtin = kind.built_in
kind_view declared_kind.Artifact = kind.of_artifacts

abbrev pub config_view : Config → plain.Config
config_view c =
    record {
      registries =
          map registry_view c.registries;
      default =
          option_map source_view c.default;
      overlay_ports =
          c.overlay_ports;
      overlay_triplets = c.overlay_triplets;
    }

abbrev pub embedded_view : Embedded → plain.Embedded
embedded_view embedded.Nothing = plain.nothing
embedded_view (embedded.One config) = plain.one (config_view config)
embedded_view embedded.Two = plain.two
