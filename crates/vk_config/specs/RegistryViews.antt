-- What contracts see of a registry: plain data.
use Rattle.std.specs.Prelude.{map}
use Rattle.vk_config.specs.Configs as plain
use Rattle.vk_config.specs.declared.patterns.Pattern.{Pattern}
use Rattle.vk_config.specs.declared.patterns.Pattern.TheVariants as pattern
use Rattle.vk_config.specs.declared.registries.Source.{Source}
use Rattle.vk_config.specs.declared.registries.Source.TheVariants as source
use Rattle.vk_config.specs.declared.registries.Registry.{Registry}

abbrev pub pattern_view : Pattern → plain.Pattern
pattern_view (pattern.Exact name) = plain.exact name
pattern_view (pattern.Prefix text) = plain.starting text

abbrev pub source_view : Source → plain.Source
source_view (source.Filesystem path baseline) = plain.filesystem path baseline
source_view source.Git = plain.git
source_view source.Builtin = plain.builtin
source_view source.Artifact = plain.artifact

abbrev pub registry_view : Registry → plain.Registry
registry_view r = record { source = source_view r.source; packages = map pattern_view r.packages }
