use Rattle.std.proofs.Common.{◌≡◌, map, take}
use Rattle.vk_config.specs.Configs.{Pattern}
use Rattle.vk_config.specs.FirstPlaces.{first_with}
use Rattle.vk_config.specs.IndexViews.{index_view}
use Rattle.vk_config.specs.RegistryViews.{registry_view}
use Rattle.vk_config.proofs.pattern_indexes.PatternIndex.of.Given as goal

abbrev pub invariant-loop-place : goal.invariant-loop-place
invariant-loop-place l =
    (pattern : Pattern) → index_view l.index pattern
    ≡ first_with (map registry_view (take l.place l.registries)) pattern
