use Rattle.std.proofs.Common.{◌≡◌, Some, None, if◌then◌else◌, map, take}
use Rattle.std.specs.List.{list_any}
use Rattle.std.specs.Option.{option_or}
use Rattle.vk_config.specs.Configs.{Pattern}
use Rattle.vk_config.specs.FirstPlaces.{is_same}
use Rattle.vk_config.specs.IndexViews.{index_view}
use Rattle.vk_config.specs.RegistryViews.{pattern_view}
use Rattle.vk_config.proofs.pattern_indexes.PatternIndex.put_all.Given as goal

abbrev pub invariant-loop-pattern : goal.invariant-loop-pattern
invariant-loop-pattern l =
    (wanted : Pattern) → index_view l.self wanted ≡ option_or (index_view l.fn.self wanted)
    (if list_any (is_same wanted) (map pattern_view (take l.pattern-index l.patterns)) then Some
    l.place else None)
