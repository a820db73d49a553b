use Rattle.std.proofs.Common.{◌≡◌, ◌++◌, flat_map, take}
use Rattle.vk_config.specs.Views.{source_view}
use Rattle.vk_opening.specs.Stores.{source_folder}
use Rattle.vk_opening.proofs.stores.push_registries.Given as goal

abbrev pub invariant-loop-registry : goal.invariant-loop-registry
invariant-loop-registry l = l.folders ≡ l.initial.folders ++ flat_map (λ r. source_folder l.project (source_view r.source)) (take l.registry-index l.registries)
