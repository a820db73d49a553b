use Rattle.std.proofs.Common.{◌≡◌, take}
use Rattle.std.specs.List.{filter_map}
use Rattle.vk_words.specs.Arguments.{path_by}
use Rattle.vk_words.proofs.arguments.paths_given.Given as goal

abbrev pub invariant-loop-argument : goal.invariant-loop-argument
invariant-loop-argument l = l.paths ≡ filter_map (path_by l.option) (take l.argument-index l.arguments)
