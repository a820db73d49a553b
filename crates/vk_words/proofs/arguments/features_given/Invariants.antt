use Rattle.std.proofs.Common.{◌≡◌, take}
use Rattle.std.specs.List.{filter_map}
use Rattle.vk_words.specs.Arguments.{feature_by}
use Rattle.vk_words.proofs.arguments.features_given.Given as goal

abbrev pub invariant-loop-argument : goal.invariant-loop-argument
invariant-loop-argument l = l.features ≡ filter_map feature_by (take l.argument-index l.arguments)
