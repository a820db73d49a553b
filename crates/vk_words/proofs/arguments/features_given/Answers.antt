use Rattle.vk_words.specs.Arguments.{feature_by}
use Rattle.vk_words.proofs.GivenLemmas.{one_more}
use Rattle.vk_words.proofs.arguments.features_given.Goals as goal

pub loop-argument-preserved : goal.loop-argument-preserved
loop-argument-preserved c =
    one_more feature_by c.args.arguments.now c.loop-argument.argument-index c.argument-item.result
    c.loop-argument.features c.push_feature.new.features c.loop-argument-test.true c.argument-item.is
    c.loop-argument.invariant c.in_ok-push_feature.ensures
