use Rattle.vk_words.specs.Arguments.{path_by}
use Rattle.vk_words.proofs.GivenLemmas.{one_more}
use Rattle.vk_words.proofs.arguments.paths_given.Goals as goal

pub loop-argument-preserved : goal.loop-argument-preserved
loop-argument-preserved c =
    one_more (path_by c.args.option) c.args.arguments.now c.loop-argument.argument-index c.argument-item.result
    c.loop-argument.paths c.push_path.new.paths c.loop-argument-test.true c.argument-item.is
    c.loop-argument.invariant c.in_ok-push_path.ensures
