use Rattle.std.proofs.Common.{map}
use Rattle.std.proofs.lemmas.Result.{err_from_is_err_and}
use Rattle.vk_base.specs.Stops.{fault_in}
use Rattle.vk_words.specs.Arguments.{argument_at, arguments_in}
use Rattle.vk_words.specs.WordViews.{word_view}
use Rattle.vk_words.proofs.ArgumentLemmas.{word_goes_on, word_ends, words_end}
use Rattle.vk_words.proofs.arguments.arguments_in.Goals as goal

pub returns-in_err-argument : goal.returns-in_err-argument
returns-in_err-argument c =
    let p = err_from_is_err_and c.from_residual.result c.from_residual.ensures.1 in
    rw (p.1, p.2)
    (word_ends (argument_at c.args.command) (fault_in c.in_err-argument.field-0.0) c.loop-place.arguments
    c.loop-place.place c.args.words.now c.index-words-place.result
    (arguments_in c.args.command (map word_view c.args.words.now)) c.loop-place-test.true c.index-words-place.is
    (rw c.as_slice.ensures at c.in_err-argument.ensures) c.loop-place.invariant)

pub loop-place-preserved : goal.loop-place-preserved
loop-place-preserved c =
    rw c.in_ok-push.ensures.ok
    (word_goes_on (argument_at c.args.command) c.loop-place.arguments c.in_ok-argument.argument
    c.loop-place.place c.args.words.now c.index-words-place.result
    (arguments_in c.args.command (map word_view c.args.words.now)) c.loop-place-test.true c.index-words-place.is
    (rw c.as_slice.ensures at c.in_ok-argument.ensures) c.loop-place.invariant)

pub returns : goal.returns
returns c =
    words_end (argument_at c.args.command) c.loop-place.arguments c.loop-place.place c.args.words.now
    (arguments_in c.args.command (map word_view c.args.words.now)) c.loop-place-test.false c.loop-place.invariant
