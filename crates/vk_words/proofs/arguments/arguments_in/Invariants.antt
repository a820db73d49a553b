use Rattle.std.proofs.Common.{◌≡◌, map}
use Rattle.vk_words.specs.Arguments.{argument_at, arguments_in}
use Rattle.vk_words.specs.WordViews.{word_view}
use Rattle.vk_words.proofs.ArgumentLemmas.{left_after}
use Rattle.vk_words.proofs.arguments.arguments_in.Given as goal

abbrev pub invariant-loop-place : goal.invariant-loop-place
invariant-loop-place l =
    left_after (argument_at l.command) l.arguments l.place l.words
    ≡ arguments_in l.command (map word_view l.words)
