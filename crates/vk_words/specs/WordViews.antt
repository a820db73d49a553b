-- Words as plain data.
use Rattle.std.specs.Prelude.{ℕ, List, map, option_map, Option, Some, None}
use Rattle.vk_base.specs.declared.words.Word.{Word}
use Rattle.vk_base.specs.declared.words.Word.TheVariants.{Text, NotText}
use Rattle.vk_words.specs.Words.{Words, Parts}
use Rattle.vk_words.specs.declared.arguments.Parts as made

abbrev pub word_view : Word → Option (List ℕ)
word_view (Text text) = Some text
word_view NotText = None

abbrev pub words_view : List Word → Words
words_view words = map word_view words

abbrev pub parts_view : made.Parts → Parts
parts_view parts = record { name = parts.name.now; value = option_map (λ text. text.now) parts.value }
