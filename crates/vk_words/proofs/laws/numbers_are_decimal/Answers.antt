use Rattle.vk_words.proofs.NumberLemmas.{numbers_are_decimal, decimals_are_numbers}
use Rattle.vk_words.proofs.laws.numbers_are_decimal.Goals as goal

pub returns-clause-digits : goal.returns-clause-digits
returns-clause-digits c = numbers_are_decimal

pub returns-clause-read : goal.returns-clause-read
returns-clause-read c = decimals_are_numbers
