use Rattle.std.proofs.Common.{refl}
use Rattle.std.specs.Fmt.{decimal}
use Rattle.vk_version.proofs.DigitLemmas.{number_digits, decimal_number, digits_number}
use Rattle.vk_version.proofs.laws.numbers_are_decimal.Goals as goal

pub returns-clause-digits : goal.returns-clause-digits
returns-clause-digits c = number_digits

pub returns-clause-number : goal.returns-clause-number
returns-clause-number c = decimal_number

pub returns-clause-value : goal.returns-clause-value
returns-clause-value c = λ n small. digits_number n (decimal n) small refl
