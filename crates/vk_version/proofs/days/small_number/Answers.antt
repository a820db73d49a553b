use Rattle.std.proofs.Common.{refl}
use Rattle.vk_version.proofs.DigitLemmas.{text_there, few_parsed, digits_below}
use Rattle.vk_version.proofs.days.small_number.Goals as goal

pub unwrap-requires : goal.unwrap-requires
unwrap-requires c =
    text_there _ _ c.args.digits.now c.from_utf8.result c.requires.digits c.from_utf8.ensures.cases

pub unwrap-requires-2 : goal.unwrap-requires-2
unwrap-requires-2 c =
    let text = (rw c.unwrap.ensures at c.from_utf8.ensures.cases).0 in
    rw (few_parsed c.args.digits.now c.unwrap.result.now c.parse.result text
    c.parse.ensures.value.0 c.requires.some c.requires.few c.requires.digits) refl

pub returns-clause-value : goal.returns-clause-value
returns-clause-value c =
    let text = (rw c.unwrap.ensures at c.from_utf8.ensures.cases).0 in
    let read =
    few_parsed c.args.digits.now c.unwrap.result.now c.parse.result text
    c.parse.ensures.value.0 c.requires.some c.requires.few c.requires.digits in
    (cc (read, c.unwrap-2.ensures))

pub returns-clause-small : goal.returns-clause-small
returns-clause-small c =
    rw (returns-clause-value c) (digits_below c.args.digits.now c.requires.digits)
