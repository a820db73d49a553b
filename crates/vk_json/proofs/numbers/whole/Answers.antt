use Rattle.std.proofs.Common.{option_and_then, false, drop, ap, sym, ◌∙◌}
use Rattle.fast_float.specs.Text.{scan}
use Rattle.serde_json.specs.Find.{as_u64}
use Rattle.serde_json.specs.Read.{number_of, number_from}
use Rattle.vk_json.proofs.NumberLemmas.{below_zero, with_minus, without_minus}
use Rattle.vk_json.proofs.numbers.whole.Goals as goal

pub returns-then-has_minus : goal.returns-then-has_minus
returns-then-has_minus c =
    let s = c.as_bytes-bytes.result.now in
    sym (below_zero (scan (drop 1 s))) ∙ ap (option_and_then as_u64) (sym (with_minus s (sym c.if-has_minus.ensures.value)))
    ∙ ap (λ t. option_and_then as_u64 (number_of t)) c.as_bytes-bytes.ensures.value

pub returns : goal.returns
returns c =
    let s = c.as_bytes-bytes.result.now in
    c.unsigned.ensures ∙ ap (λ p. option_and_then as_u64 (number_from false p)) c.scan.ensures.parts
    ∙ ap (option_and_then as_u64) (sym (without_minus s (sym c.if-has_minus.ensures.value)))
    ∙ ap (λ t. option_and_then as_u64 (number_of t)) c.as_bytes-bytes.ensures.value
