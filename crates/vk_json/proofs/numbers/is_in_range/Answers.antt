use Rattle.std.proofs.Common.{◌≡◌, false, true, drop, ap, sym, ◌∙◌}
use Rattle.std.specs.Option.{is_some}
use Rattle.serde_json.specs.Read.{number_of, number_from}
use Rattle.fast_float.specs.Text.{scan}
use Rattle.vk_json.proofs.NumberLemmas.{behind_first, with_minus, without_minus}
use Rattle.vk_json.proofs.numbers.is_in_range.Goals as goal

pub returns-then-has_minus : goal.returns-then-has_minus
returns-then-has_minus c =
    let s = c.as_bytes-bytes.result.now in
    let parts : c.scan.result ≡ scan (drop 1 s) = c.scan.ensures.parts ∙ ap scan (behind_first s) in
    c.is_negative_in_range.ensures ∙ ap (λ p. is_some (number_from true p)) parts
    ∙ ap is_some (sym (with_minus s (sym c.if-has_minus.ensures.value))) ∙ ap (λ t. is_some (number_of t)) c.as_bytes-bytes.ensures.value

pub returns : goal.returns
returns c =
    let s = c.as_bytes-bytes.result.now in
    c.is_unsigned_in_range.ensures ∙ ap (λ p. is_some (number_from false p)) c.scan-2.ensures.parts
    ∙ ap is_some (sym (without_minus s (sym c.if-has_minus.ensures.value))) ∙ ap (λ t. is_some (number_of t)) c.as_bytes-bytes.ensures.value
