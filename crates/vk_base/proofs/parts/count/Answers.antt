use Rattle.std.proofs.Common.{◌+◌, ◌==◌, ap, sym, ◌∙◌}
use Rattle.std.specs.List.{count_by}
use Rattle.vk_base.proofs.PartLemmas.{some_bytes, count_parts}
use Rattle.vk_base.proofs.parts.count.Goals as goal

pub returns : goal.returns
returns c =
    ap (λ n. n + 1) (c.slashes.ensures ∙ ap (count_by (λ b. b == 47)) c.as_bytes.ensures.value)
    ∙ sym (count_parts c.args.text.now (some_bytes c.args.text.now (sym c.is_empty.ensures ∙ c.if-is_empty.false)))
