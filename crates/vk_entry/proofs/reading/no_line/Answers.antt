use Rattle.std.proofs.Common.{sym, ◌∙◌, true, false, ◌≡◌}
use Rattle.vk_entry.proofs.ReadLemmas.{some_bytes, other_bytes}
use Rattle.vk_entry.proofs.reading.no_line.Goals as goal

pub returns : goal.returns
returns c =
    other_bytes c.args.bytes.now (some_bytes c.args.bytes.now c.is_empty.result c.is_empty.ensures c.if-is_empty.false) c.requires
    (λ is. let clash : true ≡ false = sym (c.is_heading.ensures.1 is) ∙ c.if-is_heading.false in (cc))
