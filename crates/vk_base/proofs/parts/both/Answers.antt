use Rattle.std.proofs.Common.{sym, ◌∙◌}
use Rattle.std.specs.Prelude.{string_bytes}
use Rattle.vk_base.proofs.PartLemmas.{some_bytes, three_texts}
use Rattle.vk_base.proofs.parts.both.Goals as goal

pub returns : goal.returns
returns c =
    let some = some_bytes c.args.front.now (sym c.is_empty.ensures ∙ c.if-is_empty.false) in
    let more = some_bytes c.args.more.now (sym c.is_empty-2.ensures ∙ c.if-is_empty-2.false) in
    three_texts (string_bytes c.in_ok-text.text) c.args.front.now c.args.more.now (string_bytes c.push_str.new.self) (string_bytes c.push_str-2.new.self) (string_bytes c.push_str-3.new.self)
    c.in_ok-text.ensures.bytes c.in_ok-push_str.ensures.bytes c.in_ok-push_str-2.ensures.bytes c.in_ok-push_str-3.ensures.bytes some more
