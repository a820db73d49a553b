use Rattle.std.proofs.Common.{◌++◌, ◌∷◌, [], length, subst, ◌<◌, ap, sym, ◌∙◌}
use Rattle.std.specs.Prelude.{string_bytes}
use Rattle.vk_base.proofs.PartLemmas.{some_bytes, no_bytes, pushed_first, pushed_next}
use Rattle.vk_base.proofs.parts.push_part.Goals as goal

pub returns-then-is_empty-clause-ok : goal.returns-then-is_empty-clause-ok
returns-then-is_empty-clause-ok c =
    pushed_first c.push_str.result (string_bytes c.args.text.now) (string_bytes c.push_str.new.self) c.args.part.now c.push_str.ensures.bytes
    (ap length (sym c.as_str.ensures.value) ∙ no_bytes c.as_str.result.now (sym c.is_empty.ensures ∙ c.if-is_empty.true)) c.requires

pub returns-clause-ok : goal.returns-clause-ok
returns-clause-ok c =
    pushed_next c.push_str-3.result (string_bytes c.args.text.now) (string_bytes c.push_str-2.new.self) (string_bytes c.push_str-3.new.self) c.args.part.now
    (c.in_ok-push_str.ensures.bytes ∙ ap (λ l. l ++ 47 ∷ []) c.in_ok-reserve.ensures.bytes)
    c.push_str-3.ensures.bytes
    (subst (λ t. 0 < length t) c.as_str.ensures.value (some_bytes c.as_str.result.now (sym c.is_empty.ensures ∙ c.if-is_empty.false))) c.requires
