use Rattle.std.proofs.Common.{◌++◌, ◌-◌, length, take, ap, ◌∙◌}
use Rattle.std.specs.Prelude.{string_bytes}
use Rattle.std.proofs.lemmas.List.Elements.{All-same, All-take, All-append}
use Rattle.vk_base.specs.Paths.{IsPart}
use Rattle.vk_base.specs.Parts.{parts_in}
use Rattle.vk_base.proofs.parts.Parts.join.Goals as goal

pub invariant_of-result : goal.invariant_of-result
invariant_of-result c =
    let parts = parts_in (string_bytes c.self.inside.joined) in
    let more = parts_in (string_bytes c.more.inside.joined) in
    let front = take (length parts - c.args.fewer) parts in
    All-same IsPart (parts_in (string_bytes c.in_ok-both.field-0)) (front ++ more)
    (
    c.in_ok-both.ensures
    ∙ ap (λ ps. ps ++ parts_in c.as_str-2.result.now) (c.without-front.ensures ∙ ap (λ t. take (length (parts_in t) - c.args.fewer) (parts_in t)) c.as_str.ensures.value)
    ∙ ap (λ t. front ++ parts_in t) c.as_str-2.ensures.value
    )
    (All-append IsPart front more (All-take IsPart (length parts - c.args.fewer) parts c.self.invariant) c.more.invariant)
