use Rattle.std.proofs.Common.{◌++◌, ap, sym, ◌∙◌}
use Rattle.std.specs.Prelude.{string_bytes}
use Rattle.vk_base.specs.Parts.{parts_in}
use Rattle.vk_base.proofs.PartLemmas.{back_each}
use Rattle.vk_base.proofs.parts.Parts.after.Goals as goal

pub invariant_of-result : goal.invariant_of-result
invariant_of-result c =
    let front = parts_in (string_bytes c.front.inside.joined) in
    back_each (parts_in (string_bytes c.self.inside.joined)) front (parts_in (string_bytes c.in_ok-from_str.field-0))
    (
    ap parts_in (sym c.as_str.ensures.value)
    ∙ c.rest_of-rest.ensures
    ∙ ap (λ t. parts_in t ++ parts_in c.rest_of-rest.result.now) c.as_str-2.ensures.value
    ∙ ap (λ t. front ++ parts_in t) (sym c.in_ok-from_str.ensures.ok)
    )
    c.self.invariant
