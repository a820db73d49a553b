use Rattle.std.proofs.Common.{◌++◌, ap, sym, ◌∙◌}
use Rattle.std.specs.Prelude.{codes}
use Rattle.vk_gen.specs.Loads.{port_name}
use Rattle.vk_gen.proofs.ListTexts.{in_a_row}
use Rattle.vk_gen.proofs.texts.manifest_text.Goals as goal

pub returns : goal.returns
returns c =
    c.from_string.ensures ∙ (rw (c.in_ok-name.ensures) at c.in_ok-format.ensures.ok)
    ∙ ap (λ t. codes "{\"name\":\"" ++ port_name c.args.port ++ codes "\",\"version\":\"" ++ t) (sym (in_a_row c.args.version.now (codes ",\"dependencies\":[") c.args.asks.now 93))
