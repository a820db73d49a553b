use Rattle.std.proofs.Common.{◌∷◌, ◌∙◌, ap}
use Rattle.std.specs.Fmt.{styled_decimal}
use Rattle.vk_gen.proofs.DigitLemmas.{in_four_digits}
use Rattle.vk_gen.proofs.names.port_name.Goals as goal

pub returns : goal.returns
returns c = c.from_string.ensures ∙ c.in_ok-format.ensures.ok ∙ ap (λ ds. 112 ∷ ds) (ap (λ s. styled_decimal s c.args.number) c.laid_out.ensures ∙ in_four_digits c.args.number c.requires)
