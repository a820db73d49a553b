use Rattle.std.proofs.Common.{arith, ◌∙◌}
use Rattle.std.proofs.lemmas.List.Elements.{All-from_get_or}
use Rattle.vk_base.specs.Tokens.{IsByte}
use Rattle.vk_base.proofs.TokenLemmas.{token-percent}
use Rattle.vk_base.proofs.tokens.escaped.Goals as goal

pub returns : goal.returns
returns c =
    let small = All-from_get_or IsByte c.args.bytes.now 0 (λ i within. omega (arith, c.type_inv.bytes i)) in
    c.percent_encode.ensures.text ∙ token-percent c.args.bytes.now small
