use Rattle.std.proofs.Common.{sym, ◌∙◌}
use Rattle.vk_base.proofs.DecimalLemmas.{padded_none, parsed_is, parsed_from, wide32}
use Rattle.vk_base.proofs.decimals.read_u32.Goals as goal

pub returns-then-is_padded-clause-known : goal.returns-then-is_padded-clause-known
returns-then-is_padded-clause-known c = λ n small e.
    absurd (padded_none n c.args.digits.now (wide32 n small) e (rw c.as_bytes.ensures.value at (sym c.is_padded.ensures ∙ c.if-is_padded.true)))

pub returns-clause-found : goal.returns-clause-found
returns-clause-found c =
    let plain = rw c.as_bytes.ensures.value at (sym c.is_padded.ensures ∙ c.if-is_padded.false) in
    rw c.ok.ensures.value (parsed_is 32 wide32 c.args.digits.now c.parse.result c.parse.ensures.value.0 plain)

pub returns-clause-known : goal.returns-clause-known
returns-clause-known c = λ n small e.
    c.ok.ensures.value ∙ parsed_from 32 wide32 c.args.digits.now c.parse.result c.parse.ensures.value.0 n small e
