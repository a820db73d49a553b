use Rattle.std.proofs.Common.{sym, ◌∙◌, arith}
use Rattle.vk_base.specs.Parts.{parts_in}
use Rattle.vk_base.proofs.PartLemmas.{no_bytes, none_left}
use Rattle.vk_base.proofs.parts.without.Goals as goal

pub returns-then-is_empty : goal.returns-then-is_empty
returns-then-is_empty c =
    none_left (parts_in c.args.text.now) c.loop.front.now c.loop.counter c.args.fewer c.loop.invariant.0
    (no_bytes c.loop.front.now (sym c.is_empty.ensures ∙ c.if-is_empty.true)) (omega (arith, c.loop-test.true))
