use Rattle.std.proofs.Common.{◌≡◌, ◌==◌, sym, ap, ◌∙◌, arith}
use Rattle.std.specs.Prelude.{None}
use Rattle.std.specs.List.{position}
use Rattle.std.proofs.lemmas.Bool.Decides.{nat_tests}
use Rattle.vk_base.proofs.NameLemmas.{position-None}
use Rattle.vk_base.proofs.paths.check.Goals as goal

pub returns-in-None-clause-whole : goal.returns-in-None-clause-whole
returns-in-None-clause-whole c k d within e =
    let none : position (λ b. b == 0) c.args.text.now ≡ None = ap (position (λ b. b == 0)) (sym c.as_bytes.ensures.value) ∙ sym c.zero_at.ensures ∙ c.in-None.is in
    let other = position-None (λ b. b == 0) c.args.text.now none k d within in
    grind (arith, nat_tests)
