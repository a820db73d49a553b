use Rattle.std.proofs.Common.{◌<◌, ap, ◌++◌, ◌∷◌, [], ◌∙◌, arith}
use Rattle.vk_base.proofs.PathLemmas.{steps_anchor}
use Rattle.vk_base.proofs.paths.anchor_text.Goals as goal

pub returns : goal.returns
returns c =
    let some : 0 < c.args.ups = omega (arith, c.if-ups-eq0.false) in
    rw c.if-rooted.false (c.in_ok-push_str.ensures.ok ∙ ap (λ t. t ++ 46 ∷ 46 ∷ []) c.in_ok-text.ensures ∙ steps_anchor c.args.ups some)
