use Rattle.std.proofs.Common.{◌≡◌, ◌<◌, ◌∷◌, false, ap, sym, ◌∙◌, arith}
use Rattle.vk_base.specs.Paths.{is_rooted, ups_of}
use Rattle.vk_base.specs.PathTexts.{parts_text}
use Rattle.vk_base.proofs.PathTextLemmas.{text_rooted, text_plain, text_climbing}
use Rattle.vk_base.proofs.path_texts.all_left.Goals as goal

pub returns-then-is_rooted : goal.returns-then-is_rooted
returns-then-is_rooted c =
    ap (λ t. 47 ∷ t) (c.as_bytes.ensures.value ∙ c.parts_text.ensures.parts)
    ∙ sym (text_rooted c.args.path.now c.parts_text.ensures.path (sym c.is_rooted.ensures ∙ c.if-is_rooted.true))

pub returns-then-steps_up-eq0 : goal.returns-then-steps_up-eq0
returns-then-steps_up-eq0 c =
    let path = c.args.path.now in
    let says = c.parts_text-then-steps_up-eq0.ensures in
    let none : ups_of path ≡ 0 = omega (arith, c.steps_up.ensures, c.if-steps_up-eq0.true) in
    c.parts_left.ensures ∙ ap parts_text says.parts ∙ sym (text_plain path says.path (sym c.is_rooted.ensures ∙ c.if-is_rooted.false) none)

pub returns : goal.returns
returns c =
    let path = c.args.path.now in
    let plain : is_rooted path ≡ false = sym c.is_rooted.ensures ∙ c.if-is_rooted.false in
    let some : 0 < ups_of path = omega (arith, c.steps_up.ensures, c.if-steps_up-eq0.false) in
    rw (c.steps_left.ensures, c.steps_up-2.ensures, c.parts_text-2.ensures.parts)
    (sym (text_climbing path c.parts_text-2.ensures.path plain some))
