use Rattle.std.proofs.Common.{sym, ◌∙◌}
use Rattle.std.specs.Prelude.{Some, None}
use Rattle.vk_base.proofs.PartLemmas.{some_bytes, strip_says, other_front, below_either}
use Rattle.vk_base.proofs.parts.below.Goals as goal

pub returns-in-None : goal.returns-in-None
returns-in-None c =
    let some = some_bytes c.args.front.now (sym c.is_empty.ensures ∙ c.if-is_empty.false) in
    other_front c.args.text.now c.args.front.now some (strip_says c.args.front.now c.args.text.now None c.in-None.ensures.cases)

pub returns-in-Some : goal.returns-in-Some
returns-in-Some c =
    let some = some_bytes c.args.front.now (sym c.is_empty.ensures ∙ c.if-is_empty.false) in
    below_either c.args.text.now c.args.front.now c.in-Some.rest.now c.after_slash.result some (strip_says c.args.front.now c.args.text.now (Some c.in-Some.rest) c.in-Some.ensures.cases) c.after_slash.ensures c.requires
