use Rattle.std.proofs.Common.{sym, ◌∙◌, arith}
use Rattle.std.proofs.lemmas.Str.Pattern.{strip_prefix_char}
use Rattle.vk_base.proofs.PartLemmas.{some_bytes, slashed}
use Rattle.vk_base.proofs.parts.after_slash.Goals as goal

pub returns : goal.returns
returns c =
    slashed c.args.rest.now c.strip_prefix.result
    (strip_prefix_char 47 c.args.rest.now c.strip_prefix.result c.strip_prefix.ensures.cases (omega arith))
    (some_bytes c.args.rest.now (sym c.is_empty.ensures ∙ c.if-is_empty.false))
