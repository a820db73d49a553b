use Rattle.std.proofs.Common.{sym, ◌∙◌, arith}
use Rattle.std.specs.Prelude.{Some, None}
use Rattle.std.proofs.lemmas.Str.Pattern.{split_parts}
use Rattle.vk_base.proofs.PathLemmas.{lacks_from}
use Rattle.vk_base.proofs.PartLemmas.{some_bytes, first_cut, lacking_parts}
use Rattle.vk_base.proofs.parts.cut_first.Goals as goal

pub returns-in-Some : goal.returns-in-Some
returns-in-Some c =
    let cut = split_parts 47 c.args.text.now (Some (c.in-Some.part, c.in-Some.after)) c.in-Some.ensures.cases (omega arith) in
    first_cut c.args.text.now c.in-Some.part.now c.in-Some.after.now cut.0 (lacks_from 47 c.in-Some.part.now cut.1) c.requires

pub returns-in-None : goal.returns-in-None
returns-in-None c =
    let whole = split_parts 47 c.args.text.now None c.in-None.ensures.cases (omega arith) in
    lacking_parts c.args.text.now (some_bytes c.args.text.now (sym c.is_empty.ensures ∙ c.if-is_empty.false)) (lacks_from 47 c.args.text.now whole)
