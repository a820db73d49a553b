use Rattle.std.proofs.Common.{◌∙◌, sym, ap}
use Rattle.std.specs.Prelude.{option_and_then, slice_get}
use Rattle.vk_planned.specs.Flaws.{flaw_in}
use Rattle.vk_planset.proofs.JudgingLemmas.{found_flaw}
use Rattle.vk_planset.proofs.judging.flaw_of.Goals as goal

pub returns-in-Some : goal.returns-in-Some
returns-in-Some c =
    let flaws = c.args.planned.now.flaws.items in
    c.flaw_in.ensures ∙ ap (λ l. flaw_in (slice_get l c.in-Some.place)) c.as_slice.ensures.value
    ∙ sym (found_flaw c.args.planned.now.needs.keys flaws c.args.fact.now c.get_index_of.result c.get_index_of.ensures.index ∙ ap (option_and_then (λ m. flaw_in (slice_get flaws m))) c.in-Some.is)

pub returns-in-None : goal.returns-in-None
returns-in-None c =
    let flaws = c.args.planned.now.flaws.items in
    sym (found_flaw c.args.planned.now.needs.keys flaws c.args.fact.now c.get_index_of.result c.get_index_of.ensures.index ∙ ap (option_and_then (λ m. flaw_in (slice_get flaws m))) c.in-None.is)
