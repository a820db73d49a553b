use Rattle.std.proofs.Common.{◌≡◌, ◌∙◌, ◌-◌, Some, None, sym, ap}
use Rattle.std.specs.Prelude.{option_map, slice_get}
use Rattle.vk_model.specs.FactViews.{fact_view}
use Rattle.vk_worklist.proofs.LineLemmas.{fact_on_line}
use Rattle.vk_worklist.proofs.visits.fact_on.Goals as goal

pub returns-in-Some : goal.returns-in-Some
returns-in-Some c =
    let at : slice_get c.args.lines.now.entries (c.args.line - 1) ≡ Some (c.in-Some.fact.now, c.in-Some.field-0-1.now) = sym c.get_index.ensures.entry ∙ ap (option_map (λ p. (p.0.now, p.1.now))) c.in-Some.is in
    sym (fact_on_line c.args.lines.now.entries c.args.line c.if-line-eq0.false ∙ ap (option_map (λ e. fact_view e.0)) at)

pub returns-in-None : goal.returns-in-None
returns-in-None c =
    let at : slice_get c.args.lines.now.entries (c.args.line - 1) ≡ None = sym c.get_index.ensures.entry ∙ ap (option_map (λ p. (p.0.now, p.1.now))) c.in-None.is in
    sym (fact_on_line c.args.lines.now.entries c.args.line c.if-line-eq0.false ∙ ap (option_map (λ e. fact_view e.0)) at)
