use Rattle.std.proofs.Common.{◌≡◌, true, false, refl, sym, subst}
use Rattle.std.specs.Prelude.{IfSome}
use Rattle.vk_resolution.specs.Planner.{inputs_of}
use Rattle.vk_choices.specs.Clear.{IsClear}
use Rattle.vk_model.specs.FactViews.{reasons_view}
use Rattle.vk_model.specs.SettingViews.{setting_view}
use Rattle.vk_resolve.proofs.ResolveLemmas.{clear_of, refused_first, decided_is}
use Rattle.vk_resolve.proofs.resolving.outcome_of.Goals as goal

pub returns-then-not-is_empty-clause-resolved : goal.returns-then-not-is_empty-clause-resolved
returns-then-not-is_empty-clause-resolved g c =
    refused_first (g.C.Catalogue.state c.args.cat.now).pages (setting_view c.args.setting.now) c.args.closure (λ e. let clash : false ≡ true = c.if-not-is_empty.ensures.1 e in (cc)) c.requires.few c.requires.closure

pub decide-requires-clause-clear : goal.decide-requires-clause-clear
decide-requires-clause-clear g c =
    subst (λ l. IfSome (g.C.Catalogue.state c.args.cat.now).pages (λ pages. IsClear (inputs_of (setting_view c.args.setting.now) pages) (reasons_view l))) (sym c.as_slice.ensures)
    (clear_of (g.C.Catalogue.state c.args.cat.now).pages (setting_view c.args.setting.now) c.args.closure (c.if-not-is_empty.ensures.0 refl) c.requires.closure)

pub returns-clause-resolved : goal.returns-clause-resolved
returns-clause-resolved g c =
    decided_is (g.C.Catalogue.state c.args.cat.now).pages (setting_view c.args.setting.now) c.args.closure.reasons c.in_ok-decision.decision c.with_reasons.result c.requires.few c.with_reasons.ensures
    (rw c.as_slice.ensures at c.in_ok-decision.ensures.outcome)
