use Rattle.std.proofs.Common.{sym, subst}
use Rattle.std.specs.Prelude.{map}
use Rattle.vk_spec.specs.Catalogues.{OnlyAsked}
use Rattle.vk_model.specs.FactViews.{reasons_view}
use Rattle.vk_model.specs.FaultViews.{item_view}
use Rattle.vk_model.specs.SettingViews.{setting_view}
use Rattle.vk_choices.specs.ChoiceViews.{choices_view}
use Rattle.vk_resolve.proofs.ResolveLemmas.{set_decides, refused_decides, refused_fails}
use Rattle.vk_resolve.proofs.decisions.decide_chosen.Goals as goal

pub returns-in_ok-ordered-in-Ok-clause-outcome : goal.returns-in_ok-ordered-in-Ok-clause-outcome
returns-in_ok-ordered-in-Ok-clause-outcome g c =
    set_decides (setting_view c.args.setting.now) (reasons_view c.args.reasons.now) (choices_view c.args.choices.now) (g.C.Catalogue.state c.args.cat.now).pages (map item_view c.in-Ok.set.items) _
    c.requires.clear c.requires.choices c.in-Ok.ensures.set c.in_ok-ordered-in-Ok.ensures

pub returns-in-Err-clause-outcome : goal.returns-in-Err-clause-outcome
returns-in-Err-clause-outcome g c =
    refused_decides (setting_view c.args.setting.now) (reasons_view c.args.reasons.now) (choices_view c.args.choices.now) (g.C.Catalogue.state c.args.cat.now).pages c.in-Err.stop c.refused.result c.refused.ensures
    c.requires.clear c.requires.choices c.in-Err.ensures.faults

pub returns-in-Err-clause-asked : goal.returns-in-Err-clause-asked
returns-in-Err-clause-asked g c = subst (λ b. OnlyAsked b (g.C.Catalogue.state c.args.cat.now) (g.C.Catalogue.state c.plan_set.new.cat)) (sym (refused_fails c.in-Err.stop c.refused.result c.refused.ensures)) c.in-Err.ensures.asked
