use Rattle.vk_spec.proofs.AskLemmas.{pages_after}
use Rattle.vk_spec.proofs.OptionLemmas.{of_both}
use Rattle.vk_resolution.specs.Planner.{inputs_of}
use Rattle.vk_resolution.specs.Reasons.{facts_of}
use Rattle.vk_resolution.specs.Selections.{IsChoices}
use Rattle.vk_model.specs.FactViews.{reasons_view}
use Rattle.vk_model.specs.SettingViews.{setting_view}
use Rattle.vk_choices.specs.ChoiceViews.{choices_view}
use Rattle.vk_resolve.proofs.decisions.decide.Goals as goal

pub decide_chosen-requires-clause-choices : goal.decide_chosen-requires-clause-choices
decide_chosen-requires-clause-choices g c =
    pages_after (λ pages. IsChoices (inputs_of (setting_view c.args.setting.now) pages) (facts_of (reasons_view c.args.reasons.now)) (choices_view c.in-Ok.choices)) c.in-Ok.ensures.asked
    (of_both (g.C.Catalogue.state c.args.cat.now).pages c.in-Ok.ensures.choices c.requires.clear (λ pages told clear. told (setting_view c.args.setting.now) clear))
