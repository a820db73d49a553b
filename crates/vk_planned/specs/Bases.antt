-- What contracts see of that which is planned from.
use Rattle.std.specs.Prelude.{◌≡◌, List, IsSome, slice_get}
use Rattle.vk_spec.specs.Catalogues.{ArePages}
use Rattle.vk_resolution.specs.Givens.{Pages}
use Rattle.vk_resolution.specs.Asking.{Fact}
use Rattle.vk_resolution.specs.Consequences.{Inputs}
use Rattle.vk_resolution.specs.Planner.{inputs_of}
use Rattle.vk_resolution.specs.Reasons.{facts_of}
use Rattle.vk_resolution.specs.Selections.{IsChoices}
use Rattle.vk_model.specs.FactViews.{reasons_view}
use Rattle.vk_model.specs.SettingViews.{setting_view}
use Rattle.vk_choices.specs.ChoiceViews.{choices_view}
use Rattle.vk_choices.specs.Clear.{IsClear}
use Rattle.vk_planned.specs.declared.bases.Basis.{Basis}

abbrev pub inputs_at : Basis → Pages → Inputs
inputs_at b pages = inputs_of (setting_view b.setting.now) pages

abbrev pub facts_at : Basis → List Fact
facts_at b = facts_of (reasons_view b.reasons.now)

-- the rules are those of the setting
abbrev pub IsRuled : Basis → Type 0
IsRuled b = b.rules ≡ b.setting.now

-- the reasons are clear on these pages, the choices are made of them, and where there is a choice, every page is as pages are
pub record IsSound (b : Basis) (pages : Pages) : Type 0 where
  pub clear : IsClear (inputs_at b pages) (reasons_view b.reasons.now)
  pub chosen : IsChoices (inputs_at b pages) (facts_at b) (choices_view b.choices.now)
  pub are : IsSome (slice_get b.choices.now.ports.entries 0) → ArePages pages
