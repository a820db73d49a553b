-- What a project comes to.
use Rattle.std.specs.Prelude.{◌≡◌, ◌≤◌, length, Ok}
use Rattle.vk_spec.specs.Settings.{Setting}
use Rattle.vk_resolution.specs.Givens.{Pages}
use Rattle.vk_resolution.specs.Outcomes as plain
use Rattle.vk_resolution.specs.Agreement.{reasons_in}
use Rattle.vk_resolution.specs.Planner.{IsOutcomeOf}
use Rattle.vk_model.specs.FaultViews.{outcome_view}
use Rattle.vk_model.specs.declared.plans.Outcome.{Outcome}

-- the outcome of the setting and the pages, with no more reasons than the setting allows
pub record IsResolved (setting : Setting) (pages : Pages) (answer : Outcome) : Type 0 where
  pub outcome : plain.Outcome
  pub told : outcome_view answer ≡ Ok outcome
  pub is_outcome : IsOutcomeOf setting pages outcome
  pub few : length (reasons_in outcome) ≤ setting.max_facts
