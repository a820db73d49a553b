-- What a report is against what a project comes to.
use Rattle.std.specs.Prelude.{◌≡◌, ◌↔◌, ◌≤◌, ℕ, List, length}
use Rattle.vk_spec.specs.Settings.{Setting}
use Rattle.vk_resolution.specs.Givens.{Pages}
use Rattle.vk_resolution.specs.Lines.{report_text}
use Rattle.vk_resolution.specs.Outcomes.{Outcome}
use Rattle.vk_resolution.specs.Agreement.{reasons_in}
use Rattle.vk_resolution.specs.Planner.{IsOutcomeOf}
use Rattle.vk_check.specs.Verdicts.{IsVerdict}
use Rattle.vk_check.specs.declared.verdicts.Verdict.{Verdict}
use Rattle.vk_check.specs.declared.verdicts.Verdict.TheVariants.{Yes}

-- the verdict is that on the report of the outcome of the setting and the pages, which has no more reasons than the setting allows
pub record IsChecked (setting : Setting) (pages : Pages) (report : List ℕ) (verdict : Verdict) : Type 0 where
  pub outcome : Outcome
  pub is_outcome : IsOutcomeOf setting pages outcome
  pub few : length (reasons_in outcome) ≤ setting.max_facts
  pub compared : IsVerdict report (report_text outcome) verdict

-- yes is said exactly to the report of the outcome, of which there is one
abbrev pub YesIsExact : Type 0
YesIsExact = (setting : Setting) (pages : Pages) (report : List ℕ) (verdict : Verdict) → IsChecked setting pages report verdict → (outcome : Outcome) → IsOutcomeOf setting pages outcome → (verdict ≡ Yes) ↔ (report ≡ report_text outcome)
