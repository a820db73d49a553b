-- What the files of a project come to.
use Rattle.std.specs.Prelude.{◌≡◌, ◌≤◌, ℕ, List, length}
use Rattle.vk_spec.specs.Earlies.{Early}
use Rattle.vk_spec.specs.Settings.{Setting, Instance}
use Rattle.vk_resolution.specs.Givens.{Pages}
use Rattle.vk_resolution.specs.Outcomes.{Outcome}
use Rattle.vk_resolution.specs.Agreement.{reasons_in}
use Rattle.vk_resolution.specs.Closures.{HasTooManyFacts}
use Rattle.vk_resolution.specs.Planner.{inputs_of, IsOutcomeOf}
use Rattle.vk_opening.specs.Openings.{Opening}
use Rattle.vk_opening.specs.Opened.{ListsOwnOff}

-- the early line; the outcome; more requirements than so many
pub data Resolution : Type 0 where
  early : Early → Resolution
  resolved : Outcome → Resolution
  too_many : ℕ → Resolution

-- the setting that an opening gives: what is off in it is exactly what its root turns off
pub record IsSettingOf (opening : Opening) (setting : Setting) : Type 0 where
  pub off : List Instance
  pub setting_is : setting ≡ opening.setting off
  pub lists : ListsOwnOff setting

-- a setting and pages have this outcome, with no more requirements than the setting allows, or have more
abbrev pub Settles : Setting → Pages → Resolution → Type 0
Settles setting pages (early e) = ⊥
Settles setting pages (resolved o) = IsOutcomeOf setting pages o × (length (reasons_in o) ≤ setting.max_facts)
Settles setting pages (too_many n) = HasTooManyFacts (inputs_of setting pages) × (n ≡ setting.max_facts)
