-- Reasons that can be chosen from: those of a setting, where nothing is wrong with the files that they need.
use Rattle.std.specs.Prelude.{◌≡◌, List, []}
use Rattle.vk_spec.specs.Settings.{Setting}
use Rattle.vk_resolution.specs.Givens.{Pages}
use Rattle.vk_resolution.specs.Consequences.{Inputs}
use Rattle.vk_resolution.specs.Reasons.{Reason, IsReasons, facts_of}
use Rattle.vk_resolution.specs.Faults.{first_faults_of}
use Rattle.vk_resolution.specs.Planner.{inputs_of}

-- the reasons of the inputs, and no line of the first phase
pub record IsClear (inputs : Inputs) (reasons : List Reason) : Type 0 where
  pub are_reasons : IsReasons inputs reasons
  pub clear : first_faults_of inputs (facts_of reasons) ≡ []

-- so for a setting over these pages
abbrev pub IsClearOn : List Reason → Pages → Type 0
IsClearOn reasons pages = (setting : Setting) × IsClear (inputs_of setting pages) reasons
