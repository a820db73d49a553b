-- The report of what a project comes to, also of one that is refused before any port.
use Rattle.std.specs.Prelude.{◌++◌, ℕ, List, flat_map, codes, Result, Ok, Err}
use Rattle.vk_spec.specs.Earlies.{Early}
use Rattle.vk_resolution.specs.Planning.{Item}
use Rattle.vk_resolution.specs.Faults.{Fault}
use Rattle.vk_resolution.specs.Outcomes.{Outcome}
use Rattle.vk_resolution.specs.Lines.{counted, ended, fault_line, item_text, numbered_lines, report_text}
use Rattle.vk_model.specs.Lines.{early_line}

-- the report of an early line, which no reason stands behind
abbrev pub early_report : Early → List ℕ
early_report early = codes "vcpkg-plan 1\nstatus refused\nfaults 1\n" ++ ended (early_line early) ++ codes "reasons 0\nend\n"

-- the report of an outcome, or of the early line in its place
abbrev pub whole_report : Result Outcome Early → List ℕ
whole_report (Ok outcome) = report_text outcome
whole_report (Err early) = early_report early

-- how many items there are, and their lines
abbrev pub items_text : List Item → List ℕ
items_text items = counted (codes "plan") items ++ numbered_lines item_text 1 items

-- how many faults there are, and their lines
abbrev pub faults_text : List Fault → List ℕ
faults_text faults = counted (codes "faults") faults ++ flat_map (λ f. ended (fault_line f)) faults
