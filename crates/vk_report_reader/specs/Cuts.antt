-- How far the bytes of a report are read.
use Rattle.std.specs.Prelude.{◌≡◌, ◌<◌, ◌+◌, ◌^◌, ◌++◌, ℕ, List, length, flat_map, Result, Ok, Err}
use Rattle.vk_base.specs.declared.stops.Unread.{Unread}
use Rattle.vk_base.specs.declared.stops.Unread.TheVariants as unread
use Rattle.vk_spec.specs.Earlies.{Early}
use Rattle.vk_resolution.specs.Outcomes as plain
use Rattle.vk_resolution.specs.Lines.{ended}
use Rattle.vk_model.specs.FaultViews.{outcome_view}
use Rattle.vk_model.specs.declared.plans.Outcome.{Outcome}
use Rattle.vk_report_reader.specs.declared.reports.ReportFault.{ReportFault}
use Rattle.vk_report_reader.specs.PlaceViews.{line_in}
use Rattle.vk_report_reader.specs.Places.{Goes, IsRead, IsRefusedAt, Place, finished, start}

-- lines lead to this place, this is left of the bytes, and so many is the next line
pub record Led (bytes : List ℕ) (place : Place) (left : List ℕ) (next : ℕ) : Type 0 where
  pub lines : List (List ℕ)
  pub split : bytes ≡ flat_map ended lines ++ left
  pub goes : Goes start lines place
  pub count : next ≡ length lines + 1
  pub room : next + length left < 2 ^ 32

abbrev pub IsUnfinished : Place → Type 0
IsUnfinished place = (outcome : Result plain.Outcome Early) → place ≡ finished outcome → ⊥

-- what reading answers
abbrev pub Reading : Type 0
Reading = Result Outcome (Unread ReportFault)

-- the outcome of which the bytes are the report, or the first line that isn't wanted
abbrev pub Ends : List ℕ → Reading → Type 0
Ends bytes (Ok outcome) = IsRead bytes (outcome_view outcome)
Ends bytes (Err (unread.Fault fault)) = IsRefusedAt bytes (line_in fault)
Ends bytes (Err (unread.Memory memory)) = Unit {0}

-- this outcome, unless memory ran out
abbrev pub IsOutcome : Result plain.Outcome Early → Reading → Type 0
IsOutcome outcome (Ok read) = outcome_view read ≡ outcome
IsOutcome outcome (Err (unread.Fault fault)) = ⊥
IsOutcome outcome (Err (unread.Memory memory)) = Unit {0}
