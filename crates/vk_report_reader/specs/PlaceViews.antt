-- What contracts see of a place.
use Rattle.std.specs.Prelude.{ℕ, map}
use Rattle.vk_model.specs.EarlyViews.{early_view}
use Rattle.vk_model.specs.FactViews.{reasons_view}
use Rattle.vk_model.specs.FaultViews.{faults_view, item_view, outcome_view}
use Rattle.vk_report_reader.specs.Places as plain
use Rattle.vk_report_reader.specs.declared.advances.Body.{Body}
use Rattle.vk_report_reader.specs.declared.advances.Body.TheVariants as body
use Rattle.vk_report_reader.specs.declared.advances.Place.{Place}
use Rattle.vk_report_reader.specs.declared.advances.Place.TheVariants as place
use Rattle.vk_report_reader.specs.declared.reports.ReportFault.{ReportFault}
use Rattle.vk_report_reader.specs.declared.reports.ReportFault.TheVariants.{Line}

abbrev pub body_view : Body → plain.Body
body_view (body.Plan items) = plain.plan_body (map item_view items)
body_view (body.Faults faults) = plain.fault_body (faults_view faults)
body_view (body.Early early) = plain.early_body (early_view early)

abbrev pub place_view : Place → plain.Place
place_view place.Status = plain.status
place_view place.ItemCount = plain.item_count
place_view place.FaultCount = plain.fault_count
place_view (place.Items n items) = plain.items n (map item_view items)
place_view place.OnlyFault = plain.only_fault
place_view (place.Faults n faults) = plain.fault_lines n (faults_view faults)
place_view (place.AfterEarly early) = plain.after_early (early_view early)
place_view (place.Reasons b n reasons) = plain.reasons (body_view b) n (reasons_view reasons)
place_view (place.Finished outcome) = plain.finished (outcome_view outcome)

-- the line that a fault tells
abbrev pub line_in : ReportFault → ℕ
line_in (Line n) = n
