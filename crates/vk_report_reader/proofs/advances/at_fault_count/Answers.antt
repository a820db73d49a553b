use Rattle.vk_report_reader.specs.PlaceViews.{place_view}
use Rattle.vk_report_reader.proofs.PlaceLemmas.{fault_count_some, fault_count_none}
use Rattle.vk_report_reader.proofs.advances.at_fault_count.Goals as goal

pub returns-in-Some : goal.returns-in-Some
returns-in-Some c = fault_count_some place_view c.args.line.now c.in-Some.wanted (rw c.in-Some.is at c.in_ok-wanted.ensures) c.after_fault_count.result c.after_fault_count.ensures

pub returns-in-None : goal.returns-in-None
returns-in-None c = fault_count_none c.args.line.now (rw c.in-None.is at c.in_ok-wanted.ensures)
