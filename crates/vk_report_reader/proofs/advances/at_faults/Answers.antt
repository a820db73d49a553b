use Rattle.std.proofs.Common.{arith, map, ◌++◌, ◌∷◌, []}
use Rattle.vk_model.specs.FaultViews.{fault_view}
use Rattle.vk_resolution.specs.Lines.{fault_line}
use Rattle.vk_report_reader.specs.Faults.{IsRightFault}
use Rattle.vk_report_reader.specs.Places.{WantsAs, fault_body, fault_lines}
use Rattle.std.specs.Prelude.{option_map}
use Rattle.vk_report_reader.specs.PlaceViews.{place_view}
use Rattle.vk_forms.proofs.Found.{if_ok_then}
use Rattle.vk_report_reader.proofs.PlaceLemmas.{counts_on, more_false}
use Rattle.vk_report_reader.proofs.advances.at_faults.Goals as goal

pub returns : goal.returns
returns c =
    if_ok_then c.at_reason_count.result
    (λ next counted. counts_on _ (WantsAs fault_line IsRightFault (λ x. fault_lines c.args.wanted (map fault_view c.args.faults ++ x ∷ []))) (fault_body (map fault_view c.args.faults)) c.args.line.now (option_map place_view next)
    (more_false fault_view c.args.faults c.args.wanted (omega (arith, c.if-len-wanted.false, c.len.ensures))) counted)
    c.at_reason_count.ensures
