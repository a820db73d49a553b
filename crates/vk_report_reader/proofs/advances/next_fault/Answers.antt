use Rattle.std.proofs.Common.{map, ◌++◌, ◌∷◌, []}
use Rattle.vk_model.specs.FaultViews.{fault_view}
use Rattle.vk_resolution.specs.Lines.{fault_line}
use Rattle.vk_report_reader.specs.Faults.{IsRightFault}
use Rattle.vk_report_reader.specs.Places.{WantsAs, WantsCount, fault_body, fault_lines}
use Rattle.vk_report_reader.proofs.PlaceLemmas.{more_true, picked_one, picks_one, put_more, wants_some}
use Rattle.vk_report_reader.proofs.advances.next_fault.Goals as goal

pub returns-in_ok-push-in-Some : goal.returns-in_ok-push-in-Some
returns-in_ok-push-in-Some c =
    picks_one _ (WantsAs fault_line IsRightFault (λ x. fault_lines c.args.wanted (map fault_view c.args.faults ++ x ∷ []))) (WantsCount (fault_body (map fault_view c.args.faults))) c.args.line.now _ (more_true fault_view c.args.faults c.args.wanted c.requires)
    (wants_some fault_line IsRightFault c.args.line.now (λ x. fault_lines c.args.wanted (map fault_view c.args.faults ++ x ∷ [])) (fault_view c.in-Some.fault) (fault_lines c.args.wanted (map fault_view c.push.new.self))
    (rw c.in-Some.is at c.in_ok-fault.ensures) (put_more fault_view (fault_lines c.args.wanted) c.args.faults c.push.new.self c.in-Some.fault c.in_ok-push-in-Some.ensures.ok))

pub returns-in-None : goal.returns-in-None
returns-in-None c next w =
    let wish = picked_one _ (WantsAs fault_line IsRightFault (λ x. fault_lines c.args.wanted (map fault_view c.args.faults ++ x ∷ []))) (WantsCount (fault_body (map fault_view c.args.faults))) c.args.line.now next (more_true fault_view c.args.faults c.args.wanted c.requires) w in
    let none = rw c.in-None.is at c.in_ok-fault.ensures in
    none wish.value wish.right wish.is
