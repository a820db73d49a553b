use Rattle.std.proofs.Common.{arith, ap, map, ◌++◌, ◌∷◌, [], codes}
use Rattle.vk_model.specs.FaultViews.{outcome_view}
use Rattle.vk_model.specs.FactViews.{reason_view}
use Rattle.vk_resolution.specs.Lines.{reason_text}
use Rattle.vk_report_reader.specs.Reasons.{IsRightReason}
use Rattle.vk_forms.specs.Words.{Any}
use Rattle.vk_report_reader.specs.Places.{WantsAs, finished, outcome_of, reasons}
use Rattle.vk_report_reader.specs.PlaceViews.{body_view}
use Rattle.vk_report_reader.specs.Places.{numbered}
use Rattle.vk_report_reader.proofs.PlaceLemmas.{more_false, picked_other, picks_other, wants_some}
use Rattle.vk_report_reader.proofs.advances.at_reasons.Goals as goal

pub returns-in-Ok-Some : goal.returns-in-Ok-Some
returns-in-Ok-Some c =
    let past = more_false reason_view c.args.reasons c.args.wanted (omega (arith, c.if-len-wanted.false, c.len.ensures)) in
    picks_other _ (WantsAs (numbered (map reason_view c.args.reasons) reason_text) IsRightReason (λ x. reasons (body_view c.args.body) c.args.wanted (map reason_view c.args.reasons ++ x ∷ []))) (WantsAs (λ u. codes "end") Any (λ u. finished (outcome_of (body_view c.args.body) (map reason_view c.args.reasons)))) c.args.line.now (finished (outcome_view c.outcome_of.result)) past
    (wants_some (λ u. codes "end") Any c.args.line.now (λ u. finished (outcome_of (body_view c.args.body) (map reason_view c.args.reasons))) tt (finished (outcome_view c.outcome_of.result))
    (rw c.in-Ok-Some.field-0-is at c.in-Ok-Some.ensures) (ap finished c.outcome_of.ensures))

pub returns-in-Ok-None : goal.returns-in-Ok-None
returns-in-Ok-None c next w =
    let past = more_false reason_view c.args.reasons c.args.wanted (omega (arith, c.if-len-wanted.false, c.len.ensures)) in
    let wish = picked_other _ (WantsAs (numbered (map reason_view c.args.reasons) reason_text) IsRightReason (λ x. reasons (body_view c.args.body) c.args.wanted (map reason_view c.args.reasons ++ x ∷ []))) (WantsAs (λ u. codes "end") Any (λ u. finished (outcome_of (body_view c.args.body) (map reason_view c.args.reasons)))) c.args.line.now next past w in
    let none = rw c.in-Ok-None.field-0-is at c.in-Ok-None.ensures in
    none wish.value wish.right wish.is
