use Rattle.std.proofs.Common.{map, ◌++◌, ◌∷◌, [], codes}
use Rattle.vk_model.specs.FactViews.{reason_view}
use Rattle.vk_resolution.specs.Lines.{reason_text}
use Rattle.vk_report_reader.specs.Reasons.{IsRightReason}
use Rattle.vk_forms.specs.Words.{Any}
use Rattle.vk_report_reader.specs.Places.{WantsAs, finished, outcome_of, reasons}
use Rattle.vk_report_reader.specs.PlaceViews.{body_view}
use Rattle.vk_report_reader.proofs.PlaceLemmas.{numbered_more, numbered_none}
use Rattle.vk_report_reader.proofs.advances.next_reason.Goals as goal

pub returns-in_ok-with_reason-in-Ok-Some : goal.returns-in_ok-with_reason-in-Ok-Some
returns-in_ok-with_reason-in-Ok-Some c =
    numbered_more reason_view reason_text IsRightReason (λ x. reasons (body_view c.args.body) c.args.wanted (map reason_view c.args.reasons ++ x ∷ [])) (WantsAs (λ u. codes "end") Any (λ u. finished (outcome_of (body_view c.args.body) (map reason_view c.args.reasons)))) c.args.reasons c.args.wanted c.next_number-number.result c.args.line.now (reason_view c.in-Ok-Some.reason)
    _ c.requires c.next_number-number.ensures (rw c.in-Ok-Some.field-0-is at c.in-Ok-Some.ensures) c.in_ok-with_reason-in-Ok-Some.ensures

pub returns-in-Ok-None : goal.returns-in-Ok-None
returns-in-Ok-None c =
    numbered_none reason_view reason_text IsRightReason (λ x. reasons (body_view c.args.body) c.args.wanted (map reason_view c.args.reasons ++ x ∷ [])) (WantsAs (λ u. codes "end") Any (λ u. finished (outcome_of (body_view c.args.body) (map reason_view c.args.reasons)))) c.args.reasons c.args.wanted c.next_number-number.result c.args.line.now
    c.requires c.next_number-number.ensures (rw c.in-Ok-None.field-0-is at c.in-Ok-None.ensures)
