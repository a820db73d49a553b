use Rattle.vk_forms.specs.Choices.{either_plain, either_text, IsRightEither}
use Rattle.vk_forms.specs.Words.{Any}
use Rattle.vk_report_reader.specs.Places.{after_status}
use Rattle.vk_report_reader.specs.PlaceViews.{place_view}
use Rattle.std.proofs.Common.{codes}
use Rattle.vk_report_reader.proofs.PlaceLemmas.{wants_some}
use Rattle.vk_report_reader.proofs.advances.at_status.Goals as goal

pub returns-in-Some : goal.returns-in-Some
returns-in-Some c =
    wants_some (either_text (λ u. codes "status planned") (λ u. codes "status refused")) (IsRightEither Any Any) c.args.line.now after_status (either_plain (λ u. u) (λ u. u) c.in-Some.found) (place_view c.after_status.result)
    (rw c.in-Some.is at c.in_ok-found.ensures) c.after_status.ensures
