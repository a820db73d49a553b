use Rattle.std.proofs.Common.{codes, []}
use Rattle.vk_model.specs.EarlyViews.{early_view}
use Rattle.vk_forms.specs.Words.{Any}
use Rattle.vk_report_reader.specs.Places.{early_body, reasons}
use Rattle.vk_report_reader.proofs.PlaceLemmas.{wants_none}
use Rattle.vk_report_reader.proofs.advances.at_early.Goals as goal

pub returns-in-Ok-None : goal.returns-in-Ok-None
returns-in-Ok-None c = wants_none (λ u. codes "reasons 0") Any c.args.line.now (λ u. reasons (early_body (early_view c.args.early)) 0 []) (rw c.in-Ok-None.field-0-is at c.in-Ok-None.ensures)
