use Rattle.std.proofs.Common.{◌∙◌, sym, subst}
use Rattle.vk_model.specs.FaultViews.{outcome_view}
use Rattle.vk_check.specs.Verdicts.{HasFewSharedLines}
use Rattle.vk_check.proofs.HeadingLemmas.{few_with_report}
use Rattle.vk_check.proofs.checking.against.Goals as goal

pub compare_lines-requires : goal.compare_lines-requires
compare_lines-requires c = subst (HasFewSharedLines c.args.report.now) (sym (c.as_bytes.ensures ∙ c.in_ok-want.ensures)) (few_with_report c.args.report.now (outcome_view c.args.outcome.now) c.requires)
