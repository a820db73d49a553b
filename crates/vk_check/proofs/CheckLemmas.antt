-- Whom a check says yes to.
use Rattle.std.proofs.Common.{◌≡◌, ◌↔◌, ℕ, List, refl, subst}
use Rattle.vk_resolution.specs.Lines.{report_text}
use Rattle.vk_resolution.specs.Outcomes.{Outcome}
use Rattle.vk_resolution.proofs.PlannerLemmas.{one_outcome_one_report}
use Rattle.vk_check.specs.Checked.{YesIsExact}
use Rattle.vk_check.specs.Verdicts.{IsVerdict}
use Rattle.vk_check.specs.declared.verdicts.Verdict.{Verdict}
use Rattle.vk_check.specs.declared.verdicts.Verdict.TheVariants.{Yes, No}
use Rattle.vk_check.proofs.CompareLemmas.{no_means_different}

yes_exactly : (report want : List ℕ) (verdict : Verdict) → IsVerdict report want verdict → (verdict ≡ Yes) ↔ (report ≡ want)
yes_exactly report want Yes compared = ((λ e. compared), λ e. refl)
yes_exactly report want (No line wanted) compared = ((λ e. (cc)), λ e. absurd (no_means_different report want line wanted compared e))

pub yes_is_exact : YesIsExact
yes_is_exact setting pages report verdict checked outcome is =
    let same : checked.outcome ≡ outcome = (one_outcome_one_report setting pages checked.outcome outcome checked.is_outcome is).outcome in
    yes_exactly report (report_text outcome) verdict (subst (λ (o : Outcome). IsVerdict report (report_text o) verdict) same checked.compared)
