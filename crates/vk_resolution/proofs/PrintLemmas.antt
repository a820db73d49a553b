-- The worked projects, printed.
use Rattle.std.proofs.Common.{◌≡◌, ℕ, List, ap}
use Rattle.std.specs.Prelude.{Some, option_map, length}
use Rattle.vk_resolution.specs.Consequences.{Inputs}
use Rattle.vk_resolution.specs.Outcomes.{Outcome}
use Rattle.vk_resolution.specs.Lines.{fault_line, report_text}
use Rattle.vk_resolution.specs.Agreement.{reasons_in}
use Rattle.vk_resolution.specs.Computed.{outcome_by}
use Rattle.vk_resolution.specs.Printouts.{lines, Prints, told_lines, Tells}
use Rattle.vk_resolution.proofs.Soundness.{map_some}
use Rattle.vk_resolution.proofs.ComputedOutcome.{outcome_is}

pub prints : (inputs : Inputs) (texts : List (List ℕ)) → option_map report_text (outcome_by inputs fault_line 12) ≡ Some (lines texts) → Prints inputs texts
prints inputs texts computed = let r = map_some report_text (outcome_by inputs fault_line 12) (lines texts) computed in (r.0, outcome_is inputs fault_line 12 r.0 r.1, r.2)

-- what is told, and how many reasons there are
abbrev pub shown : Outcome → List ℕ × ℕ
shown o = (told_lines o, length (reasons_in o))

pub tells : (inputs : Inputs) (texts : List (List ℕ)) (n : ℕ) → option_map shown (outcome_by inputs fault_line 12) ≡ Some (lines texts, n) → Tells inputs texts n
tells inputs texts n computed =
    let r = map_some shown (outcome_by inputs fault_line 12) (lines texts, n) computed in
    record { outcome = r.0; is_outcome = outcome_is inputs fault_line 12 r.0 r.1; told = ap (λ (s : List ℕ × ℕ). s.0) r.2; many = ap (λ (s : List ℕ × ℕ). s.1) r.2 }
