-- Faults by their printed lines.
use Rattle.std.specs.Prelude.{◌≡◌, ℕ, List, ◌∷◌, map}
use Rattle.vk_resolution.specs.Faults as plain
use Rattle.vk_resolution.specs.Lines.{fault_line}
use Rattle.vk_resolution.specs.Outcomes.{lines_of}
use Rattle.vk_model.specs.declared.faults.Fault.{Fault}
use Rattle.vk_model.specs.FaultViews.{fault_view}

abbrev pub seen : List (List ℕ × Fault) → List (List ℕ × plain.Fault)
seen es = map (λ e. (e.0, fault_view e.1)) es

abbrev pub printed : List plain.Fault → List (List ℕ × plain.Fault)
printed faults = map (λ f. (fault_line f, f)) faults

-- where the lines of some faults stood in order, those of one more, before them, stand in order
pub record PutsLine (fault : plain.Fault) (old new : List (List ℕ × Fault)) : Type 0 where
  pub puts : (faults : List plain.Fault) → seen old ≡ printed (lines_of fault_line faults) → seen new ≡ printed (lines_of fault_line (fault ∷ faults))
