-- What a manifest asks for on a line, each with its cause.
use Rattle.std.specs.Prelude.{ℕ, Bool, true, false, List, [], ◌∷◌, Option, Some, None, if◌then◌else◌}
use Rattle.vk_spec.specs.Versions.{ask_of}
use Rattle.vk_spec.specs.Manifests.{Override}
use Rattle.vk_spec.specs.Pages.{is_pinned_by, Given, overlay, override, baseline}
use Rattle.vk_resolution.specs.Givens.{Pages}
use Rattle.vk_resolution.specs.Asking.{Fact, need, floor, visit}
use Rattle.vk_resolution.specs.Consequences.{by_one, by_minimum, by_overlay, by_override, by_baseline}
use Rattle.vk_resolution.specs.Reasons.{Reason}

-- the floors of pinned ports fall away, and a manifest asks for no visit
abbrev pub falls_away : List Override → Pages → Fact → Bool
falls_away overrides pages (need who f) = false
falls_away overrides pages (floor p a) = is_pinned_by overrides p (pages p).given
falls_away overrides pages (visit i f a) = true

-- the reason of a fact that a manifest asks for
abbrev pub reason_on : ℕ → Fact → Reason
reason_on line (need who f) = record { fact = need who f; cause = by_one line }
reason_on line (floor p a) = record { fact = floor p a; cause = by_minimum line }
reason_on line (visit i f a) = record { fact = visit i f a; cause = by_minimum line }

abbrev pub asked_on : List Override → Pages → ℕ → Fact → List Reason
asked_on overrides pages line x = if falls_away overrides pages x then [] else reason_on line x ∷ []

-- the floor of a port's given version
abbrev pub given_on : ℕ → List ℕ → Option Given → List Reason
given_on line p None = []
given_on line p (Some (overlay v)) = record { fact = floor p (ask_of v); cause = by_overlay line } ∷ []
given_on line p (Some (override a)) = record { fact = floor p a; cause = by_override line } ∷ []
given_on line p (Some (baseline a)) = record { fact = floor p a; cause = by_baseline line } ∷ []
