-- What is wrong with needs, each where it stands among them.
use Rattle.std.specs.Prelude.{◌≡◌, ℕ, List, [], length, Option, Some, None, slice_get}
use Rattle.vk_resolution.specs.Settings.{root, inst}
use Rattle.vk_resolution.specs.Asking.{Fact, need, floor, visit}
use Rattle.vk_resolution.specs.Choices.{chosen_of}
use Rattle.vk_resolution.specs.Consequences.{Inputs}
use Rattle.vk_resolution.specs.Faults.{Fault, judged_need}
use Rattle.vk_rules.specs.Flaws.{flaw_faults}
use Rattle.vk_rules.specs.declared.flaws.Flaw.{Flaw}

-- the lines of a need's flaw: that of an instance is told with the version that is chosen for its port
abbrev pub flaw_lines : Inputs → List Fact → Fact → Option Flaw → ℕ → List Fault
flaw_lines inputs facts (need (root triplet) f) flaw n = flaw_faults (root triplet) f None n flaw
flaw_lines inputs facts (need (inst i) f) flaw n = flaw_faults (inst i) f (chosen_of inputs facts i.port) n flaw
flaw_lines inputs facts (floor p a) flaw n = []
flaw_lines inputs facts (visit i f a) flaw n = []

-- a need has this flaw, or none: on each line it is judged so
abbrev pub HasFlaw : Inputs → List Fact → Fact → Option Flaw → Type 0
HasFlaw inputs facts x flaw = (n : ℕ) → judged_need inputs facts x n ≡ flaw_lines inputs facts x flaw n

-- the flaw at a place, if there is one
abbrev pub flaw_in : Option (Option Flaw) → Option Flaw
flaw_in None = None
flaw_in (Some flaw) = flaw

-- each need has the flaw at its place
pub record AreFlaws (inputs : Inputs) (facts needs : List Fact) (flaws : List (Option Flaw)) : Type 0 where
  pub long : length flaws ≡ length needs
  pub each : (m : ℕ) (x : Fact) → slice_get needs m ≡ Some x → HasFlaw inputs facts x (flaw_in (slice_get flaws m))
