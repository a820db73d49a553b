-- What a protocol keeps, whoever changes the files between its calls, and whichever of them fail.
use Rattle.std.specs.Prelude.{◌≡◌}
use Rattle.vk_spec.specs.Files.{Files}
use Rattle.vk_spec.specs.Standing.{disk_of}
use Rattle.vk_spec.specs.Calls.{CanMake, LeavesFailed}
use Rattle.vk_tree.specs.Trees.{IsTreeDisk}
use Rattle.vk_protocol.specs.Protocols.{Reply, Protocol, ends, asks}
use Rattle.vk_protocol.specs.Runs.{Does}

-- whenever it goes on, after what may happen meanwhile: the call that it asks may be made and has such an effect, whatever the answer; and each end is such
abbrev pub Keeps : {A : Type 0} → (Files → Files → Type 0) → (Files → Files → Type 0) → (A → Files → Type 0) → Protocol A → Files → Type 0
Keeps Meanwhile Effect Ends (ends x) f = (g : Files) → Meanwhile f g → Ends x g
Keeps Meanwhile Effect Ends (asks call k) f = (g : Files) → Meanwhile f g →
    CanMake call (disk_of g)
    × ((h : Files) → LeavesFailed call g h → IsTreeDisk (disk_of h) → Effect g h)
    × ((reply : Reply call) (h : Files) → Does call reply g h → IsTreeDisk (disk_of h) → Effect g h × Keeps Meanwhile Effect Ends (k reply) h)

-- what may happen and what is done go together with what always holds
pub record AreTerms (Meanwhile Effect : Files → Files → Type 0) (Holds : Files → Type 0) : Type 0 where
  -- nothing may happen, and so may one thing after another
  pub nothing : (f : Files) → Holds f → Meanwhile f f
  pub more : (f g h : Files) → Meanwhile f g → Meanwhile g h → Meanwhile f h
  -- neither breaks what holds
  pub others : (f g : Files) → Meanwhile f g → Holds g
  pub own : (f g : Files) → Holds f → Effect f g → IsTreeDisk (disk_of g) → Holds g

-- nobody else changes the files between its calls, and this holds of them
abbrev pub Alone : (Files → Type 0) → Files → Files → Type 0
Alone Holds f g = Holds f × (g ≡ f)
