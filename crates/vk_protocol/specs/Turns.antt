-- Several at once, each with a protocol of its own: one of them makes a call, then another.
use Rattle.std.specs.Prelude.{◌≡◌, ◌≢◌, ℕ, zero, suc, List, Some, slice_get}
use Rattle.vk_spec.specs.Files.{Files}
use Rattle.vk_spec.specs.Standing.{disk_of}
use Rattle.vk_spec.specs.Calls.{Call, LeavesFailed}
use Rattle.vk_tree.specs.Trees.{IsTreeDisk}
use Rattle.vk_protocol.specs.Keeps.{AreTerms, Keeps}
use Rattle.vk_protocol.specs.Protocols.{Reply, Protocol, asks}
use Rattle.vk_protocol.specs.Runs.{Does}

-- what is left of a protocol, or nothing where a call failed or memory ran out
pub data Left (A : Type 0) : Type 0 where
  goes : Protocol A → Left A
  stopped : Left A

-- what a call leads to: its reply's branch; or a stop, where memory ran out after it, or it failed
pub data Called {A : Type 0} (call : Call) (k : Reply call → Protocol A) (f g : Files) : Left A → Type 0 where
  replied : (reply : Reply call) → Does call reply f g → IsTreeDisk (disk_of g) → Called call k f g (goes (k reply))
  lacked : (reply : Reply call) → Does call reply f g → IsTreeDisk (disk_of g) → Called call k f g stopped
  failed : LeavesFailed call f g → IsTreeDisk (disk_of g) → Called call k f g stopped

-- one of them makes its call, and the others stay where they are
pub record Turn {A : Type 0} (f : Files) (before : List (Left A)) (g : Files) (after : List (Left A)) : Type 0 where
  pub who : ℕ
  pub call : Call
  pub k : Reply call → Protocol A
  pub was : slice_get before who ≡ Some (goes (asks call k))
  pub next : Left A
  pub is : slice_get after who ≡ Some next
  pub made : Called call k f g next
  pub others : (other : ℕ) → other ≢ who → slice_get after other ≡ slice_get before other

-- so many turns
abbrev pub Turns : {A : Type 0} → ℕ → Files → List (Left A) → Files → List (Left A) → Type 0
Turns zero f before g after = (g ≡ f) × (after ≡ before)
Turns {A = A} (suc n) f before g after = (h : Files) × (between : List (Left A)) × Turn f before h between × Turns n h between g after

-- what each may do goes together with what always holds, and is what may happen to every other meanwhile
pub record GoTogether (Meanwhile Effect : ℕ → Files → Files → Type 0) (Holds : Files → Type 0) : Type 0 where
  pub each : (who : ℕ) → AreTerms (Meanwhile who) (Effect who) Holds
  pub apart : (who other : ℕ) → other ≢ who → (f g : Files) → Holds f → Effect who f g → IsTreeDisk (disk_of g) → Meanwhile other f g

-- what is left keeps what it has to
abbrev pub LeftKeeps : {A : Type 0} → (Files → Files → Type 0) → (Files → Files → Type 0) → (A → Files → Type 0) → Left A → Files → Type 0
LeftKeeps Meanwhile Effect Ends (goes p) f = Keeps Meanwhile Effect Ends p f
LeftKeeps Meanwhile Effect Ends stopped f = Unit {0}

-- between turns: what always holds, and each keeps what it has to
pub record AllKeep {A : Type 0} (Meanwhile Effect : ℕ → Files → Files → Type 0) (Holds : Files → Type 0) (Ends : ℕ → A → Files → Type 0) (f : Files) (all : List (Left A)) : Type 0 where
  pub holds : Holds f
  pub keep : (who : ℕ) (left : Left A) → slice_get all who ≡ Some left → LeftKeeps (Meanwhile who) (Effect who) (Ends who) left f

-- whatever the turns, and whatever fails
abbrev pub TurnsKeep : Type 1
TurnsKeep = (A : Type 0) (Meanwhile Effect : ℕ → Files → Files → Type 0) (Holds : Files → Type 0) (Ends : ℕ → A → Files → Type 0) → GoTogether Meanwhile Effect Holds
    → (turns : ℕ) (f g : Files) (before after : List (Left A)) → AllKeep Meanwhile Effect Holds Ends f before → Turns turns f before g after → AllKeep Meanwhile Effect Holds Ends g after
