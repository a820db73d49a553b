-- What running a protocol does to a tree.
use Rattle.std.specs.Prelude.{◌≡◌, ◌⊎◌, true, false, Result, Ok, Err, IfSome}
use Rattle.vk_spec.specs.States.{State}
use Rattle.vk_spec.specs.Files.{Files}
use Rattle.vk_spec.specs.Standing.{Disk, disk_of}
use Rattle.vk_spec.specs.Calls.{Call, Output, Answer, fails, Made, Says, IsSmall, is_reading, is_failed, Leaves, CanMake}
use Rattle.vk_base.specs.declared.stops.Outage.{Outage}
use Rattle.vk_base.specs.declared.stops.Outage.TheVariants.{Failed, Memory}
use Rattle.vk_tree.specs.Trees.{IsTreeDisk}
use Rattle.vk_protocol.specs.Protocols.{Reply, answer_of, Protocol, ends, asks}

-- ---- one step

-- why a call has no reply: it failed, or memory ran out before it, in it or after it
abbrev pub Stops : Call → Outage → State → State → Type 0
Stops call Failed before after = Made call (Err fails) before after
Stops call (Memory m) before after = (after ≡ before) ⊎ ((answer : Answer (Output call)) × Made call answer before after × (is_failed answer ≡ false))

-- the call was made with a reply of which this is so, or it has none
abbrev pub Asked : {X : Type 0} (call : Call) → (Reply call → X → Type 0) → Result X Outage → State → State → Type 0
Asked call P (Ok x) before after = (reply : Reply call) × Made call (answer_of call reply) before after × P reply x
Asked call P (Err e) before after = Stops call e before after

abbrev pub LacksOnly : Outage → Type 0
LacksOnly Failed = ⊥
LacksOnly (Memory m) = Unit {0}

-- one step: exactly the call that is asked was made, and what is left is what its reply leads to
abbrev pub Stepped : {A : Type 0} → Protocol A → Result (Unit {0}) Outage → Protocol A → State → State → Type 0
Stepped (ends x) (Ok u) q before after = ⊥
Stepped (ends x) (Err e) q before after = LacksOnly e × (after ≡ before)
Stepped (asks call k) result q before after = Asked call (λ reply u. q ≡ k reply) result before after

-- ---- a whole run

abbrev pub IsEnd : {A : Type 0} → A → Result A Outage → Type 0
IsEnd x (Ok y) = y ≡ x
IsEnd x (Err e) = LacksOnly e

abbrev pub StopsAt : {A : Type 0} → Call → Result A Outage → State → State → Type 0
StopsAt call (Ok x) before after = ⊥
StopsAt call (Err e) before after = Stops call e before after

-- the protocol was run to its end, or to a call that has no reply
abbrev pub Ran : {A : Type 0} → Protocol A → Result A Outage → State → State → Type 0
Ran (ends x) result before after = IsEnd x result × (after ≡ before)
Ran (asks call k) result before after =
    StopsAt call result before after
    ⊎ ((reply : Reply call) × (mid : State) × Made call (answer_of call reply) before mid × Ran (k reply) result mid after)

-- what is left of the one protocol after some calls is the other
abbrev pub Leads : {A : Type 0} → Protocol A → Protocol A → State → State → Type 0
Leads {A = A} p q before after = (result : Result A Outage) (end : State) → Ran q result after end → Ran p result before end

-- ---- over files that stay as they are

-- what may be replied on these files
pub record Replies (call : Call) (reply : Reply call) (d : Disk) : Type 0 where
  pub says : Says call (answer_of call reply) d
  pub small : IsSmall call (answer_of call reply)
  pub tree : IsTreeDisk d

-- each call that may be asked is one of these
abbrev pub AsksOnly : {A : Type 0} → (Call → Type 0) → Protocol A → Type 0
AsksOnly M (ends x) = Unit {0}
AsksOnly M (asks call k) = M call × ((reply : Reply call) → AsksOnly M (k reply))

abbrev pub Reads : Call → Type 0
Reads call = is_reading call ≡ true

-- each end that may come on these files is such
abbrev pub Tells : {A : Type 0} → (A → Type 0) → Protocol A → Disk → Type 0
Tells P (ends x) d = P x
Tells P (asks call k) d = (reply : Reply call) → Replies call reply d → Tells P (k reply) d

-- ---- which calls may be made

-- a call that is asked, its reply, and what it leaves
pub record Does (call : Call) (reply : Reply call) (f g : Files) : Type 0 where
  pub says : Says call (answer_of call reply) (disk_of f)
  pub small : IsSmall call (answer_of call reply)
  pub leaves : Leaves call (answer_of call reply) f g

-- the call that is asked next may be made
abbrev pub CanAsk : {A : Type 0} → Protocol A → Disk → Type 0
CanAsk (ends x) d = Unit {0}
CanAsk (asks call k) d = CanMake call d

-- and so may all later ones
abbrev pub CanRun : {A : Type 0} → Protocol A → Files → Type 0
CanRun (ends x) f = Unit {0}
CanRun (asks call k) f = CanMake call (disk_of f) × ((reply : Reply call) (g : Files) → Does call reply f g → IsTreeDisk (disk_of g) → CanRun (k reply) g)

abbrev pub CanRunOn : {A : Type 0} → Protocol A → State → Type 0
CanRunOn p s = IfSome s.told (λ t. CanRun p t.files)

abbrev pub IsAtEnd : {A : Type 0} → Protocol A → Type 0
IsAtEnd (ends x) = Unit {0}
IsAtEnd (asks call k) = ⊥

-- the machine came to an end, or the run of what was left stopped
abbrev pub CameTo : {A : Type 0} → Protocol A → Result (Unit {0}) Outage → Protocol A → State → State → Type 0
CameTo p (Ok u) q before after = Leads p q before after × IsAtEnd q
CameTo p (Err e) q before after = Ran p (Err e) before after

-- one step that gives what is next: it means what is left
abbrev pub NextIs : {A X : Type 0} → Protocol A → (X → Protocol A) → Result X Outage → State → State → Type 0
NextIs p means (Ok x) before after = Stepped p (Ok tt) (means x) before after
NextIs p means (Err e) before after = Stepped p (Err e) p before after
