-- What is known of the host's files, and what a call does to it.
use Rattle.std.specs.Prelude.{◌≡◌, ◌≤◌, ℕ, max, Result, Ok, Err, IsErr, None, true, false}
use Rattle.vk_spec.specs.Counts.{Counted, counted_up}
use Rattle.vk_spec.specs.States.{State}
use Rattle.vk_base.specs.declared.stops.Outage.{Outage}
use Rattle.vk_base.specs.declared.stops.Outage.TheVariants.{Failed, Memory}
use Rattle.vk_real.specs.declared.files.FileTree.{FileTree}

-- its counts alone
abbrev pub file_state : {R : Type 0} → FileTree R → State
file_state t = record { told = None; changes = t.changes; faults = t.faults; calls = t.calls; widest = t.widest; sure = false }

-- no call was made
abbrev pub no_calls : State
no_calls = record { told = None; changes = 0; faults = 0; calls = 0; widest = 0; sure = false }

-- a failure counts, and out of memory doesn't
abbrev pub IsOutage : Outage → ℕ → ℕ → Type 0
IsOutage Failed before after = Counted true before after
IsOutage (Memory m) before after = after ≡ before

-- what the host's calls came to is told: a value as it is, an error as an outage
abbrev pub Tells : {A E : Type 0} → Result A E → Result A Outage → ℕ → ℕ → Type 0
Tells came (Ok value) before after = (came ≡ Ok value) × (after ≡ before)
Tells came (Err outage) before after = IsErr came × IsOutage outage before after

-- a call ended that was to give so many bytes at most; what it changed isn't counted yet
pub record Ended {A E : Type 0} (width : ℕ) (came : Result A E) (answer : Result A Outage) (before after : State) : Type 0 where
  pub tells : Tells came answer before.faults after.faults
  pub changes : after.changes ≡ before.changes
  pub calls : after.calls ≡ counted_up before.calls
  pub later : before.calls ≤ after.calls
  pub widest : after.widest ≡ max before.widest width
