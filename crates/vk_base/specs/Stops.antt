-- What a call answers in place of a value: a fault, or that it was stopped.
use Rattle.std.specs.Prelude.{Bool, true, false, Option, Some, None, Result, Ok, Err}
use Rattle.vk_base.specs.declared.memory.Memory.{Memory}
use Rattle.vk_base.specs.declared.stops.Unread.{Unread}
use Rattle.vk_base.specs.declared.stops.Unread.TheVariants as unread
use Rattle.vk_base.specs.declared.stops.Stop.{Stop}
use Rattle.vk_base.specs.declared.stops.Stop.TheVariants as stop
use Rattle.vk_base.specs.declared.stops.Outage.{Outage}
use Rattle.vk_base.specs.declared.stops.Outage.TheVariants as outage

-- out of memory, in its one form
abbrev pub out_of_memory : Memory
out_of_memory = record { told = tt }

-- the fault that is told, unless the call was stopped
abbrev pub fault_in : {F : Type 0} → Unread F → Option F
fault_in (unread.Fault fault) = Some fault
fault_in (unread.Memory m) = None

abbrev pub stop_fault_in : {F : Type 0} → Stop F → Option F
stop_fault_in (stop.Fault fault) = Some fault
stop_fault_in stop.Failed = None
stop_fault_in (stop.Memory m) = None

-- the same fault as it is seen
abbrev pub fault_seen : {F P : Type 0} → (F → P) → Stop F → Option P
fault_seen view (stop.Fault fault) = Some (view fault)
fault_seen view stop.Failed = None
fault_seen view (stop.Memory m) = None

-- the tree or the catalogue failed
abbrev pub is_failure : {F : Type 0} → Stop F → Bool
is_failure (stop.Fault fault) = false
is_failure stop.Failed = true
is_failure (stop.Memory m) = false

abbrev pub has_failed : {F A : Type 0} → Result A (Stop F) → Bool
has_failed (Ok x) = false
has_failed (Err e) = is_failure e

-- the same of a call that finds no fault
abbrev pub is_outage : Outage → Bool
is_outage outage.Failed = true
is_outage (outage.Memory m) = false

abbrev pub was_out : {A : Type 0} → Result A Outage → Bool
was_out (Ok x) = false
was_out (Err e) = is_outage e

abbrev pub stop_of : {F : Type 0} → Outage → Stop F
stop_of outage.Failed = stop.Failed
stop_of (outage.Memory m) = stop.Memory m
