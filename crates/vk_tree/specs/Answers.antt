-- What the answers of the calls are as plain data.
use Rattle.std.specs.Prelude.{Bool, List, Result, Ok, Err, is_err}
use Rattle.std.proofs.Common.{map}
use Rattle.vk_spec.specs.Standing.{Entry}
use Rattle.vk_spec.specs.Calls as calls
use Rattle.vk_spec.specs.Calls.{Answer, Fault, Refusal, refuses, fails, lacks, missing, too_large, exists, many, is_failed}
use Rattle.vk_spec.specs.Sinks as sinks
use Rattle.vk_base.specs.declared.stops.Stop.{Stop}
use Rattle.vk_base.specs.declared.stops.Stop.TheVariants as stop
use Rattle.vk_base.specs.declared.stops.Outage.{Outage}
use Rattle.vk_base.specs.declared.stops.Outage.TheVariants as outage
use Rattle.vk_tree.specs.declared.trees.Kind.{Kind}
use Rattle.vk_tree.specs.declared.trees.Kind.TheVariants as kind
use Rattle.vk_tree.specs.declared.trees.Listed.{Listed}
use Rattle.vk_tree.specs.declared.trees.ListFault.{ListFault}
use Rattle.vk_tree.specs.declared.trees.ListFault.TheVariants as list
use Rattle.vk_tree.specs.declared.trees.MoveFault.{MoveFault}
use Rattle.vk_tree.specs.declared.trees.MoveFault.TheVariants as move
use Rattle.vk_tree.specs.declared.trees.RemoveFault.{RemoveFault}
use Rattle.vk_tree.specs.declared.trees.RemoveFault.TheVariants as remove
use Rattle.vk_tree.specs.declared.trees.ReadFault.{ReadFault}
use Rattle.vk_tree.specs.declared.trees.ReadFault.TheVariants as read
use Rattle.vk_tree.specs.declared.sending.OutStop.{OutStop}
use Rattle.vk_tree.specs.declared.sending.OutStop.TheVariants as out_stop

-- why a call wasn't done, by what its fault says of what stands there
abbrev pub fault_by : {F : Type 0} → (F → Refusal) → Stop F → Fault
fault_by refusal (stop.Fault fault) = refuses (refusal fault)
fault_by refusal stop.Failed = fails
fault_by refusal (stop.Memory m) = lacks

abbrev pub answer_by : {F A : Type 0} → (F → Refusal) → Result A (Stop F) → Answer A
answer_by refusal (Ok x) = Ok x
answer_by refusal (Err e) = Err (fault_by refusal e)

-- why a file wasn't read
abbrev pub read_refusal : ReadFault → Refusal
read_refusal read.Missing = missing
read_refusal read.TooLarge = too_large

abbrev pub read_answer : {A : Type 0} → Result A (Stop ReadFault) → Answer A
read_answer result = answer_by read_refusal result

-- the tree failed
abbrev pub read_failed : {A : Type 0} → Result A (Stop ReadFault) → Bool
read_failed result = is_failed (read_answer result)

-- the answer of a call that refuses nothing, by what its value is
abbrev pub outage_fault : Outage → Fault
outage_fault outage.Failed = fails
outage_fault (outage.Memory m) = lacks

abbrev pub told_answer : {A B : Type 0} → (A → B) → Result A Outage → Answer B
told_answer view (Ok x) = Ok (view x)
told_answer view (Err e) = Err (outage_fault e)

-- what stands at a path
abbrev pub kind_view : Kind → calls.Kind
kind_view kind.File = calls.is_file
kind_view kind.Folder = calls.is_folder
kind_view kind.Absent = calls.is_absent

abbrev pub kind_answer : Result Kind Outage → Answer calls.Kind
kind_answer result = told_answer kind_view result

abbrev pub write_answer : Result (Unit {0}) Outage → Answer (Unit {0})
write_answer result = told_answer (λ x. x) result

-- the entries of a folder
abbrev pub entry_of : Listed → Entry
entry_of l = record { name = l.name; folder = l.folder }

abbrev pub entries_of : List Listed → List Entry
entries_of ls = map entry_of ls

-- why a folder wasn't listed
abbrev pub list_refusal : ListFault → Refusal
list_refusal list.Missing = missing
list_refusal list.Many = many

abbrev pub list_answer : Result (List Listed) (Stop ListFault) → Answer (List Entry)
list_answer (Ok ls) = Ok (entries_of ls)
list_answer (Err e) = Err (fault_by list_refusal e)

-- why nothing was renamed, and why no file was removed
abbrev pub move_refusal : MoveFault → Refusal
move_refusal move.Missing = missing
move_refusal move.Exists = exists

abbrev pub move_answer : Result (Unit {0}) (Stop MoveFault) → Answer (Unit {0})
move_answer result = answer_by move_refusal result

abbrev pub remove_refusal : RemoveFault → Refusal
remove_refusal remove.Missing = missing

abbrev pub remove_answer : Result (Unit {0}) (Stop RemoveFault) → Answer (Unit {0})
remove_answer result = answer_by remove_refusal result

-- why bytes weren't sent whole
abbrev pub stop_of : OutStop → sinks.Stop
stop_of out_stop.Failed = sinks.failed
stop_of (out_stop.Nothing at) = sinks.nothing at

abbrev pub sent_answer : Result (Unit {0}) OutStop → Result (Unit {0}) sinks.Stop
sent_answer (Ok x) = Ok x
sent_answer (Err e) = Err (stop_of e)

-- a call of the sink stopped
abbrev pub send_stopped : Result (Unit {0}) OutStop → Bool
send_stopped result = is_err (sent_answer result)
