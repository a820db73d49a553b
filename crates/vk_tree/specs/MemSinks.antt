-- A sink in memory: what is known of it, and what its calls do.
use Rattle.std.specs.Prelude.{◌≡◌, ◌+◌, ℕ, List, [], length, min, true, Option, Some, None, if◌then◌else◌}
use Rattle.vk_spec.specs.Sinks.{SinkState, count_taken, is_stopped, put_failed}
use Rattle.vk_base.specs.Schedules.{turn_of, is_calm, with_call, raised}
use Rattle.vk_tree.specs.declared.mem_sinks.MemSink.{MemSink}
use Rattle.vk_base.specs.declared.schedules.Schedule.{Schedule}
use Rattle.vk_base.specs.declared.schedules.Turn.{Turn}
use Rattle.vk_base.specs.declared.schedules.Turn.TheVariants.{Listed, Stopped, Free}

-- how many more bytes fit
abbrev pub left_in : MemSink → ℕ
left_in m = m.buffer.1

-- which calls are to go wrong
abbrev pub sink_schedule : MemSink → Schedule
sink_schedule m = m.schedule

-- what is known of it; it is sure to take what fits where no call is to go wrong
abbrev pub sink_state : MemSink → SinkState
sink_state m = record {
  taken = Some m.buffer.0;
  faults = m.faults;
  failures = m.failures;
  room = if is_calm m.schedule then m.buffer.1 else 0;
}

-- a sink that has taken nothing, with room for so many bytes
pub record IsNewSink (room : ℕ) (m : MemSink) : Type 0 where
  pub state : sink_state m ≡ record { taken = Some []; faults = 0; failures = 0; room = room }
  pub left : left_in m ≡ room
  pub calm : is_calm (sink_schedule m) ≡ true
  pub calls : (sink_schedule m).calls ≡ 0

-- what a call answers: what still fits is taken, unless the call fails or the sink has stopped
abbrev pub put_answer : Turn → ℕ → List ℕ → Option ℕ
put_answer Listed left piece = None
put_answer Stopped left piece = Some 0
put_answer Free left piece = Some (min left (length piece))

-- what a call of `put` does, besides what every sink does
pub record MemPuts (piece : List ℕ) (answer : Option ℕ) (before after : MemSink) : Type 0 where
  pub turn : answer ≡ put_answer (turn_of (sink_schedule before)) (left_in before) piece
  pub left : left_in after + count_taken answer ≡ left_in before
  pub faults : (sink_state after).faults ≡ raised (is_stopped piece answer) (sink_state before).faults
  pub failures : (sink_state after).failures ≡ raised (put_failed answer) (sink_state before).failures
  pub schedule : sink_schedule after ≡ with_call (sink_schedule before)

-- it goes by another schedule, and all else stays
pub record Rescheduled (schedule : Schedule) (before after : MemSink) : Type 0 where
  pub planned : sink_schedule after ≡ schedule
  pub left : left_in after ≡ left_in before
  pub taken : (sink_state after).taken ≡ (sink_state before).taken
  pub faults : (sink_state after).faults ≡ (sink_state before).faults
  pub failures : (sink_state after).failures ≡ (sink_state before).failures
