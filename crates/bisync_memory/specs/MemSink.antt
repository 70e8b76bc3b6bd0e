-- The meaning of a memory sink.
use Rattle.std.specs.Prelude.{◌≡◌, [], None}
use Rattle.bisync_device.specs.Sink.{SinkState}
use Rattle.bisync_memory.specs.Acts.{calls_of, failures_of, left_of}
use Rattle.bisync_memory.specs.declared.schedules.Schedule.{Schedule}
use Rattle.bisync_memory.specs.declared.sinks.MemSink.{MemSink}

abbrev pub sink_state : MemSink → SinkState
sink_state sink = record { bytes = sink.bytes.items; faults = sink.schedule.faults }

-- the counts, and the calls that are to fail
abbrev pub sink_schedule : MemSink → Schedule
sink_schedule sink = sink.schedule

-- no byte, no fault, no call, no failure is listed, and no stop is to come
pub record IsNewSink (sink : MemSink) : Type 0 where
  pub bytes : (sink_state sink).bytes ≡ []
  pub faults : (sink_state sink).faults ≡ 0
  pub calls : calls_of (sink_schedule sink) ≡ 0
  pub failures : failures_of (sink_schedule sink) ≡ []
  pub left : left_of (sink_schedule sink) ≡ None
