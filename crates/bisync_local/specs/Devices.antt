-- What the real devices tell: what is open and in writing, and their faults. Of what they hold they tell nothing, and
-- the parts that stand for it are empty.
use Rattle.std.specs.Prelude.{ℤ, [], None, is_some, option_map}
use Rattle.std.specs.FinMap as finmap
use Rattle.bisync_device.specs.Remote.{RemoteState}
use Rattle.bisync_device.specs.Sink.{SinkState}
use Rattle.bisync_device.specs.Work.{WorkState}
use Rattle.bisync_device.specs.WorkFolder.{Absent}
use Rattle.bisync_tree.specs.declared.windows.Window.TheVariants.{Ns1}
use Rattle.bisync_local.specs.declared.clocks.SystemClock.{SystemClock}
use Rattle.bisync_local.specs.declared.remotes.LocalRemote.{LocalRemote}
use Rattle.bisync_local.specs.declared.sinks.StdoutSink.{StdoutSink}
use Rattle.bisync_local.specs.declared.works.LocalWork.{LocalWork}

abbrev pub remote_state : {R File Dir : Type 0} → LocalRemote R File Dir → RemoteState
remote_state s = record {
  tree = finmap.empty;
  folders = finmap.empty;
  changes = 0;
  reading = record { opened = is_some s.reader; rest = [] };
  begun = is_some s.part;
  part = [];
  faults = s.faults.count;
  left = None;
  window = Ns1;
}

abbrev pub work_state : {R File Dir : Type 0} → LocalWork R File Dir → WorkState
work_state s = record {
  folder = record {
    one = Absent;
    two = Absent;
    one_old = Absent;
    two_old = Absent;
    one_new = Absent;
    two_new = Absent;
    one_err = Absent;
    two_err = Absent;
    lock = Absent;
    lock_new = Absent;
    folders = Absent;
    folders_new = Absent;
    filters = Absent;
    filters_md5 = Absent;
  };
  reading = record { opened = is_some s.reader; rest = [] };
  writing = option_map (λ w. w.name) s.writing;
  faults = s.faults.count;
  left = None;
}

abbrev pub stdout_state : {R : Type 0} → StdoutSink R → SinkState
stdout_state s = record { bytes = []; faults = s.faults.count }

-- the moment that the clock answered last
abbrev pub last_moment : {R : Type 0} → SystemClock R → ℤ
last_moment s = s.last
