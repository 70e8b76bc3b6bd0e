-- The meaning of a work folder in memory.
use Rattle.std.specs.Prelude.{◌≡◌, [], false, None}
use Rattle.bisync_device.specs.Work.{WorkState}
use Rattle.bisync_memory.specs.Acts.{calls_of, failures_of}
use Rattle.bisync_memory.specs.WorkFiles.{folder_of, no_names}
use Rattle.bisync_memory.specs.declared.loose_modes.LooseMode.{LooseMode}
use Rattle.bisync_memory.specs.declared.loose_modes.LooseMode.TheVariants.{Keep}
use Rattle.bisync_memory.specs.declared.schedules.Schedule.{Schedule}
use Rattle.bisync_memory.specs.declared.works.MemWork.{MemWork}

abbrev pub work_state : MemWork → WorkState
work_state work = record {
  folder = folder_of work.files;
  reading = record { opened = work.opened; rest = work.reading };
  writing = work.writing;
  faults = work.schedule.faults;
  left = work.schedule.left;
}

-- the counts, and the calls that are to fail
abbrev pub work_schedule : MemWork → Schedule
work_schedule work = work.schedule

-- what a stop leaves of bytes that weren't synced
abbrev pub loose_mode : MemWork → LooseMode
loose_mode work = work.mode

-- nothing is there or open or in writing, no fault, no call, no failure is listed, no stop is to
-- come, and a stop leaves all bytes
pub record IsNewWork (work : MemWork) : Type 0 where
  pub state : work_state work ≡ record { folder = no_names; reading = record { opened = false; rest = [] }; writing = None; faults = 0; left = None }
  pub calls : calls_of (work_schedule work) ≡ 0
  pub failures : failures_of (work_schedule work) ≡ []
  pub mode : loose_mode work ≡ Keep
