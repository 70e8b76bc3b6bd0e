-- The work folder that the files of a memory device stand for.
use Rattle.std.specs.Prelude.{ℕ, ◌/◌, List, [], length, take, Option, Some, None, if◌then◌else◌}
use Rattle.bisync_device.specs.WorkFolder.{Held, Absent, Kept, Loose, WorkFolder, at, is_there}
use Rattle.bisync_device.specs.Work.{emptied}
use Rattle.bisync_device.specs.declared.works.WorkName.{WorkName}
use Rattle.bisync_memory.specs.declared.loose_modes.LooseMode.{LooseMode}
use Rattle.bisync_memory.specs.declared.loose_modes.LooseMode.TheVariants.{Keep, Empty, Half}
use Rattle.bisync_memory.specs.declared.work_files.Stored.{Stored}
use Rattle.bisync_memory.specs.declared.work_files.WorkFiles.{WorkFiles}

abbrev pub held : Option Stored → Held
held None = Absent
held (Some stored) = if stored.kept then Kept stored.bytes.items else Loose stored.bytes.items

abbrev pub folder_of : WorkFiles → WorkFolder
folder_of files = record {
  one = held files.one;
  two = held files.two;
  one_old = held files.one_old;
  two_old = held files.two_old;
  one_new = held files.one_new;
  two_new = held files.two_new;
  one_err = held files.one_err;
  two_err = held files.two_err;
  lock = held files.lock;
  lock_new = held files.lock_new;
  folders = held files.folders;
  folders_new = held files.folders_new;
  filters = held files.filters;
  filters_md5 = held files.filters_md5;
}

-- the folder in which nothing is there
abbrev pub no_names : WorkFolder
no_names = record {
  one = Absent;
  two = Absent;
  one_old = Absent;
  two_old = Absent;
  one_new = Absent;
  two_new = Absent;
  one_err = Absent;
  two_err = Absent;
  lock = Absent;
  lock_new = Absent;
  folders = Absent;
  folders_new = Absent;
  filters = Absent;
  filters_md5 = Absent;
}

-- the folder in which a name that isn't there was made
abbrev pub created : WorkName → WorkFolder → WorkFolder
created n f = if is_there (at f n) then f else emptied n f

-- what a stop leaves of bytes that weren't synced
abbrev pub woken_bytes : LooseMode → List ℕ → List ℕ
woken_bytes Keep bytes = bytes
woken_bytes Empty bytes = []
woken_bytes Half bytes = take (length bytes / 2) bytes

-- what a stop leaves under a name
abbrev pub woken : LooseMode → Held → Held
woken mode Absent = Absent
woken mode (Kept bytes) = Kept bytes
woken mode (Loose bytes) = Loose (woken_bytes mode bytes)

-- what a stop leaves under each name
abbrev pub woken_folder : LooseMode → WorkFolder → WorkFolder
woken_folder mode f = record {
  one = woken mode f.one;
  two = woken mode f.two;
  one_old = woken mode f.one_old;
  two_old = woken mode f.two_old;
  one_new = woken mode f.one_new;
  two_new = woken mode f.two_new;
  one_err = woken mode f.one_err;
  two_err = woken mode f.two_err;
  lock = woken mode f.lock;
  lock_new = woken mode f.lock_new;
  folders = woken mode f.folders;
  folders_new = woken mode f.folders_new;
  filters = woken mode f.filters;
  filters_md5 = woken mode f.filters_md5;
}
