-- The words for sides, changes, options and the names of a work folder.
use Rattle.std.specs.Prelude.{ℕ, List, codes}
use Rattle.bisync_tree.specs.declared.sides.Side.{Side}
use Rattle.bisync_tree.specs.declared.sides.Side.TheVariants as side
use Rattle.bisync_table.specs.declared.deltas.Delta.{Delta}
use Rattle.bisync_table.specs.declared.deltas.Delta.TheVariants as delta
use Rattle.bisync_opts.specs.declared.faults.OptName.{OptName}
use Rattle.bisync_opts.specs.declared.faults.OptName.TheVariants as opt
use Rattle.bisync_device.specs.declared.works.WorkName.{WorkName}
use Rattle.bisync_device.specs.declared.works.WorkName.TheVariants as work

abbrev pub side_text : Side → List ℕ
side_text side.One = codes "path1"
side_text side.Two = codes "path2"

abbrev pub delta_text : Delta → List ℕ
delta_text delta.New = codes "new"
delta_text delta.Newer = codes "newer"
delta_text delta.Older = codes "older"
delta_text delta.Size = codes "size"
delta_text delta.Hash = codes "hash"
delta_text delta.Deleted = codes "deleted"

-- an option is named by its word, with the dashes
abbrev pub option_text : OptName → List ℕ
option_text opt.Path1 = codes "PATH1"
option_text opt.Path2 = codes "PATH2"
option_text opt.ResyncMode = codes "--resync-mode"
option_text opt.Compare = codes "--compare"
option_text opt.TimeWindow = codes "--time-window"
option_text opt.ConflictResolve = codes "--conflict-resolve"
option_text opt.ConflictLoser = codes "--conflict-loser"
option_text opt.ConflictSuffix = codes "--conflict-suffix"
option_text opt.MaxDelete = codes "--max-delete"
option_text opt.CheckFilename = codes "--check-filename"
option_text opt.CheckSync = codes "--check-sync"
option_text opt.FiltersFile = codes "--filters-file"
option_text opt.Workdir = codes "--workdir"
option_text opt.BackupDir1 = codes "--backup-dir1"
option_text opt.BackupDir2 = codes "--backup-dir2"
option_text opt.MaxLock = codes "--max-lock"
option_text opt.Number = codes "number"

abbrev pub work_text : WorkName → List ℕ
work_text work.One = codes "1.lst"
work_text work.Two = codes "2.lst"
work_text work.OneOld = codes "1.lst-old"
work_text work.TwoOld = codes "2.lst-old"
work_text work.OneNew = codes "1.lst-new"
work_text work.TwoNew = codes "2.lst-new"
work_text work.OneErr = codes "1.lst-err"
work_text work.TwoErr = codes "2.lst-err"
work_text work.Lock = codes "lock"
work_text work.LockNew = codes "lock-new"
work_text work.Folders = codes "folders"
work_text work.FoldersNew = codes "folders-new"
work_text work.Filters = codes "filters"
work_text work.FiltersMd5 = codes "filters.md5"
