-- The counts of faults of a run's devices, and which ends rest on them.
use Rattle.std.specs.Prelude.{◌≡◌, ◌≤◌, ℕ, true, false, ⊤, Result, IsOk, IfErr}
use Rattle.bisync_device.specs.Faults.{Rose}
use Rattle.bisync_tree.specs.declared.sides.Side.TheVariants.{One, Two}
use Rattle.bisync_report.specs.declared.ends.End.{End}
use Rattle.bisync_report.specs.declared.ends.End.TheVariants.{Done, Resynced, DryRun, InSync, Demo, Usage, WorkFault, NoFilters, BadRule, Locked, FiltersChanged, BadListing, NeedResync, ListingsDiffer, EmptyPrior, RemoteFault, BadPath, TooMany, CheckAccess, EmptyCurrent, TooManyDeletes, AllChanged, NameTooLong, ListingTooLong, OutOfSync, Moved, SinkFault, LockLeft, FoldersLeft, KeepFault, Checked, NotBuilt, OutOfMemory}

-- the counts of faults of both remotes, of the work folder and of the sink
pub record Counts : Type 0 where
  pub one : ℕ
  pub two : ℕ
  pub work : ℕ
  pub sink : ℕ

-- the same, by their order
abbrev pub counts : ℕ → ℕ → ℕ → ℕ → Counts
counts one two work sink = record { one = one; two = two; work = work; sink = sink }

-- no count fell
pub record Later (old new : Counts) : Type 0 where
  pub one : old.one ≤ new.one
  pub two : old.two ≤ new.two
  pub work : old.work ≤ new.work
  pub sink : old.sink ≤ new.sink

-- an end that stops a run before its good end: a fault of a device comes only where its count rose
abbrev pub Stops : Counts → Counts → End → Type 0
Stops old new WorkFault = Rose old.work new.work
Stops old new (RemoteFault One) = Rose old.one new.one
Stops old new (RemoteFault Two) = Rose old.two new.two
Stops old new (SinkFault false) = Rose old.sink new.sink
Stops old new NoFilters = ⊤
Stops old new (BadRule line) = ⊤
Stops old new (Locked until) = ⊤
Stops old new (FiltersChanged now stored) = ⊤
Stops old new (BadListing name line) = ⊤
Stops old new (NeedResync need) = ⊤
Stops old new (ListingsDiffer path one two) = ⊤
Stops old new (EmptyPrior side) = ⊤
Stops old new (BadPath side text) = ⊤
Stops old new (TooMany side files bytes) = ⊤
Stops old new (CheckAccess side path) = ⊤
Stops old new (EmptyCurrent side) = ⊤
Stops old new (TooManyDeletes side gone all) = ⊤
Stops old new (AllChanged side all) = ⊤
Stops old new (NameTooLong side path) = ⊤
Stops old new (ListingTooLong side bytes) = ⊤
Stops old new (OutOfSync path one two) = ⊤
Stops old new (Moved side path listed read) = ⊤
Stops old new OutOfMemory = ⊤
Stops old new (Done one two) = ⊥
Stops old new (Resynced one two) = ⊥
Stops old new DryRun = ⊥
Stops old new InSync = ⊥
Stops old new Demo = ⊥
Stops old new (Usage kind) = ⊥
Stops old new (SinkFault true) = ⊥
Stops old new LockLeft = ⊥
Stops old new (FoldersLeft cause) = ⊥
Stops old new (KeepFault side) = ⊥
Stops old new (Checked differ) = ⊥
Stops old new NotBuilt = ⊥

-- a remote's count stays, but where the end tells a fault of it
abbrev pub RemotesStand : Counts → Counts → End → Type 0
RemotesStand old new (RemoteFault One) = new.two ≡ old.two
RemotesStand old new (RemoteFault Two) = new.one ≡ old.one
RemotesStand old new end = (new.one ≡ old.one) × (new.two ≡ old.two)

-- of a part of a run: no count falls, all stay where it is Ok, an end that names a fault has its cause, and no other remote failed
pub record HasCauses {T : Type 0} (old new : Counts) (result : Result T End) : Type 0 where
  pub later : Later old new
  pub good : IsOk result → new ≡ old
  pub fault : IfErr result (Stops old new)
  pub remotes : IfErr result (RemotesStand old new)

-- of a whole run; where a good end was lost, to the lock or to the last line, the counts before that call stood
abbrev pub Ends : Counts → Counts → End → Type 0
Ends old new (Done one two) = new ≡ old
Ends old new (Resynced one two) = new ≡ old
Ends old new DryRun = new ≡ old
Ends old new InSync = new ≡ old
Ends old new LockLeft = Rose old.work new.work × (new.one ≡ old.one) × (new.two ≡ old.two)
Ends old new (SinkFault true) = Rose old.sink new.sink × (new.one ≡ old.one) × (new.two ≡ old.two) × (new.work ≡ old.work)
Ends old new (SinkFault false) = Rose old.sink new.sink
Ends old new WorkFault = Rose old.work new.work
Ends old new (RemoteFault One) = Rose old.one new.one
Ends old new (RemoteFault Two) = Rose old.two new.two
Ends old new NoFilters = ⊤
Ends old new (BadRule line) = ⊤
Ends old new (Locked until) = ⊤
Ends old new (FiltersChanged now stored) = ⊤
Ends old new (BadListing name line) = ⊤
Ends old new (NeedResync need) = ⊤
Ends old new (ListingsDiffer path one two) = ⊤
Ends old new (EmptyPrior side) = ⊤
Ends old new (BadPath side text) = ⊤
Ends old new (TooMany side files bytes) = ⊤
Ends old new (CheckAccess side path) = ⊤
Ends old new (EmptyCurrent side) = ⊤
Ends old new (TooManyDeletes side gone all) = ⊤
Ends old new (AllChanged side all) = ⊤
Ends old new (NameTooLong side path) = ⊤
Ends old new (ListingTooLong side bytes) = ⊤
Ends old new (OutOfSync path one two) = ⊤
Ends old new (Moved side path listed read) = ⊤
Ends old new NotBuilt = ⊤
Ends old new OutOfMemory = ⊤
Ends old new Demo = ⊥
Ends old new (Usage kind) = ⊥
Ends old new (FoldersLeft cause) = ⊥
Ends old new (KeepFault side) = ⊥
Ends old new (Checked differ) = ⊥

-- so it ends, and no other remote failed
abbrev pub IsCaused : Counts → Counts → End → Type 0
IsCaused old new end = Ends old new end × RemotesStand old new end
