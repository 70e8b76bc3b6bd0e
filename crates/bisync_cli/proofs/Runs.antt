-- What is known of the run that words ask for.
use Rattle.std.proofs.Common.{◌≡◌, ◌∙◌, ◌<◌, ◌^◌, ℤ, Bool, pos, refl, ap, sym, subst, inl, inr, true, false, Some, None, Result, Ok, Err}
use Rattle.std.specs.Prelude.{◌≢◌, ◌||◌}
use Rattle.bisync_tree.specs.declared.options.Limits.{Limits}
use Rattle.bisync_tree.specs.declared.options.Prefer.{Prefer}
use Rattle.bisync_device.specs.WorkFolder.{WorkFolder, IsSettled, IsImage}
use Rattle.bisync_opts.specs.declared.faults.UsageKind.{UsageKind}
use Rattle.bisync_opts.specs.declared.options.Opts.{Opts}
use Rattle.bisync_report.specs.declared.ends.End.{End}
use Rattle.bisync_report.specs.declared.ends.End.TheVariants.{Done, Resynced, DryRun, InSync, Demo, Usage, WorkFault, NoFilters, BadRule, Locked, FiltersChanged, BadListing, NeedResync, ListingsDiffer, EmptyPrior, RemoteFault, BadPath, TooMany, CheckAccess, EmptyCurrent, TooManyDeletes, AllChanged, NameTooLong, ListingTooLong, OutOfSync, Moved, SinkFault, LockLeft, FoldersLeft, KeepFault, Checked, NotBuilt, OutOfMemory}
use Rattle.bisync_run.specs.Counts.{Counts, Ends}
use Rattle.bisync_run.specs.EndKinds.{is_before_lock}
use Rattle.bisync_run.specs.FolderBases.{LeavesFolderBase, compared}
use Rattle.bisync_run.specs.LeftNames.{LeavesOwnLock, MayBeLeft}
use Rattle.bisync_run.specs.OrdinaryRuns.{KeepsOrdinaryBaseOf, KeepsSafe, LeavesOrdinaryBaseOf}
use Rattle.bisync_run.specs.OwnNames.{HoldsOwnOf}
use Rattle.bisync_run.specs.ResyncRuns.{LeavesBaseOf}
use Rattle.bisync_run.specs.Untouched.{Remotes}
use Rattle.bisync_run.proofs.DoneSteps.{untouched_same}
use Rattle.bisync_run.proofs.OwnNames.{own_left, own_same}
use Rattle.bisync_run.proofs.SafeRuns.{keeps_safe}
use Rattle.bisync_run.proofs.ToldEnds.{images, image_keeps}
use Rattle.bisync_cli.specs.declared.tasks.Task.{Task}
use Rattle.bisync_cli.specs.declared.tasks.Task.TheVariants.{Run, NotBuilt as NoTask}
use Rattle.bisync_cli.specs.Ends.{IsRunEnd, EndsBy}
use Rattle.bisync_cli.specs.Tasks.{OfTask}

-- what holds by the options that were read is said of the run
pub of_run : (read : Result Task UsageKind) (Says : Opts → Type 0) (task : Task) (opts : Opts) → read ≡ Ok task → task ≡ Run opts → Says opts → OfTask read Says
of_run read Says task opts is asks says = subst (λ (r : Result Task UsageKind). OfTask r Says) (sym (is ∙ ap Ok asks)) says

-- an image of an untouched folder has its base, by any options
pub images_same : (read : Result Task UsageKind) (One Two Works : Type 0) (limits : Limits) (f : WorkFolder) (start : Remotes)
    → OfTask read (λ opts. (mode : Prefer) → opts.resync ≡ Some mode → One → Two → Works → IsSettled f → (image : WorkFolder) → IsImage f image
    → LeavesBaseOf mode opts limits f start image start)
images_same (Ok (Run opts)) One Two Works limits f start =
    λ mode is one two work settled image image_is. images mode opts limits f start f image start (λ base was. inl (was, untouched_same start)) settled image_is
images_same (Ok NoTask) One Two Works limits f start = tt
images_same (Err kind) One Two Works limits f start = tt

-- the same of an ordinary run
pub run_images_same : (read : Result Task UsageKind) (One Two Works : Type 0) (limits : Limits) (f : WorkFolder) (start : Remotes)
    → OfTask read (λ opts. opts.resync ≡ None → One → Two → Works → IsSettled f → (image : WorkFolder) → IsImage f image
    → LeavesOrdinaryBaseOf opts limits f start image start)
run_images_same (Ok (Run opts)) One Two Works limits f start = λ none one two work settled image image_is base was. inl ((image_keeps limits.listing f image settled image_is).base base was)
run_images_same (Ok NoTask) One Two Works limits f start = tt
run_images_same (Err kind) One Two Works limits f start = tt

pub kept_images_same : (read : Result Task UsageKind) (One Two Works : Type 0) (limits : Limits) (f : WorkFolder) (start : Remotes)
    → OfTask read (λ opts. opts.resync ≡ None → One → Two → Works → (opts.resilient || opts.dry_run) ≡ true → IsSettled f → (image : WorkFolder) → IsImage f image
    → KeepsOrdinaryBaseOf opts limits f start image start)
kept_images_same (Ok (Run opts)) One Two Works limits f start = λ none one two work stays settled image image_is base was. inl ((image_keeps limits.listing f image settled image_is).base base was)
kept_images_same (Ok NoTask) One Two Works limits f start = tt
kept_images_same (Err kind) One Two Works limits f start = tt

-- the same, as the work folder alone tells it
pub folder_images_same : (read : Result Task UsageKind) (Works : Type 0) (limits : Limits) (f : WorkFolder) (start : Remotes) (end : End)
    → OfTask read (λ opts. Works → IsSettled f → (image : WorkFolder) → IsImage f image → LeavesFolderBase opts limits f start end image)
folder_images_same (Ok (Run opts)) Works limits f start end = λ work settled image image_is base was. inl ((image_keeps limits.listing f image settled image_is).base base was)
folder_images_same (Ok NoTask) Works limits f start end = tt
folder_images_same (Err kind) Works limits f start end = tt

-- each name of a base of an untouched folder holds what it held
pub names_same : (read : Result Task UsageKind) (Works : Type 0) (limits : Limits) (f : WorkFolder) (start : Remotes)
    → OfTask read (λ opts. Works → (left : WorkFolder) → MayBeLeft f f left → HoldsOwnOf opts limits f start left)
names_same (Ok (Run opts)) Works limits f start = λ work left may. own_left limits.listing (compared opts start) f f left (own_same limits.listing (compared opts start) f) (λ settled. settled) may
names_same (Ok NoTask) Works limits f start = tt
names_same (Err kind) Works limits f start = tt

-- what is safe in an untouched folder is safe in its images
pub safe_same : (read : Result Task UsageKind) (One Two Works : Type 0) (limits : Limits) → limits.listing < 2 ^ 64 → (f : WorkFolder) (start : Remotes)
    → OfTask read (λ opts. opts.resync ≡ None → One → Two → Works → IsSettled f → (image : WorkFolder) → IsImage f image → KeepsSafe opts limits f start image start)
safe_same (Ok (Run opts)) One Two Works limits small f start = λ none one two work settled image image_is.
    keeps_safe opts limits small f start false (pos 0) OutOfMemory f image start (λ base was. inl ((image_keeps limits.listing f image settled image_is).base base was)) (inl (untouched_same start, inl (record { rest = refl })))
safe_same (Ok NoTask) One Two Works limits small f start = tt
safe_same (Err kind) One Two Works limits small f start = tt

-- a run that came to nothing left the lock as it was
pub own_lock_same : (read : Result Task UsageKind) (Works : Type 0) (told : Bool) (moment : ℤ) (end : End) (f : WorkFolder) (IsKept : Type 0) → IsKept → end ≡ OutOfMemory
    → OfTask read (λ opts. Works → LeavesOwnLock opts told moment end f f IsKept)
own_lock_same (Ok (Run opts)) Works told moment end f IsKept kept is = λ work. inr (inr (ap is_before_lock is, record { rest = refl }, kept, inl refl))
own_lock_same (Ok NoTask) Works told moment end f IsKept kept is = tt
own_lock_same (Err kind) Works told moment end f IsKept kept is = tt

-- a run that has its cause, and isn't one that isn't built, refuses no words
is_run_end : (old new : Counts) (end : End) → Ends old new end → end ≢ NotBuilt → IsRunEnd end
is_run_end old new (Done one two) ends built = tt
is_run_end old new (Resynced one two) ends built = tt
is_run_end old new DryRun ends built = tt
is_run_end old new InSync ends built = tt
is_run_end old new Demo ends built = tt
is_run_end old new (Usage kind) ends built = ends
is_run_end old new WorkFault ends built = tt
is_run_end old new NoFilters ends built = tt
is_run_end old new (BadRule line) ends built = tt
is_run_end old new (Locked until) ends built = tt
is_run_end old new (FiltersChanged now stored) ends built = tt
is_run_end old new (BadListing name line) ends built = tt
is_run_end old new (NeedResync need) ends built = tt
is_run_end old new (ListingsDiffer path one two) ends built = tt
is_run_end old new (EmptyPrior side) ends built = tt
is_run_end old new (RemoteFault side) ends built = tt
is_run_end old new (BadPath side text) ends built = tt
is_run_end old new (TooMany side files bytes) ends built = tt
is_run_end old new (CheckAccess side path) ends built = tt
is_run_end old new (EmptyCurrent side) ends built = tt
is_run_end old new (TooManyDeletes side gone all) ends built = tt
is_run_end old new (AllChanged side all) ends built = tt
is_run_end old new (NameTooLong side path) ends built = tt
is_run_end old new (ListingTooLong side bytes) ends built = tt
is_run_end old new (OutOfSync path one two) ends built = tt
is_run_end old new (Moved side path listed read) ends built = tt
is_run_end old new (SinkFault done) ends built = tt
is_run_end old new LockLeft ends built = tt
is_run_end old new (FoldersLeft cause) ends built = tt
is_run_end old new (KeepFault side) ends built = tt
is_run_end old new (Checked differ) ends built = tt
is_run_end old new NotBuilt ends built = built refl
is_run_end old new OutOfMemory ends built = tt

-- the end of a run
pub ends_run : (read : Result Task UsageKind) (task : Task) (opts : Opts) (old new : Counts) (end : End) → read ≡ Ok task → task ≡ Run opts
    → end ≢ NotBuilt → Ends old new end → EndsBy read end
ends_run read task opts old new end is asks built ends =
    subst (λ (r : Result Task UsageKind). EndsBy r end) (sym (is ∙ ap Ok asks)) (is_run_end old new end ends built)
