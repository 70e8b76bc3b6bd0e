use Rattle.std.proofs.Common.{◌<◌, ◌^◌, arith, refl}
use Rattle.bisync_tree.specs.declared.options.TheConstants.Limits.{REAL}
use Rattle.bisync_model.specs.Trees.{by_side}
use Rattle.bisync_run.proofs.FallsAsLaws.{keeps_tree_same}
use Rattle.bisync_run.proofs.BlockedFolders.{blocked_same}
use Rattle.bisync_cli.specs.Tasks.{task_in}
use Rattle.bisync_cli.proofs.Runs.{of_run, folder_images_same, names_same, images_same, run_images_same, kept_images_same, safe_same, own_lock_same, ends_run}
use Rattle.bisync_cli.proofs.top.bisync_main.Goals as goal

pub returns-in-Err-OutOfMemory-clause-images : goal.returns-in-Err-OutOfMemory-clause-images
returns-in-Err-OutOfMemory-clause-images g c =
    images_same (task_in c.args.words.now) _ _ _ _ (g.W.Work.state c.args.work.now).folder (by_side (g.A.Remote.state c.args.one.now) (g.B.Remote.state c.args.two.now))

pub returns-clause-end : goal.returns-clause-end
returns-clause-end g c =
    ends_run _ _ c.in-Ok-Run.opts _ _ c.run-end.result c.in-Ok-Run.ensures.read.ok c.in-Ok-Run.field-0-is c.run-end.ensures.built c.run-end.ensures.causes.0

pub returns-clause-answers : goal.returns-clause-answers
returns-clause-answers g c = of_run _ _ _ _ c.in-Ok-Run.ensures.read.ok c.in-Ok-Run.field-0-is c.run-end.ensures.answers

pub returns-clause-accepted : goal.returns-clause-accepted
returns-clause-accepted g c = of_run _ _ _ _ c.in-Ok-Run.ensures.read.ok c.in-Ok-Run.field-0-is c.run-end.ensures.accepted

pub returns-clause-resynced : goal.returns-clause-resynced
returns-clause-resynced g c = of_run _ _ _ _ c.in-Ok-Run.ensures.read.ok c.in-Ok-Run.field-0-is c.run-end.ensures.resynced

pub returns-clause-set_aside : goal.returns-clause-set_aside
returns-clause-set_aside g c = of_run _ _ _ _ c.in-Ok-Run.ensures.read.ok c.in-Ok-Run.field-0-is c.run-end.ensures.set_aside

pub returns-clause-only : goal.returns-clause-only
returns-clause-only g c = of_run _ _ _ _ c.in-Ok-Run.ensures.read.ok c.in-Ok-Run.field-0-is c.run-end.ensures.only

pub returns-clause-numbers : goal.returns-clause-numbers
returns-clause-numbers g c = of_run _ _ _ _ c.in-Ok-Run.ensures.read.ok c.in-Ok-Run.field-0-is c.run-end.ensures.numbers

pub returns-clause-base : goal.returns-clause-base
returns-clause-base g c = of_run _ _ _ _ c.in-Ok-Run.ensures.read.ok c.in-Ok-Run.field-0-is c.run-end.ensures.base

pub returns-clause-images : goal.returns-clause-images
returns-clause-images g c = of_run _ _ _ _ c.in-Ok-Run.ensures.read.ok c.in-Ok-Run.field-0-is c.run-end.ensures.images

pub returns-clause-trees : goal.returns-clause-trees
returns-clause-trees g c = of_run _ _ _ _ c.in-Ok-Run.ensures.read.ok c.in-Ok-Run.field-0-is c.run-end.ensures.trees

pub returns-clause-kept : goal.returns-clause-kept
returns-clause-kept g c = of_run _ _ _ _ c.in-Ok-Run.ensures.read.ok c.in-Ok-Run.field-0-is c.run-end.ensures.kept

pub returns-clause-dry_one : goal.returns-clause-dry_one
returns-clause-dry_one g c = of_run _ _ _ _ c.in-Ok-Run.ensures.read.ok c.in-Ok-Run.field-0-is c.run-end.ensures.dry_one

pub returns-clause-dry_two : goal.returns-clause-dry_two
returns-clause-dry_two g c = of_run _ _ _ _ c.in-Ok-Run.ensures.read.ok c.in-Ok-Run.field-0-is c.run-end.ensures.dry_two

pub returns-clause-dry : goal.returns-clause-dry
returns-clause-dry g c = of_run _ _ _ _ c.in-Ok-Run.ensures.read.ok c.in-Ok-Run.field-0-is c.run-end.ensures.dry

pub returns-clause-lock : goal.returns-clause-lock
returns-clause-lock g c = of_run _ _ _ _ c.in-Ok-Run.ensures.read.ok c.in-Ok-Run.field-0-is c.run-end.ensures.lock

pub returns-clause-no_digest : goal.returns-clause-no_digest
returns-clause-no_digest g c = of_run _ _ _ _ c.in-Ok-Run.ensures.read.ok c.in-Ok-Run.field-0-is c.run-end.ensures.no_digest

pub returns-clause-entered : goal.returns-clause-entered
returns-clause-entered g c = of_run _ _ _ _ c.in-Ok-Run.ensures.read.ok c.in-Ok-Run.field-0-is c.run-end.ensures.entered

pub returns-clause-only_quiet : goal.returns-clause-only_quiet
returns-clause-only_quiet g c = of_run _ _ _ _ c.in-Ok-Run.ensures.read.ok c.in-Ok-Run.field-0-is c.run-end.ensures.only_quiet

pub returns-clause-entry : goal.returns-clause-entry
returns-clause-entry g c = of_run _ _ _ _ c.in-Ok-Run.ensures.read.ok c.in-Ok-Run.field-0-is c.run-end.ensures.entry

pub returns-clause-causes : goal.returns-clause-causes
returns-clause-causes g c = of_run _ _ _ _ c.in-Ok-Run.ensures.read.ok c.in-Ok-Run.field-0-is c.run-end.ensures.causes

pub returns-clause-report : goal.returns-clause-report
returns-clause-report g c = of_run _ _ _ _ c.in-Ok-Run.ensures.read.ok c.in-Ok-Run.field-0-is c.run-end.ensures.report

-- # An ordinary run

pub returns-in-Err-OutOfMemory-clause-run_images : goal.returns-in-Err-OutOfMemory-clause-run_images
returns-in-Err-OutOfMemory-clause-run_images g c =
    run_images_same (task_in c.args.words.now) _ _ _ _ (g.W.Work.state c.args.work.now).folder (by_side (g.A.Remote.state c.args.one.now) (g.B.Remote.state c.args.two.now))

pub returns-in-Err-OutOfMemory-clause-resilient_images : goal.returns-in-Err-OutOfMemory-clause-resilient_images
returns-in-Err-OutOfMemory-clause-resilient_images g c =
    kept_images_same (task_in c.args.words.now) _ _ _ _ (g.W.Work.state c.args.work.now).folder (by_side (g.A.Remote.state c.args.one.now) (g.B.Remote.state c.args.two.now))

pub returns-in-Err-OutOfMemory-clause-safe : goal.returns-in-Err-OutOfMemory-clause-safe
returns-in-Err-OutOfMemory-clause-safe g c =
    let small : REAL.listing < 2 ^ 64 = omega arith in
    safe_same (task_in c.args.words.now) _ _ _ REAL small (g.W.Work.state c.args.work.now).folder (by_side (g.A.Remote.state c.args.one.now) (g.B.Remote.state c.args.two.now))

pub returns-clause-run_answers : goal.returns-clause-run_answers
returns-clause-run_answers g c = of_run _ _ _ _ c.in-Ok-Run.ensures.read.ok c.in-Ok-Run.field-0-is c.run-end.ensures.run_answers

pub returns-clause-unrefused : goal.returns-clause-unrefused
returns-clause-unrefused g c = of_run _ _ _ _ c.in-Ok-Run.ensures.read.ok c.in-Ok-Run.field-0-is c.run-end.ensures.unrefused

pub returns-clause-done : goal.returns-clause-done
returns-clause-done g c = of_run _ _ _ _ c.in-Ok-Run.ensures.read.ok c.in-Ok-Run.field-0-is c.run-end.ensures.done

pub returns-clause-run_numbers : goal.returns-clause-run_numbers
returns-clause-run_numbers g c = of_run _ _ _ _ c.in-Ok-Run.ensures.read.ok c.in-Ok-Run.field-0-is c.run-end.ensures.run_numbers

pub returns-clause-run_base : goal.returns-clause-run_base
returns-clause-run_base g c = of_run _ _ _ _ c.in-Ok-Run.ensures.read.ok c.in-Ok-Run.field-0-is c.run-end.ensures.run_base

pub returns-clause-resilient_base : goal.returns-clause-resilient_base
returns-clause-resilient_base g c = of_run _ _ _ _ c.in-Ok-Run.ensures.read.ok c.in-Ok-Run.field-0-is c.run-end.ensures.resilient_base

pub returns-clause-run_trees : goal.returns-clause-run_trees
returns-clause-run_trees g c = of_run _ _ _ _ c.in-Ok-Run.ensures.read.ok c.in-Ok-Run.field-0-is c.run-end.ensures.run_trees

pub returns-clause-run_rest : goal.returns-clause-run_rest
returns-clause-run_rest g c = of_run _ _ _ _ c.in-Ok-Run.ensures.read.ok c.in-Ok-Run.field-0-is c.run-end.ensures.run_rest

pub returns-clause-only_run : goal.returns-clause-only_run
returns-clause-only_run g c = of_run _ _ _ _ c.in-Ok-Run.ensures.read.ok c.in-Ok-Run.field-0-is c.run-end.ensures.only_run

pub returns-clause-run_images : goal.returns-clause-run_images
returns-clause-run_images g c = of_run _ _ _ _ c.in-Ok-Run.ensures.read.ok c.in-Ok-Run.field-0-is c.run-end.ensures.run_images

pub returns-clause-resilient_images : goal.returns-clause-resilient_images
returns-clause-resilient_images g c = of_run _ _ _ _ c.in-Ok-Run.ensures.read.ok c.in-Ok-Run.field-0-is c.run-end.ensures.resilient_images

pub returns-clause-safe : goal.returns-clause-safe
returns-clause-safe g c = of_run _ _ _ _ c.in-Ok-Run.ensures.read.ok c.in-Ok-Run.field-0-is c.run-end.ensures.safe

pub returns-clause-run_report : goal.returns-clause-run_report
returns-clause-run_report g c = of_run _ _ _ _ c.in-Ok-Run.ensures.read.ok c.in-Ok-Run.field-0-is c.run-end.ensures.run_report

pub returns-clause-only_one : goal.returns-clause-only_one
returns-clause-only_one g c = of_run _ _ _ _ c.in-Ok-Run.ensures.read.ok c.in-Ok-Run.field-0-is c.run-end.ensures.only_one

pub returns-clause-only_two : goal.returns-clause-only_two
returns-clause-only_two g c = of_run _ _ _ _ c.in-Ok-Run.ensures.read.ok c.in-Ok-Run.field-0-is c.run-end.ensures.only_two

pub returns-clause-only_base : goal.returns-clause-only_base
returns-clause-only_base g c = of_run _ _ _ _ c.in-Ok-Run.ensures.read.ok c.in-Ok-Run.field-0-is c.run-end.ensures.only_base

pub returns-clause-fell : goal.returns-clause-fell
returns-clause-fell g c = of_run _ _ _ _ c.in-Ok-Run.ensures.read.ok c.in-Ok-Run.field-0-is c.run-end.ensures.fell

pub returns-clause-begins : goal.returns-clause-begins
returns-clause-begins g c = of_run _ _ _ _ c.in-Ok-Run.ensures.read.ok c.in-Ok-Run.field-0-is c.run-end.ensures.begins

pub returns-clause-begun : goal.returns-clause-begun
returns-clause-begun g c = of_run _ _ _ _ c.in-Ok-Run.ensures.read.ok c.in-Ok-Run.field-0-is c.run-end.ensures.begun

pub returns-clause-in_sync : goal.returns-clause-in_sync
returns-clause-in_sync g c = of_run _ _ _ _ c.in-Ok-Run.ensures.read.ok c.in-Ok-Run.field-0-is c.run-end.ensures.in_sync

pub returns-clause-was_apart : goal.returns-clause-was_apart
returns-clause-was_apart g c = of_run _ _ _ _ c.in-Ok-Run.ensures.read.ok c.in-Ok-Run.field-0-is c.run-end.ensures.was_apart

pub returns-clause-resync_in_sync : goal.returns-clause-resync_in_sync
returns-clause-resync_in_sync g c = of_run _ _ _ _ c.in-Ok-Run.ensures.read.ok c.in-Ok-Run.field-0-is c.run-end.ensures.resync_in_sync

-- # What the work folder alone tells of the base

pub returns-in-Err-OutOfMemory-clause-folder_images : goal.returns-in-Err-OutOfMemory-clause-folder_images
returns-in-Err-OutOfMemory-clause-folder_images g c =
    folder_images_same (task_in c.args.words.now) _ _ (g.W.Work.state c.args.work.now).folder (by_side (g.A.Remote.state c.args.one.now) (g.B.Remote.state c.args.two.now)) _

pub returns-clause-folder_base : goal.returns-clause-folder_base
returns-clause-folder_base g c = of_run _ _ _ _ c.in-Ok-Run.ensures.read.ok c.in-Ok-Run.field-0-is c.run-end.ensures.folder_base

pub returns-clause-folder_images : goal.returns-clause-folder_images
returns-clause-folder_images g c = of_run _ _ _ _ c.in-Ok-Run.ensures.read.ok c.in-Ok-Run.field-0-is c.run-end.ensures.folder_images

pub returns-clause-folder_next : goal.returns-clause-folder_next
returns-clause-folder_next g c = of_run _ _ _ _ c.in-Ok-Run.ensures.read.ok c.in-Ok-Run.field-0-is c.run-end.ensures.folder_next

-- # A lock that blocks is left alone

pub returns-in-Ok-NotBuilt-clause-blocked : goal.returns-in-Ok-NotBuilt-clause-blocked
returns-in-Ok-NotBuilt-clause-blocked g c work = blocked_same (g.W.Work.state c.args.work.now).folder _ g.C.Clock.tells (g.C.Clock.moment c.args.clock.now) refl

pub returns-in-Err-Usage-clause-blocked : goal.returns-in-Err-Usage-clause-blocked
returns-in-Err-Usage-clause-blocked g c work = blocked_same (g.W.Work.state c.args.work.now).folder _ g.C.Clock.tells (g.C.Clock.moment c.args.clock.now) refl

pub returns-in-Err-OutOfMemory-clause-blocked : goal.returns-in-Err-OutOfMemory-clause-blocked
returns-in-Err-OutOfMemory-clause-blocked g c work = blocked_same (g.W.Work.state c.args.work.now).folder _ g.C.Clock.tells (g.C.Clock.moment c.args.clock.now) refl

pub returns-clause-own_lock : goal.returns-clause-own_lock
returns-clause-own_lock g c = of_run _ _ _ _ c.in-Ok-Run.ensures.read.ok c.in-Ok-Run.field-0-is c.run-end.ensures.own_lock

pub returns-clause-digest_late : goal.returns-clause-digest_late
returns-clause-digest_late g c = of_run _ _ _ _ c.in-Ok-Run.ensures.read.ok c.in-Ok-Run.field-0-is c.run-end.ensures.digest_late

pub returns-in-Err-OutOfMemory-clause-names : goal.returns-in-Err-OutOfMemory-clause-names
returns-in-Err-OutOfMemory-clause-names g c = names_same (task_in c.args.words.now) _ REAL (g.W.Work.state c.args.work.now).folder (by_side (g.A.Remote.state c.args.one.now) (g.B.Remote.state c.args.two.now))

pub returns-clause-stands : goal.returns-clause-stands
returns-clause-stands g c = of_run _ _ _ _ c.in-Ok-Run.ensures.read.ok c.in-Ok-Run.field-0-is c.run-end.ensures.stands

pub returns-clause-names : goal.returns-clause-names
returns-clause-names g c = of_run _ _ _ _ c.in-Ok-Run.ensures.read.ok c.in-Ok-Run.field-0-is c.run-end.ensures.names

pub returns-clause-set_back : goal.returns-clause-set_back
returns-clause-set_back g c = of_run _ _ _ _ c.in-Ok-Run.ensures.read.ok c.in-Ok-Run.field-0-is c.run-end.ensures.set_back

pub returns-clause-mixed : goal.returns-clause-mixed
returns-clause-mixed g c = of_run _ _ _ _ c.in-Ok-Run.ensures.read.ok c.in-Ok-Run.field-0-is c.run-end.ensures.mixed

pub returns-clause-outcome : goal.returns-clause-outcome
returns-clause-outcome g c = of_run _ _ _ _ c.in-Ok-Run.ensures.read.ok c.in-Ok-Run.field-0-is c.run-end.ensures.outcome

pub returns-clause-resync_fell : goal.returns-clause-resync_fell
returns-clause-resync_fell g c = of_run _ _ _ _ c.in-Ok-Run.ensures.read.ok c.in-Ok-Run.field-0-is c.run-end.ensures.resync_fell

pub returns-in-Err-OutOfMemory-clause-own_lock : goal.returns-in-Err-OutOfMemory-clause-own_lock
returns-in-Err-OutOfMemory-clause-own_lock g c = own_lock_same (task_in c.args.words.now) _ _ _ _ (g.W.Work.state c.args.work.now).folder _ (keeps_tree_same _ (g.A.Remote.state c.args.one.now), keeps_tree_same _ (g.B.Remote.state c.args.two.now)) c.told-in-Err-OutOfMemory.ensures.end
