-- What a step leaves in the two trees of a run.
use Rattle.std.proofs.Common.{◌≡◌, ◌+◌, Bool, IsTrue, List, ℕ, Option, Some, None, Result, Ok, Err, inl, inr, refl, sym, ap, ◌∙◌, subst, ◌≢◌, ◌++◌, [], ◌∷◌, add-zero, add_assoc, sum_by}
use Rattle.std.proofs.Common.{arith}
use Rattle.std.proofs.lemmas.Grind.{common_steps}
use Rattle.std.specs.Option.{option_map_or}
use Rattle.bisync_tree.specs.Rows.{PathBytes}
use Rattle.bisync_tree.specs.Tree.{Tree, file_at, put, without, brought}
use Rattle.bisync_tree.specs.declared.sides.Side.{Side}
use Rattle.bisync_tree.specs.declared.sides.Side.TheVariants.{One, Two}
use Rattle.bisync_tree.specs.declared.windows.Window.{Window}
use Rattle.bisync_tree.specs.declared.entries.Entry.{Entry}
use Rattle.bisync_tree.specs.declared.files.File.{File}
use Rattle.bisync_tree.specs.declared.steps.Step.{Step}
use Rattle.bisync_tree.specs.declared.steps.Step.TheVariants.{Copy, Rename, Delete}
use Rattle.bisync_device.specs.Remote.{RemoteState}
use Rattle.bisync_model.specs.Trees.{Trees, SameTrees, trees_of, put_at, by_side}
use Rattle.bisync_model.specs.Effects.{effect, with_copy, with_rename, after as after_steps}
use Rattle.bisync_model.specs.Changes.{changes_of}
use Rattle.bisync_model.proofs.TreesOfDevices.{same_is_equal, put_one, put_two, without_one, without_two}
use Rattle.bisync_transfer.specs.StepEffect.{Performs, IsDone, IsUndone}
use Rattle.bisync_transfer.specs.StepTrees.{trees_in, windows_in, HasEffect, HasNoEffect, Leaves, AreDone, KeepsWindows, GoesOn}
use Rattle.bisync_transfer.specs.declared.steps.StepFault.{StepFault}
use Rattle.bisync_transfer.specs.declared.steps.StepFault.TheVariants.{RemoteFault, Moved}

same_along : (first second third fourth : Trees) → first ≡ second → SameTrees second third → third ≡ fourth → SameTrees first fourth
same_along first second third fourth e same f side p = ap (λ (t : Trees). t side p) e ∙ same side p ∙ ap (λ (t : Trees). t side p) f

trees_by : (state : Side → RemoteState) (one two : Tree) → (state One).tree ≡ one → (state Two).tree ≡ two → trees_in state ≡ trees_of one two
trees_by state one two e f = ap (λ t. trees_of t (state Two).tree) e ∙ ap (λ t. trees_of one t) f

-- the file that a copy brings
brought_bytes : (w : Window) (file : File) (bytes : List ℕ) (listed : Entry) → file.bytes ≡ bytes
    → Some (brought w (record { bytes = bytes; time = listed.time })) ≡ Some (brought w (record { bytes = file.bytes; time = listed.time }))
brought_bytes w file bytes listed e = ap (λ b. Some (brought w (record { bytes = b; time = listed.time }))) (sym e)

rename_one : (one two : Tree) (from to : PathBytes) (file : Option File)
    → SameTrees (trees_of (option_map_or (λ f. put (without one from) to f) file one) two) (with_rename One from to (trees_of one two) file)
rename_one one two from to None = λ side p. refl
rename_one one two from to (Some file) =
    same_along _ _ _ _ refl (put_one (without one from) two to file)
    (ap (λ t. put_at t One to (Some file)) (same_is_equal _ _ (without_one one two from)))

rename_two : (one two : Tree) (from to : PathBytes) (file : Option File)
    → SameTrees (trees_of one (option_map_or (λ f. put (without two from) to f) file two)) (with_rename Two from to (trees_of one two) file)
rename_two one two from to None = λ side p. refl
rename_two one two from to (Some file) =
    same_along _ _ _ _ refl (put_two one (without two from) to file)
    (ap (λ t. put_at t Two to (Some file)) (same_is_equal _ _ (without_two one two from)))

module _ (tells : Side → Bool) (before after : Side → RemoteState) (one : IsTrue (tells One)) (two : IsTrue (tells Two)) where
  done_trees : (step : Step) → IsDone tells step before after → SameTrees (trees_in after) (effect (windows_in before) step (trees_in before))
  done_trees (Copy One p listed) d =
      let file = d.change.source one in
      same_along _ _ _ _ (trees_by after _ _ (d.kept one).tree (d.change.change two).tree) (put_two (before One).tree (before Two).tree p _)
      (ap (λ f. put_at (trees_in before) Two p f) (brought_bytes (before Two).window file.0 d.change.bytes listed file.2)
      ∙ ap (λ f. with_copy (windows_in before) One p listed (trees_in before) f) (sym file.1))
  done_trees (Copy Two p listed) d =
      let file = d.change.source two in
      same_along _ _ _ _ (trees_by after _ _ (d.change.change one).tree (d.kept two).tree) (put_one (before One).tree (before Two).tree p _)
      (ap (λ f. put_at (trees_in before) One p f) (brought_bytes (before One).window file.0 d.change.bytes listed file.2)
      ∙ ap (λ f. with_copy (windows_in before) Two p listed (trees_in before) f) (sym file.1))
  done_trees (Rename One from to listed) d =
      same_along _ _ _ _ (trees_by after _ _ (d.change one).tree (d.kept two).tree) (rename_one (before One).tree (before Two).tree from to (file_at (before One).tree from)) refl
  done_trees (Rename Two from to listed) d =
      same_along _ _ _ _ (trees_by after _ _ (d.kept one).tree (d.change two).tree) (rename_two (before One).tree (before Two).tree from to (file_at (before Two).tree from)) refl
  done_trees (Delete One p listed) d =
      same_along _ _ _ _ (trees_by after _ _ (d.change one).tree (d.kept two).tree) (without_one (before One).tree (before Two).tree p) refl
  done_trees (Delete Two p listed) d =
      same_along _ _ _ _ (trees_by after _ _ (d.kept one).tree (d.change two).tree) (without_two (before One).tree (before Two).tree p) refl

  as_before : (side : Side) → (after side).changes ≡ (before side).changes → (after side).changes ≡ (before side).changes + 0
  as_before side e = e ∙ sym (add-zero (before side).changes)

  done_changes : (step : Step) → IsDone tells step before after → (side : Side) → (after side).changes ≡ (before side).changes + changes_of side step
  done_changes (Copy One p listed) d One = as_before One (d.kept one).changes
  done_changes (Copy One p listed) d Two = (d.change.change two).changes
  done_changes (Copy Two p listed) d One = (d.change.change one).changes
  done_changes (Copy Two p listed) d Two = as_before Two (d.kept two).changes
  done_changes (Rename One from to listed) d One = (d.change one).changes
  done_changes (Rename One from to listed) d Two = as_before Two (d.kept two).changes
  done_changes (Rename Two from to listed) d One = as_before One (d.kept one).changes
  done_changes (Rename Two from to listed) d Two = (d.change two).changes
  done_changes (Delete One p listed) d One = (d.change one).changes
  done_changes (Delete One p listed) d Two = as_before Two (d.kept two).changes
  done_changes (Delete Two p listed) d One = as_before One (d.kept one).changes
  done_changes (Delete Two p listed) d Two = (d.change two).changes

  done : (step : Step) → IsDone tells step before after → HasEffect step before after
  done step d = record { trees = done_trees step d; changes = done_changes step d }

  undone_changes : IsUndone tells before after → (side : Side) → (after side).changes ≡ (before side).changes
  undone_changes u One = (u One one).changes
  undone_changes u Two = (u Two two).changes

  undone : IsUndone tells before after → HasNoEffect before after
  undone u = record {
    trees = λ side p. ap (λ (t : Trees). t side p) (trees_by after _ _ (u One one).tree (u Two two).tree);
    changes = undone_changes u;
  }

  pub leaves : (step : Step) (answer : Result (Unit {0}) StepFault) → Performs tells step before after answer → Leaves step before after answer
  leaves step (Ok ok) d = done step d
  leaves step (Err (RemoteFault side)) d = elim d [ inl u ↦ inl (undone u) | inr f ↦ inr (f.0, subst (λ s. (before s).left ≢ Some 0) (sym f.0) f.1.changed_unstopped, done step f.1) ]
  leaves step (Err (Moved side listed read)) u = undone u

windows_are : (start now : Side → RemoteState) → ((side : Side) → (now side).window ≡ (start side).window) → windows_in now ≡ windows_in start
windows_are start now same = ap (λ w. by_side w (now Two).window) (same One) ∙ ap (λ w. by_side (start One).window w) (same Two)

after_more : (window : Side → Window) (steps : List Step) (step : Step) (trees : Trees)
    → after_steps window (steps ++ step ∷ []) trees ≡ effect window step (after_steps window steps trees)
after_more window [] step trees = refl
after_more window (first ∷ rest) step trees = after_more window rest step (effect window first trees)

sum_more : (f : Step → ℕ) (steps : List Step) (step : Step) → sum_by f (steps ++ step ∷ []) ≡ sum_by f steps + f step
sum_more f steps step = grind (arith, common_steps)

pub none_done : (start : Side → RemoteState) → AreDone [] start start
none_done start = record { windows = λ side. refl; trees = λ side p. refl; changes = λ side. sym (add-zero (start side).changes) }

module _ (steps : List Step) (step : Step) (start before after : Side → RemoteState) (so_far : AreDone steps start before) (windows : KeepsWindows before after) where
  -- one step more, or none
  more_done : HasEffect step before after → AreDone (steps ++ step ∷ []) start after
  more_done e = record {
    windows = λ side. windows side ∙ so_far.windows side;
    trees = same_along _ _ _ _ refl e.trees
        (ap (λ w. effect w step (trees_in before)) (windows_are start before so_far.windows)
        ∙ ap (λ t. effect (windows_in start) step t) (same_is_equal _ _ so_far.trees)
        ∙ sym (after_more (windows_in start) steps step (trees_in start)));
    changes = λ side. e.changes side ∙ ap (λ n. n + changes_of side step) (so_far.changes side)
        ∙ add_assoc (start side).changes (sum_by (changes_of side) steps) (changes_of side step)
        ∙ ap (λ n. (start side).changes + n) (sym (sum_more (changes_of side) steps step));
  }

  same_done : HasNoEffect before after → AreDone steps start after
  same_done e = record {
    windows = λ side. windows side ∙ so_far.windows side;
    trees = λ side p. e.trees side p ∙ so_far.trees side p;
    changes = λ side. e.changes side ∙ so_far.changes side;
  }

  pub goes_on : (answer : Result (Unit {0}) StepFault) → Leaves step before after answer → GoesOn steps step start after answer
  goes_on (Ok ok) e = more_done e
  goes_on (Err (RemoteFault side)) e = elim e [ inl u ↦ inl (same_done u) | inr f ↦ inr (more_done f.2) ]
  goes_on (Err (Moved side listed read)) e = same_done e
