-- Steps that are done on sides that were only looked at before.
use Rattle.std.proofs.Common.{◌≡◌, ◌+◌, ◌∙◌, ap, refl, sym, Bool, IsTrue, List, ℕ, take, sum_by}
use Rattle.bisync_tree.specs.Rows.{PathBytes}
use Rattle.bisync_tree.specs.Tree.{Tree, file_at}
use Rattle.bisync_tree.specs.declared.sides.Side.{Side}
use Rattle.bisync_tree.specs.declared.sides.Side.TheVariants.{One, Two}
use Rattle.bisync_tree.specs.declared.windows.Window.{Window}
use Rattle.bisync_tree.specs.declared.steps.Step.{Step}
use Rattle.bisync_model.specs.Trees.{Trees, by_side, trees_of}
use Rattle.bisync_model.specs.Effects.{after}
use Rattle.bisync_model.specs.Changes.{changes_of}
use Rattle.bisync_device.specs.Remote.{RemoteState, KeepsTree}
use Rattle.bisync_transfer.specs.StepTrees.{AreDone, trees_in, windows_in}
use Rattle.bisync_run.specs.Untouched.{Remotes, AreUntouched}
use Rattle.bisync_run.specs.Stepping.{IsPartDone, FindsAll}

pub untouched_same : (a : Remotes) → AreUntouched a a
untouched_same a side = record { tree = refl; changes = refl; folders = refl }

pub untouched_twice : {a b c : Remotes} → AreUntouched a b → AreUntouched b c → AreUntouched a c
untouched_twice first second side = record {
  tree = (second side).tree ∙ (first side).tree;
  changes = (second side).changes ∙ (first side).changes;
  folders = (second side).folders ∙ (first side).folders;
}

same_windows : (start mid : Remotes) → ((side : Side) → (mid side).window ≡ (start side).window) → windows_in mid ≡ windows_in start
same_windows start mid windows = ap (λ (w : Window). by_side w (mid Two).window) (windows One) ∙ ap (λ (w : Window). by_side (start One).window w) (windows Two)

module _ (start mid : Remotes) (looked : AreUntouched start mid) (windows : (side : Side) → (mid side).window ≡ (start side).window) where
  same_trees : trees_in mid ≡ trees_in start
  same_trees = ap (λ (t : Tree). trees_of t (mid Two).tree) (looked One).tree ∙ ap (λ (t : Tree). trees_of (start One).tree t) (looked Two).tree

  pub done_since : (steps : List Step) (now : Remotes) → AreDone steps mid now → AreDone steps start now
  done_since steps now d = record {
    windows = λ side. d.windows side ∙ windows side;
    trees = λ side p. d.trees side p
        ∙ ap (λ (w : Side → Window). after w steps (trees_in mid) side p) (same_windows start mid windows)
        ∙ ap (λ (t : Trees). after (windows_in start) steps t side p) same_trees;
    changes = λ side. d.changes side ∙ ap (λ (n : ℕ). n + sum_by (changes_of side) steps) (looked side).changes;
  }

  pub part_since : (steps : List Step) (now : Remotes) → IsPartDone steps mid now → IsPartDone steps start now
  part_since steps now p = record { count = p.count; within = p.within; done = done_since (take p.count steps) now p.done }

-- # Where one side alone may tell

-- the trees of a plan are those of the sides that tell
pub own_trees : (tells : Side → Bool) (a b : RemoteState) (one two : Tree) → (IsTrue (tells One) → one ≡ a.tree) → (IsTrue (tells Two) → two ≡ b.tree)
    → (side : Side) → IsTrue (tells side) → (p : PathBytes) → trees_of one two side p ≡ file_at (by_side a b side).tree p
own_trees tells a b one two own1 own2 One t p = ap (λ (tree : Tree). file_at tree p) (own1 t)
own_trees tells a b one two own1 own2 Two t p = ap (λ (tree : Tree). file_at tree p) (own2 t)

pub looked_told : (tells1 tells2 : Bool) (a b a2 b2 : RemoteState) → KeepsTree tells1 a a2 → KeepsTree tells2 b b2
    → (side : Side) → IsTrue (by_side tells1 tells2 side) → (by_side a2 b2 side).tree ≡ (by_side a b side).tree
looked_told tells1 tells2 a b a2 b2 one two One t = (one t).tree
looked_told tells1 tells2 a b a2 b2 one two Two t = (two t).tree

pub finds_past : (tells : Side → Bool) (start mid : Remotes) → ((side : Side) → IsTrue (tells side) → (mid side).tree ≡ (start side).tree)
    → ((side : Side) → (mid side).window ≡ (start side).window) → (steps : List Step) → FindsAll tells steps start → FindsAll tells steps mid
finds_past tells start mid looked windows steps x = record {
  policy = x.policy;
  trees = x.trees;
  windows = λ side. x.windows side ∙ sym (ap (λ (w : Side → Window). w side) (same_windows start mid windows));
  own = λ side t p. x.own side t p ∙ ap (λ (tree : Tree). file_at tree p) (sym (looked side t));
  finds = x.finds;
}
