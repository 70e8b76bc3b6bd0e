-- What a run knows, made of its options and its view. This project's own.
use Rattle.std.specs.Prelude.{◌≡◌, Bool, true, false, [], Some, None, is_some, if◌then◌else◌}
use Rattle.bisync_tree.specs.Rows.{PathBytes, Rows, look, is_among, listing_of}
use Rattle.bisync_tree.specs.Tree.{Tree, file_at}
use Rattle.bisync_tree.specs.declared.windows.Window.{Window}
use Rattle.bisync_tree.specs.declared.entries.Entry.{Entry}
use Rattle.bisync_tree.specs.declared.entries.Compare.{Compare}
use Rattle.bisync_tree.specs.declared.options.ConflictRule.{ConflictRule}
use Rattle.bisync_tree.specs.declared.options.Prefer.{Prefer}
use Rattle.bisync_tree.specs.declared.options.Loser.TheVariants.{Num}
use Rattle.bisync_tree.specs.declared.views.View.{View}
use Rattle.bisync_model.specs.Trees.{by_side}
use Rattle.bisync_model.specs.Policy.{Policy}
use Rattle.bisync_model.specs.Known.{Known}

-- the filter rules, the compared fields, how conflicts are settled, and the windows of Path1 and Path2
abbrev pub policy_of : ConflictRule → Compare → (PathBytes → Bool) → Window → Window → Policy
policy_of conflict compare passes window1 window2 = record {
  passes = passes;
  compare = compare;
  prefer = conflict.prefer;
  loser = conflict.loser;
  suffix = by_side conflict.suffix1 conflict.suffix2;
  window = by_side window1 window2;
}

-- the policy with what the view has
abbrev pub known_of : ConflictRule → Compare → (PathBytes → Bool) → Window → Window → View → Known
known_of conflict compare passes window1 window2 view = record {
  policy = policy_of conflict compare passes window1 window2;
  base = by_side (look view.prior1) (look view.prior2);
  now = by_side (look view.now1) (look view.now2);
  is_there = by_side (λ p. is_among p view.names1) (λ p. is_among p view.names2);
}

-- of a resync: its mode and what is listed now; no conflict gets a name, and the base and the names play no part
abbrev pub resync_known_of : Prefer → Compare → (PathBytes → Bool) → Window → Window → Rows → Rows → Known
resync_known_of mode compare passes window1 window2 now1 now2 = record {
  policy = record { passes = passes; compare = compare; prefer = mode; loser = Num; suffix = λ side. []; window = by_side window1 window2 };
  base = λ side p. None;
  now = by_side (look now1) (look now2);
  is_there = λ side p. false;
}

-- the view shows these trees: what is listed now are their listings, and the names are the paths of their files
pub record IsViewOf (compare : Compare) (passes : PathBytes → Bool) (one two : Tree) (view : View) : Type 0 where
  pub now1 : view.now1 ≡ listing_of compare passes one
  pub now2 : view.now2 ≡ listing_of compare passes two
  pub names1 : (p : PathBytes) → is_among p view.names1 ≡ is_some (file_at one p)
  pub names2 : (p : PathBytes) → is_among p view.names2 ≡ is_some (file_at two p)

-- the base listings are the passing parts of the prior ones, and what is listed now passes
pub record IsNarrowed (passes : PathBytes → Bool) (view : View) : Type 0 where
  pub base1 : (p : PathBytes) → look view.base1 p ≡ (if passes p then look view.prior1 p else None)
  pub base2 : (p : PathBytes) → look view.base2 p ≡ (if passes p then look view.prior2 p else None)
  pub now1 : (p : PathBytes) (e : Entry) → look view.now1 p ≡ Some e → passes p ≡ true
  pub now2 : (p : PathBytes) (e : Entry) → look view.now2 p ≡ Some e → passes p ≡ true

-- the names of each side hold every path that is listed there now
pub record IsComplete (view : View) : Type 0 where
  pub names1 : (p : PathBytes) (e : Entry) → look view.now1 p ≡ Some e → is_among p view.names1 ≡ true
  pub names2 : (p : PathBytes) (e : Entry) → look view.now2 p ≡ Some e → is_among p view.names2 ≡ true
