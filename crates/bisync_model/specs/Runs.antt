-- A run as the laws see it: what is known, the trees at the start, the paths that it goes through, and the given names. This
-- project's own.
use Rattle.std.specs.Prelude.{◌≡◌, true, List, Some}
use Rattle.bisync_tree.specs.Rows.{PathBytes, is_among, AreRising}
use Rattle.bisync_tree.specs.declared.sides.Side.{Side}
use Rattle.bisync_tree.specs.declared.entries.Entry.{Entry}
use Rattle.bisync_tree.specs.declared.steps.Given.{Given}
use Rattle.bisync_model.specs.Trees.{Trees}
use Rattle.bisync_model.specs.Entries.{SameWherePassing, entries_of}
use Rattle.bisync_model.specs.Known.{Known, AreListed}
use Rattle.bisync_model.specs.Names.{AreNames}

-- the paths are in byte order, and each passing path that is listed now is among them
pub record ArePaths (known : Known) (paths : List PathBytes) : Type 0 where
  pub rising : AreRising paths
  pub covering : (side : Side) (p : PathBytes) (listed : Entry) → known.policy.passes p ≡ true → known.now side p ≡ Some listed → is_among p paths ≡ true

-- what is known is what the trees have, all listed paths are gone through, and the losers among them have these names
pub record IsRun (known : Known) (start : Trees) (paths : List PathBytes) (names : List Given) : Type 0 where
  pub listed : AreListed known start
  pub through : ArePaths known paths
  pub given : AreNames known paths names

-- the claim holds of every run
abbrev pub EachRun : (Known → Trees → List PathBytes → List Given → Type 0) → Type 0
EachRun Claim = (known : Known) (start : Trees) (paths : List PathBytes) (names : List Given) → IsRun known start paths names → Claim known start paths names

-- of a resync: it needs neither the base nor the names
pub record IsResync (known : Known) (start : Trees) (paths : List PathBytes) : Type 0 where
  pub listed : SameWherePassing known.policy known.now (entries_of known.policy.compare start)
  pub through : ArePaths known paths

-- the claim holds of every resync
abbrev pub EachResync : (Known → Trees → List PathBytes → Type 0) → Type 0
EachResync Claim = (known : Known) (start : Trees) (paths : List PathBytes) → IsResync known start paths → Claim known start paths
