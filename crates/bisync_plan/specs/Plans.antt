-- The plan of a run: its steps, and what both listings are after it. This project's own.
use Rattle.std.specs.Prelude.{◌≡◌, ℕ, List, Some}
use Rattle.bisync_tree.specs.Rows.{PathBytes, Rows, keys, look, listing_of, AreRising}
use Rattle.bisync_tree.specs.Tree.{Tree}
use Rattle.bisync_tree.specs.declared.sides.Side.{Side}
use Rattle.bisync_tree.specs.declared.sides.Side.TheVariants.{One, Two}
use Rattle.bisync_tree.specs.declared.windows.Window.TheVariants.{Ns1}
use Rattle.bisync_tree.specs.declared.entries.Compare.{Compare}
use Rattle.bisync_tree.specs.declared.steps.Given.{Given}
use Rattle.bisync_model.specs.Trees.{by_side}
use Rattle.bisync_model.specs.Policy.{Policy}
use Rattle.bisync_model.specs.Entries.{Entries}
use Rattle.bisync_model.specs.Known.{Known}
use Rattle.bisync_model.specs.Names.{AreNames}
use Rattle.bisync_model.specs.Plan.{plan}
use Rattle.bisync_model.specs.Finals.{final_entry}
use Rattle.bisync_model.specs.Resync.{resync_plan, resync_entry}
use Rattle.bisync_listing.specs.declared.headers.Header.{Header}
use Rattle.bisync_listing.specs.Writing.{MayBeWritten}
use Rattle.bisync_plan.specs.declared.plans.Plan.{Plan}

-- the rows are in byte order, and say of each path what the entries of that side say
pub record AreRowsOf (entries : Entries) (side : Side) (rows : Rows) : Type 0 where
  pub rising : AreRising (keys rows)
  pub looks : (p : PathBytes) → look rows p ≡ entries side p

-- both final listings have these entries
pub record HasFinals (entries : Entries) (made : Plan) : Type 0 where
  pub one : AreRowsOf entries One made.final1
  pub two : AreRowsOf entries Two made.final2

-- the steps and the final listings of a run through these paths
pub record IsPlanOf (known : Known) (paths : List PathBytes) (made : Plan) : Type 0 where
  pub names : List Given
  pub are : AreNames known paths names
  pub steps : made.steps.items ≡ plan known names paths
  pub finals : HasFinals (final_entry known names) made

-- of a resync
pub record IsResyncOf (known : Known) (paths : List PathBytes) (made : Plan) : Type 0 where
  pub steps : made.steps.items ≡ resync_plan known paths
  pub finals : HasFinals (resync_entry known) made

-- what both final listings say
abbrev pub finals_of : Plan → Entries
finals_of made = by_side (look made.final1) (look made.final2)

-- the header of new listings: the stamp, and the compared fields with times to the nanosecond
abbrev pub header_of : ℕ → Compare → Header
header_of stamp compare = record {
  stamp = stamp;
  fields = Some (record { size = compare.size; time = compare.time; hash = compare.hash; window = Ns1 });
}

-- both final listings may be written with the header
pub record AreWritable (header : Header) (made : Plan) : Type 0 where
  pub one : MayBeWritten header made.final1
  pub two : MayBeWritten header made.final2

-- both final listings are those of these trees
pub record ListsTrees (policy : Policy) (one two : Tree) (made : Plan) : Type 0 where
  pub one_is : made.final1 ≡ listing_of policy.compare policy.passes one
  pub two_is : made.final2 ≡ listing_of policy.compare policy.passes two
