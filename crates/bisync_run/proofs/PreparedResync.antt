-- The plan of what was seen is that of the sides, and so is why there is none.
use Rattle.std.proofs.Common.{◌≡◌, ◌≤◌, ◌<◌, ◌-◌, ◌^◌, ℕ, Bool, IsTrue, List, [], length, min, refl, sym, ◌∙◌, ap, subst, arith}
use Rattle.bisync_tree.specs.Rows.{PathBytes, Rows, listing_of}
use Rattle.bisync_tree.specs.Tree.{Tree}
use Rattle.bisync_tree.specs.Walk.{listings, paths_of}
use Rattle.bisync_tree.specs.declared.sides.Side.{Side}
use Rattle.bisync_tree.specs.declared.sides.Side.TheVariants.{One, Two}
use Rattle.bisync_tree.specs.declared.windows.Window.{Window}
use Rattle.bisync_tree.specs.declared.entries.Compare.{Compare}
use Rattle.bisync_tree.specs.declared.options.Limits.{Limits}
use Rattle.bisync_tree.specs.declared.options.Prefer.{Prefer}
use Rattle.bisync_model.specs.Entries.{Entries}
use Rattle.bisync_model.specs.Known.{Known}
use Rattle.bisync_model.specs.Views.{resync_known_of}
use Rattle.bisync_listing.specs.Spelling.{listing_text}
use Rattle.bisync_listing.specs.declared.headers.Header.{Header}
use Rattle.bisync_device.specs.WorkFolder.{WorkFolder}
use Rattle.bisync_observe.specs.Counting.{IsWithin, name_bytes}
use Rattle.bisync_observe.specs.Observing.{ArePassingNames, AreWithin, IsSeenOf}
use Rattle.bisync_plan.specs.Conditions.{HasPassing}
use Rattle.bisync_plan.specs.Plans.{AreRowsOf, IsResyncOf, header_of}
use Rattle.bisync_plan.specs.Faults.{most, Fits, IsResyncFault}
use Rattle.bisync_plan.specs.declared.plans.Plan.{Plan}
use Rattle.bisync_plan.specs.declared.faults.PlanFault.{PlanFault}
use Rattle.bisync_plan.specs.declared.faults.PlanFault.TheVariants as unplanned
use Rattle.bisync_work.specs.Stamps.{IsNewStamp}
use Rattle.bisync_report.specs.declared.ends.End.{End}
use Rattle.bisync_run.specs.Sides.{Sides, IsListable, resync_known, resync_paths, listed1, listed2}
use Rattle.bisync_run.specs.Looking.{unplanned_end}
use Rattle.bisync_run.specs.Grounds.{HasGrounds}
use Rattle.bisync_run.specs.ResyncEnds.{IsUnplannedEnd}
use Rattle.bisync_run.specs.ResyncRefusals.{HasNoResyncRefusal, AnswersResync}

-- names that are those of a tree and within the limits
pub listable : (tells : Bool) (compare : Compare) (passes : PathBytes → Bool) (limits : Limits) (tree : Tree) (names : List PathBytes) (rows : Rows)
    → AreWithin limits names → (IsTrue tells → IsSeenOf compare passes tree names rows) → IsTrue tells → IsListable limits tree
listable tells compare passes limits tree names rows within seen t = subst (λ (n : List PathBytes). IsWithin limits (length n) (name_bytes n)) (seen t).names within

pub has_passing : (passes : PathBytes → Bool) (names : List PathBytes) (rows : Rows) → ArePassingNames passes names rows → HasPassing passes rows
has_passing passes names rows h = record { passing = λ p e at. (h p e at).0 }

module _ (mode : Prefer) (s : Sides) (compare : Compare) (window1 window2 : Window) (now1 now2 : Rows)
    (compare_is : compare ≡ s.compare) (window1_is : window1 ≡ s.window1) (window2_is : window2 ≡ s.window2)
    (now1_is : now1 ≡ listing_of compare s.passes s.one) (now2_is : now2 ≡ listing_of compare s.passes s.two) where
  listed1_is : now1 ≡ listed1 s
  listed1_is = now1_is ∙ ap (λ (c : Compare). listing_of c s.passes s.one) compare_is

  listed2_is : now2 ≡ listed2 s
  listed2_is = now2_is ∙ ap (λ (c : Compare). listing_of c s.passes s.two) compare_is

  known_is : resync_known_of mode compare s.passes window1 window2 now1 now2 ≡ resync_known mode s
  known_is = λ i. resync_known_of mode (compare_is i) s.passes (window1_is i) (window2_is i) (listed1_is i) (listed2_is i)

  paths_is : paths_of (listings [] [] now1 now2) ≡ resync_paths s
  paths_is = λ i. paths_of (listings [] [] (listed1_is i) (listed2_is i))

  pub plan_of_sides : (made : Plan) → IsResyncOf (resync_known_of mode compare s.passes window1 window2 now1 now2) (paths_of (listings [] [] now1 now2)) made
      → IsResyncOf (resync_known mode s) (resync_paths s) made
  plan_of_sides made h = subst (λ (x : Known × List PathBytes). IsResyncOf x.0 x.1 made) (λ i. (known_is i, paths_is i)) h

  pub fault_of_sides : (stamp limit : ℕ) (fault : PlanFault) → IsResyncFault (resync_known_of mode compare s.passes window1 window2 now1 now2) (header_of stamp compare) limit fault
      → IsResyncFault (resync_known mode s) (header_of stamp s.compare) limit fault
  fault_of_sides stamp limit fault h = subst (λ (x : Known × Compare). IsResyncFault x.0 (header_of stamp x.1) limit fault) (λ i. (known_is i, compare_is i)) h

-- # Refusals

pub fits : (entries : Entries) (header : Header) (limit : ℕ) (side : Side) (rows : Rows) → AreRowsOf entries side rows → length (listing_text header rows) ≤ most limit → Fits entries header limit side
fits entries header limit side rows are within = record { size = _; text = record { rows = rows; are = are; size_is = refl }; within = within }

module _ (mode : Prefer) (limits : Limits) (f : WorkFolder) (s : Sides) (stamp : ℕ) (one : IsListable limits s.one) (two : IsListable limits s.two) (new : IsNewStamp limits.listing f stamp) where
  pub not_refused : (compare : Compare) (paths : List PathBytes) (made : Plan) → compare ≡ s.compare → IsResyncOf (resync_known mode s) paths made
      → length (listing_text (header_of stamp compare) made.final1) ≤ most limits.listing → length (listing_text (header_of stamp compare) made.final2) ≤ most limits.listing
      → HasNoResyncRefusal mode limits f s
  not_refused compare paths made is plan within1 within2 = record {
    one = one;
    two = two;
    stamp = stamp;
    new = new;
    fits1 = fits _ _ limits.listing One made.final1 plan.finals.one (subst (λ (c : Compare). length (listing_text (header_of stamp c) made.final1) ≤ most limits.listing) is within1);
    fits2 = fits _ _ limits.listing Two made.final2 plan.finals.two (subst (λ (c : Compare). length (listing_text (header_of stamp c) made.final2) ≤ most limits.listing) is within2);
  }

  pub no_plan_end : (fault : PlanFault) (end : End) → end ≡ unplanned_end fault → IsResyncFault (resync_known mode s) (header_of stamp s.compare) limits.listing fault → AnswersResync mode limits f s end
  no_plan_end fault end is why = subst (λ (e : End). AnswersResync mode limits f s e) (sym is) (go fault why)
    where
      go : (x : PlanFault) → IsResyncFault (resync_known mode s) (header_of stamp s.compare) limits.listing x → AnswersResync mode limits f s (unplanned_end x)
      go (unplanned.TooLong side path) h = absurd h
      go (unplanned.ListingTooLong side bytes) h = record { one = one; two = two; stamp = stamp; new = new; long = h }
      go (unplanned.OutOfSync path a b) h = absurd h
      go unplanned.OutOfMemory h = tt

over_most : (limit size number : ℕ) → most limit < size → number ≡ min size (2 ^ 64 - 1) → most limit < number
over_most limit size number over is = omega arith

pub no_plan_grounds : (known : Known) (header : Header) (limits : Limits) (tells : Side → Bool) (fault : PlanFault) (end : End) → end ≡ unplanned_end fault → IsResyncFault known header limits.listing fault → HasGrounds limits tells end
no_plan_grounds known header limits tells fault end is why = subst (λ (e : End). HasGrounds limits tells e) (sym is) (go fault why)
  where
    go : (x : PlanFault) → IsResyncFault known header limits.listing x → HasGrounds limits tells (unplanned_end x)
    go (unplanned.TooLong side path) h = absurd h
    go (unplanned.ListingTooLong side bytes) h = over_most limits.listing h.size bytes h.over h.number_is
    go (unplanned.OutOfSync path a b) h = absurd h
    go unplanned.OutOfMemory h = tt

pub no_plan_kind : (known : Known) (header : Header) (limit : ℕ) (fault : PlanFault) (end : End) → end ≡ unplanned_end fault → IsResyncFault known header limit fault → IsUnplannedEnd end
no_plan_kind known header limit fault end is why = subst IsUnplannedEnd (sym is) (go fault why)
  where
    go : (x : PlanFault) → IsResyncFault known header limit x → IsUnplannedEnd (unplanned_end x)
    go (unplanned.TooLong side path) h = absurd h
    go (unplanned.ListingTooLong side bytes) h = tt
    go (unplanned.OutOfSync path a b) h = absurd h
    go unplanned.OutOfMemory h = tt
