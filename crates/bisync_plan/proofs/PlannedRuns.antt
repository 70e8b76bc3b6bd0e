-- What is said of the final listings of a plan is said of the run's.
use Rattle.std.proofs.Common.{◌≡◌, ℕ, Bool, true, false, List, IsTrue, refl, sym, subst}
use Rattle.bisync_tree.specs.Ranges.{ComparesSome}
use Rattle.bisync_tree.specs.Rows.{PathBytes, Rows}
use Rattle.bisync_tree.specs.declared.sides.Side.{Side}
use Rattle.bisync_tree.specs.declared.sides.Side.TheVariants.{One, Two}
use Rattle.bisync_tree.specs.declared.windows.Window.{Window}
use Rattle.bisync_tree.specs.declared.entries.Compare.{Compare}
use Rattle.bisync_tree.specs.declared.options.ConflictRule.{ConflictRule}
use Rattle.bisync_tree.specs.declared.options.Prefer.{Prefer}
use Rattle.bisync_tree.specs.declared.views.View.{View}
use Rattle.bisync_model.specs.Entries.{Entries}
use Rattle.bisync_model.specs.Known.{Known}
use Rattle.bisync_model.specs.Finals.{final_entry}
use Rattle.bisync_model.specs.Resync.{resync_entry}
use Rattle.bisync_model.specs.Names.{AreNotNames}
use Rattle.bisync_model.specs.Views.{known_of, resync_known_of}
use Rattle.bisync_conflict.specs.declared.faults.NameFault.{NameFault}
use Rattle.bisync_conflict.specs.declared.faults.NameFault.TheVariants.{TooLong as NameTooLong, OutOfMemory as NoMemory}
use Rattle.bisync_listing.specs.declared.headers.Header.{Header}
use Rattle.bisync_plan.specs.Plans.{HasFinals, IsPlanOf, IsResyncOf, AreWritable, finals_of, header_of}
use Rattle.bisync_plan.specs.Conditions.{IsStamp, HasDigests, HasPassing}
use Rattle.bisync_plan.specs.Faults.{Fits, IsApart, IsFaultIn, IsFaultOf, IsResyncFault, of_names}
use Rattle.bisync_plan.specs.declared.plans.Plan.{Plan}
use Rattle.bisync_plan.specs.declared.faults.PlanFault.{PlanFault}
use Rattle.bisync_plan.specs.declared.faults.PlanFault.TheVariants.{TooLong, ListingTooLong, OutOfSync, OutOfMemory}
use Rattle.bisync_plan.proofs.FinalTexts.{listed_digested, finals_digested, resync_digested, writable}

pub finals_are : (entries : Entries) (made : Plan) → HasFinals entries made → finals_of made ≡ entries
finals_are entries made finals = λ i side p. go side p i
  where
    go : (side : Side) (p : PathBytes) → finals_of made side p ≡ entries side p
    go One p = finals.one.looks p
    go Two p = finals.two.looks p

pub own_finals : (entries : Entries) (made : Plan) → HasFinals entries made → HasFinals (finals_of made) made
own_finals entries made finals = subst (λ es. HasFinals es made) (sym (finals_are entries made finals)) finals

pub fault_of : (known : Known) (paths : List PathBytes) (header : Header) (limit : ℕ) (check : Bool) (made : Plan) → IsPlanOf known paths made
    → (fault : PlanFault) → IsFaultIn known.policy.compare (finals_of made) header limit check fault → IsFaultOf known paths header limit check fault
fault_of known paths header limit check made plan fault h = go fault (subst (λ es. IsFaultIn known.policy.compare es header limit check fault) (finals_are _ made plan.finals) h)
  where
    go : (fault : PlanFault) → IsFaultIn known.policy.compare (final_entry known plan.names) header limit check fault → IsFaultOf known paths header limit check fault
    go (TooLong side p) h = absurd h
    go (ListingTooLong side number) h = record { names = plan.names; are = plan.are; long = h }
    go (OutOfSync p one two) h = (h.0, record { names = plan.names; are = plan.are; apart = h.1 })
    go OutOfMemory h = tt

pub resync_fault : (known : Known) (paths : List PathBytes) (header : Header) (limit : ℕ) (made : Plan) → IsResyncOf known paths made
    → (fault : PlanFault) → IsFaultIn known.policy.compare (finals_of made) header limit false fault → IsResyncFault known header limit fault
resync_fault known paths header limit made plan fault h = go fault (subst (λ es. IsFaultIn known.policy.compare es header limit false fault) (finals_are _ made plan.finals) h)
  where
    go : (fault : PlanFault) → IsFaultIn known.policy.compare (resync_entry known) header limit false fault → IsResyncFault known header limit fault
    go (TooLong side p) h = absurd h
    go (ListingTooLong side number) h = h
    go (OutOfSync p one two) h = let wrong : false ≡ true = h.0 in cc
    go OutOfMemory h = tt

pub name_fault : (known : Known) (paths : List PathBytes) (header : Header) (limit : ℕ) (check : Bool) (fault : NameFault)
    → ((side : Side) (p : PathBytes) → fault ≡ NameTooLong side p → AreNotNames known paths side p) → IsFaultOf known paths header limit check (of_names fault)
name_fault known paths header limit check (NameTooLong side p) h = h side p refl
name_fault known paths header limit check NoMemory h = tt

pub run_writable : (conflict : ConflictRule) (compare : Compare) (passes : PathBytes → Bool) (window1 window2 : Window) (view : View) (paths : List PathBytes) (stamp : ℕ) (made : Plan)
    → IsPlanOf (known_of conflict compare passes window1 window2 view) paths made → IsStamp stamp → ComparesSome compare → HasDigests compare view.now1 → HasDigests compare view.now2
    → AreWritable (header_of stamp compare) made
run_writable conflict compare passes window1 window2 view paths stamp made plan range some one two =
    let digested = finals_digested (known_of conflict compare passes window1 window2 view) (listed_digested compare view.now1 view.now2 one two) plan.names in
    record {
      one = writable stamp compare _ One made.final1 range some digested plan.finals.one;
      two = writable stamp compare _ Two made.final2 range some digested plan.finals.two;
    }

pub resync_writable : (mode : Prefer) (compare : Compare) (passes : PathBytes → Bool) (window1 window2 : Window) (now1 now2 : Rows) (paths : List PathBytes) (stamp : ℕ) (made : Plan)
    → IsResyncOf (resync_known_of mode compare passes window1 window2 now1 now2) paths made → IsStamp stamp → ComparesSome compare → HasDigests compare now1 → HasDigests compare now2
    → AreWritable (header_of stamp compare) made
resync_writable mode compare passes window1 window2 now1 now2 paths stamp made plan range some one two =
    let digested = resync_digested (resync_known_of mode compare passes window1 window2 now1 now2) (listed_digested compare now1 now2 one two) in
    record {
      one = writable stamp compare _ One made.final1 range some digested plan.finals.one;
      two = writable stamp compare _ Two made.final2 range some digested plan.finals.two;
    }

-- the rules by which every path passes
pub all_pass : (rows : Rows) → HasPassing (λ p. true) rows
all_pass rows = record { passing = λ p e h. refl }

pub apart_fault : (compare : Compare) (entries : Entries) (header : Header) (limit : ℕ) (check : Bool) → IsTrue check → Fits entries header limit One → Fits entries header limit Two
    → (fault : PlanFault) → IsApart compare entries fault → IsFaultIn compare entries header limit check fault
apart_fault compare entries header limit check on one two (TooLong side p) h = h
apart_fault compare entries header limit check on one two (ListingTooLong side number) h = absurd h
apart_fault compare entries header limit check on one two (OutOfSync p a b) h = (on, record { fits1 = one; fits2 = two; apart = h })
apart_fault compare entries header limit check on one two OutOfMemory h = tt
