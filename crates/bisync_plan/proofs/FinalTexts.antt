-- The final listings may be written: their entries have a digest exactly where digests are compared.
use Rattle.std.proofs.Common.{◌≡◌, ◌≢◌, ℕ, Bool, true, false, cond, List, [], ◌∷◌, Option, Some, None, refl, sym, ◌∙◌, ap, IsTrue}
use Rattle.std.specs.Prelude.{◌||◌, bytes_eq, is_some, option_map}
use Rattle.std.specs.List.{AllByRecursion}
use Rattle.bisync_tree.specs.Ranges.{ComparesSome}
use Rattle.bisync_tree.specs.Side.{is_side}
use Rattle.bisync_tree.specs.Rows.{PathBytes, Rows, keys, look, AreRising}
use Rattle.bisync_tree.specs.declared.sides.Side.{Side}
use Rattle.bisync_tree.specs.declared.sides.Side.TheVariants.{One, Two}
use Rattle.bisync_tree.specs.declared.windows.Window.{Window}
use Rattle.bisync_tree.specs.declared.entries.Entry.{Entry}
use Rattle.bisync_tree.specs.declared.entries.Compare.{Compare}
use Rattle.bisync_tree.specs.declared.classes.Rule.{Rule}
use Rattle.bisync_tree.specs.declared.classes.Rule.TheVariants.{Nothing, Copy as CopyFrom, Delete as DeleteOn, Conflict}
use Rattle.bisync_tree.specs.declared.steps.Given.{Given}
use Rattle.bisync_tree.proofs.LookLemmas.{look_absent}
use Rattle.bisync_tree.proofs.PathOrder.{same_path, path_is_itself}
use Rattle.bisync_model.specs.Trees.{by_side}
use Rattle.bisync_model.specs.Entries.{Entries}
use Rattle.bisync_model.specs.Known.{Known}
use Rattle.bisync_model.specs.Table.{rule_at}
use Rattle.bisync_model.specs.Conflict.{winner_at}
use Rattle.bisync_model.specs.Names.{loser_named}
use Rattle.bisync_model.specs.Finals.{brought_entry, carried_entry, settled_entry, entry_by_rule, entry_by_name, final_entry}
use Rattle.bisync_model.specs.Resync.{source_at, entry_from, resync_entry}
use Rattle.bisync_listing.specs.Spelling.{field_names}
use Rattle.bisync_listing.specs.Writing.{MayBeWritten}
use Rattle.bisync_plan.specs.Conditions.{IsStamp, HasDigests}
use Rattle.bisync_plan.specs.Plans.{AreRowsOf, header_of}

not_both : {x : Entry} {v : Option Entry} → v ≡ Some x → v ≡ None → ⊥
not_both e f = let h = sym e ∙ f in cc

-- what holds of each entry that is looked up holds of each row
each_row : (Claim : Entry → Type 0) (rows : Rows) → AreRising (keys rows) → ((p : PathBytes) (e : Entry) → look rows p ≡ Some e → Claim e) → AllByRecursion (λ row. Claim row.1) rows
each_row Claim [] rising looks = tt
each_row Claim (r ∷ rs) rising looks = (first, each_row Claim rs rising.1 (λ p e h. looks p e (later p e h)))
  where
    first : Claim r.1
    first = looks r.0 r.1 (ap (λ b. cond b (Some r.1) (look rs r.0)) (path_is_itself r.0))

    later : (p : PathBytes) (e : Entry) → look rs p ≡ Some e → cond (bytes_eq r.0 p) (Some r.1) (look rs p) ≡ Some e
    later p e h = go (bytes_eq r.0 p) refl
      where
        go : (b : Bool) → bytes_eq r.0 p ≡ b → cond b (Some r.1) (look rs p) ≡ Some e
        go false is = h
        go true is = absurd (not_both h (ap (look rs) (sym (same_path r.0 p is)) ∙ look_absent rs r.0 rising.0))

-- an entry that is there has a digest exactly where digests are compared
abbrev pub IsDigested : Bool → Option Entry → Type 0
IsDigested hash v = (e : Entry) → v ≡ Some e → hash ≡ is_some e.hash

abbrev pub AreDigested : Bool → Entries → Type 0
AreDigested hash entries = (side : Side) (p : PathBytes) → IsDigested hash (entries side p)

none_digested : (hash : Bool) → IsDigested hash None
none_digested hash e h = cc

brought_digested : (hash : Bool) (w : Window) (v : Option Entry) → IsDigested hash v → IsDigested hash (option_map (brought_entry w) v)
brought_digested hash w None h e is = cc
brought_digested hash w (Some x) h e is = let same : brought_entry w x ≡ e = cc in h x refl ∙ ap (λ y. is_some y.hash) same

pub listed_digested : (compare : Compare) (one two : Rows) → HasDigests compare one → HasDigests compare two → AreDigested compare.hash (by_side (look one) (look two))
listed_digested compare one two h k One p = h.digest p
listed_digested compare one two h k Two p = k.digest p

module _ (known : Known) (digested : AreDigested known.policy.compare.hash known.now) where
  carried_digested : (from : Side) (p : PathBytes) (side : Side) → IsDigested known.policy.compare.hash (carried_entry known from p side)
  carried_digested from p side = go (is_side from side)
    where
      go : (b : Bool) → IsDigested known.policy.compare.hash (cond b (known.now from p) (option_map (brought_entry (known.policy.window side)) (known.now from p)))
      go true = digested from p
      go false = brought_digested known.policy.compare.hash (known.policy.window side) (known.now from p) (digested from p)

  rule_digested : (r : Rule) (p : PathBytes) (side : Side) → IsDigested known.policy.compare.hash (entry_by_rule known r p side)
  rule_digested Nothing p side = digested side p
  rule_digested (CopyFrom from) p side = carried_digested from p side
  rule_digested (DeleteOn on) p side = none_digested known.policy.compare.hash
  rule_digested Conflict p side = go (winner_at known p)
    where
      go : (w : Option Side) → IsDigested known.policy.compare.hash (settled_entry known w p side)
      go None = none_digested known.policy.compare.hash
      go (Some w) = carried_digested w p side

  if_passing : (b : Bool) (v : Option Entry) → IsDigested known.policy.compare.hash v → IsDigested known.policy.compare.hash (cond b v None)
  if_passing true v h = h
  if_passing false v h = none_digested known.policy.compare.hash

  pub finals_digested : (names : List Given) → AreDigested known.policy.compare.hash (final_entry known names)
  finals_digested names side p = if_passing (known.policy.passes p) (entry_by_name known (loser_named names p) p side) (go (loser_named names p))
    where
      go : (v : Option Given) → IsDigested known.policy.compare.hash (entry_by_name known v p side)
      go None = rule_digested (rule_at known p) p side
      go (Some g) = carried_digested g.side g.path side

  pub resync_digested : AreDigested known.policy.compare.hash (resync_entry known)
  resync_digested side p = if_passing (known.policy.passes p) (entry_from known (source_at known p) p side) (go (source_at known p))
    where
      go : (s : Option Side) → IsDigested known.policy.compare.hash (entry_from known s p side)
      go None = digested side p
      go (Some from) = carried_digested from p side

some_field : (a b c : Bool) → IsTrue (a || b || c) → field_names a b c ≢ []
some_field true true true h e = cc
some_field true true false h e = cc
some_field true false true h e = cc
some_field true false false h e = cc
some_field false true true h e = cc
some_field false true false h e = cc
some_field false false true h e = cc
some_field false false false h e = cc

pub writable : (stamp : ℕ) (compare : Compare) (entries : Entries) (side : Side) (rows : Rows) → IsStamp stamp → ComparesSome compare → AreDigested compare.hash entries → AreRowsOf entries side rows
    → MayBeWritten (header_of stamp compare) rows
writable stamp compare entries side rows range some digested are = record {
  is_header = record {
    low = range.low;
    high = range.high;
    fields = record { some = some_field compare.size compare.time compare.hash some; window = refl };
  };
  has_fields = refl;
  digests = each_row (λ e. compare.hash ≡ is_some e.hash) rows are.rising (λ p e h. digested side p e (sym (are.looks p) ∙ h));
}
