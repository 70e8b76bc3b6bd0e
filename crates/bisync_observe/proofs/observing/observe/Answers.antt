use Rattle.std.proofs.Common.{◌≡◌, ◌∙◌, IsTrue, length, sym, ap, subst}
use Rattle.std.specs.Prelude.{option_map, Some}
use Rattle.bisync_filter.specs.Passing.{rules_pass}
use Rattle.bisync_tree.specs.Rows.{PathBytes, Rows, keys, look}
use Rattle.bisync_tree.specs.Tree.{Tree, file_at}
use Rattle.bisync_tree.specs.declared.entries.Entry.{Entry}
use Rattle.bisync_observe.specs.Counting.{name_bytes, IsWithin}
use Rattle.bisync_observe.specs.Observing.{ArePassingNames, AreWithin, HaveDigestsFor, IsCause, IsSeenOf}
use Rattle.bisync_observe.specs.Seeing.{IsSeen, IsWhyUnseen}
use Rattle.bisync_observe.specs.declared.faults.ObserveFault.{ObserveFault}
use Rattle.bisync_observe.specs.declared.observing.Seen.{Seen}
use Rattle.bisync_observe.proofs.FictionLemmas.{fiction}
use Rattle.bisync_observe.proofs.SeenLemmas.{listed_named}
use Rattle.bisync_observe.proofs.TreeLemmas.{bare_entry, counted, no_digest, told_items, told_paths, why_unread}
use Rattle.bisync_observe.proofs.ViewLemmas.{if_ok, if_err, within, digests, seen_of, told_rows, why_unseen}
use Rattle.bisync_observe.proofs.observing.observe.Goals as goal

pub returns-in-Err-clause-refusal : goal.returns-in-Err-clause-refusal
returns-in-Err-clause-refusal g c =
    why_unread _ _ _ _ c.args.limits.now _ c.in-Err.fault (told_paths _ _ _ _ c.in-Ok.ensures.items c.new-items.ensures.items) c.in-Err.ensures.err

pub returns-in-Err-check_limits-clause-refusal : goal.returns-in-Err-check_limits-clause-refusal
returns-in-Err-check_limits-clause-refusal g c =
    let e = c.in-Err-check_limits.ensures in
    let rows = c.deref.ensures.value ∙ c.in-Ok-read_rows.ensures.ok in (
      e.over,
      λ t. counted _ _ _ _ (told_items _ _ _ _ c.in-Ok.ensures.items c.new-items.ensures.items t)
          (e.files ∙ ap (λ (r : Rows). length r) rows) (e.bytes ∙ ap (λ (r : Rows). name_bytes (keys r)) rows),
    )

pub see_rows-requires-clause-no_digests : goal.see_rows-requires-clause-no_digests
see_rows-requires-clause-no_digests g c = λ p e is.
    no_digest c.list.new.out.items p e (sym (c.in_ok-put_in_order.ensures.first p ∙ ap (λ (r : Rows). look r p) c.in-Ok-read_rows.ensures.ok) ∙ is)

pub returns-clause-passing : goal.returns-clause-passing
returns-clause-passing g c =
    let passes = rules_pass c.args.rules.now in
    if_ok c.see_rows.result
    (λ (seen : Seen). IsSeen g.R.Remote.tells (g.R.Remote.state c.list.new.self).tree c.args.compare.now.hash passes c.put_in_order.new.rows.items seen.names seen.listing)
    (λ (seen : Seen). ArePassingNames passes seen.names seen.listing)
    (λ seen is p e at. listed_named _ _ _ _ _ _ _ p e is at) c.see_rows.ensures.seen

pub returns-clause-digests : goal.returns-clause-digests
returns-clause-digests g c =
    let none = λ (p : PathBytes) (e : Entry) (is : look c.put_in_order.new.rows.items p ≡ Some e).
    no_digest c.list.new.out.items p e (sym (c.in_ok-put_in_order.ensures.first p ∙ ap (λ (r : Rows). look r p) c.in-Ok-read_rows.ensures.ok) ∙ is) in
    if_ok c.see_rows.result
    (λ (seen : Seen). IsSeen g.R.Remote.tells (g.R.Remote.state c.list.new.self).tree c.args.compare.now.hash (rules_pass c.args.rules.now) c.put_in_order.new.rows.items seen.names seen.listing)
    (λ (seen : Seen). HaveDigestsFor c.args.compare.now seen.listing)
    (λ seen is p e at. digests _ _ _ _ _ _ _ none is p e at) c.see_rows.ensures.seen

pub returns-clause-within : goal.returns-clause-within
returns-clause-within g c =
    let limited = subst (λ (r : Rows). IsWithin c.args.limits.now (length r) (name_bytes (keys r))) c.deref.ensures.value c.in-Ok-check_limits.ensures.ok in
    if_ok c.see_rows.result
    (λ (seen : Seen). IsSeen g.R.Remote.tells (g.R.Remote.state c.list.new.self).tree c.args.compare.now.hash (rules_pass c.args.rules.now) c.put_in_order.new.rows.items seen.names seen.listing)
    (λ (seen : Seen). AreWithin c.args.limits.now seen.names)
    (λ seen is. within _ _ _ _ limited c.in_ok-put_in_order.ensures is.few is.short) c.see_rows.ensures.seen

pub returns-clause-refusal : goal.returns-clause-refusal
returns-clause-refusal g c =
    let told = told_rows _ _ _ _ _ _ c.in-Ok.ensures.items c.new-items.ensures.items c.in-Ok-read_rows.ensures.ok c.in_ok-put_in_order.ensures in
    let passes = rules_pass c.args.rules.now in
    let tree = (g.R.Remote.state c.list.new.self).tree in
    if_err c.see_rows.result
    (λ (fault : ObserveFault). IsWhyUnseen g.R.Remote.tells tree c.args.compare.now passes c.put_in_order.new.rows.items fault)
    (λ (fault : ObserveFault). IsCause g.R.Remote.tells (g.R.Remote.state c.args.remote.now).tree c.args.compare.now passes c.args.limits.now fault)
    (λ fault why. why_unseen _ tree _ _ _ c.args.limits.now _ fault (λ t p. subst (λ (x : Tree). look c.put_in_order.new.rows.items p ≡ option_map bare_entry (file_at x p)) (sym (c.in-Ok.ensures.tree t).tree) (told t p)) why)
    c.see_rows.ensures.unseen

pub returns-clause-seen : goal.returns-clause-seen
returns-clause-seen g c =
    let told = told_rows _ _ _ _ _ _ c.in-Ok.ensures.items c.new-items.ensures.items c.in-Ok-read_rows.ensures.ok c.in_ok-put_in_order.ensures in
    let passes = rules_pass c.args.rules.now in
    let tells = g.R.Remote.tells in
    let start = (g.R.Remote.state c.args.remote.now).tree in
    if_ok c.see_rows.result
    (λ (seen : Seen). IsSeen tells (g.R.Remote.state c.list.new.self).tree c.args.compare.now.hash passes c.put_in_order.new.rows.items seen.names seen.listing)
    (λ (seen : Seen). IsTrue tells → IsSeenOf c.args.compare.now passes start seen.names seen.listing)
    (λ seen is t. seen_of _ _ _ start _ _ _ (told t)
    (subst (λ (x : Tree). IsSeen tells x c.args.compare.now.hash passes c.put_in_order.new.rows.items seen.names seen.listing) (c.in-Ok.ensures.tree t).tree is) t)
    c.see_rows.ensures.seen

pub returns-clause-some : goal.returns-clause-some
returns-clause-some g c =
    let none = λ (p : PathBytes) (e : Entry) (is : look c.put_in_order.new.rows.items p ≡ Some e).
    no_digest c.list.new.out.items p e (sym (c.in_ok-put_in_order.ensures.first p ∙ ap (λ (r : Rows). look r p) c.in-Ok-read_rows.ensures.ok) ∙ is) in
    let passes = rules_pass c.args.rules.now in
    if_ok c.see_rows.result
    (λ (seen : Seen). IsSeen g.R.Remote.tells (g.R.Remote.state c.list.new.self).tree c.args.compare.now.hash passes c.put_in_order.new.rows.items seen.names seen.listing)
    (λ (seen : Seen). (tree : Tree) × IsSeenOf c.args.compare.now passes tree seen.names seen.listing)
    (λ seen is. fiction _ c.args.compare.now passes _ _ _ _ none is) c.see_rows.ensures.seen
