use Rattle.std.proofs.Common.{[], List, ℕ, arith, take, drop, sym, refl}
use Rattle.std.proofs.lemmas.List.{take_rest, length-drop, take-append-drop, drop-drop, append-nil}
use Rattle.bisync_glob.specs.Reading.{ItemRead}
use Rattle.bisync_glob.proofs.ClassLaws.{items_more}
use Rattle.bisync_glob.proofs.class_reader.read_items.Goals as goal

pub loop-item-preserved : goal.loop-item-preserved
loop-item-preserved c =
    let left : List ℕ = drop c.loop-item.len c.args.text.now in
    let r : ItemRead c.in-Some.item c.in-Some.item_len left = rw (take_rest c.args.text.now c.loop-item.len) at (c.in-Some.ensures) in
    record {
      fits = omega (arith, r.fits, length-drop c.loop-item.len c.args.text.now);
      read = λ more rest after. rw c.in_ok-push.ensures.items
          (items_more c.loop-item.items.items c.in-Some.item more rest c.args.text.now (take c.in-Some.item_len left) (drop c.in-Some.item_len left) left c.loop-item.invariant.read
          (sym (take-append-drop c.in-Some.item_len left)) r.spelled (rw (drop-drop c.in-Some.item_len c.loop-item.len c.args.text.now) after));
    }

pub returns : goal.returns
returns c = record {
  fits = c.loop-item.invariant.fits;
  spelled = rw (append-nil c.loop-item.items.items) at (c.loop-item.invariant.read [] (drop c.loop-item.len c.args.text.now) refl);
  ended = rw (take_rest c.args.text.now c.loop-item.len) at (c.in_default.ensures);
}
