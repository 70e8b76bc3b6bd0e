use Rattle.std.proofs.Common.{◌++◌, ◌∙◌, List, ℕ, append_assoc, sym, ap, take, refl, false}
use Rattle.bisync_device.specs.Faults.{lowered}
use Rattle.bisync_work.proofs.NewListingLaws.{loose_more}
use Rattle.bisync_work.proofs.new_listings.write_synced.Goals as goal

pub pieces-preserved : goal.pieces-preserved
pieces-preserved g c =
    let inv = c.pieces.invariant in
    let text = inv.text.0 in
    let piece = take c.fill-count.result c.fill-count.new.buffer in
    let did = c.in_ok-append.ensures.writes c.args.name inv.writing in
    record {
      writing = did.0;
      text = (
        text ++ piece,
        append_assoc text piece c.fill-count.new.self ∙ ap (λ (x : List ℕ). text ++ x) (sym c.fill-count.ensures.given) ∙ inv.text.1,
        λ t. loose_more c.args.name text (g.W.Work.state c.args.work.now).folder (g.W.Work.state c.pieces.work).folder (g.W.Work.state c.append.new.self).folder (inv.text.2 t) piece (did.1 t),
      );
      faults = c.in_ok-append.ensures.call.cause.kept (refl {a = false}) ∙ inv.faults;
      stop = λ none. c.in_ok-append.ensures.call.counted.lowered ∙ ap lowered (inv.stop none);
    }
