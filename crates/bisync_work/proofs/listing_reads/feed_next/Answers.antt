use Rattle.std.proofs.Common.{◌++◌, ℕ, List, append_assoc, ap, ◌∙◌, sym, subst, take}
use Rattle.bisync_work.specs.declared.listing_reads.ReadFault.{ReadFault}
use Rattle.bisync_work.specs.Standing.{IsReadFault}
use Rattle.bisync_work.proofs.ReadingLaws.{fault_stays}
use Rattle.bisync_work.proofs.listing_reads.feed_next.Goals as goal

pub returns-in-Err-clause-bad : goal.returns-in-Err-clause-bad
returns-in-Err-clause-bad g c t small =
    let text = c.args.reader.now.text in
    let before = (g.W.Work.state c.args.work.now).reading.rest in
    let after = (g.W.Work.state c.read.new.self).reading.rest in
    let piece = take c.in_ok-count.count c.read.new.buffer in
    let parts = ap (λ (r : List ℕ). text ++ r) (c.in_ok-count.ensures.reads.bytes t) ∙ sym (append_assoc text piece after) in
    subst (λ (fault : ReadFault). IsReadFault c.args.reader.now.limit (text ++ before) fault) (sym c.fault_of.ensures)
    (fault_stays c.args.reader.now.limit (text ++ piece) (text ++ before) after c.in-Err.fault small (c.in-Err.ensures.new_fault c.requires.clear) parts)
