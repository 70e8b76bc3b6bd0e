use Rattle.std.proofs.Common.{◌∙◌, ◌∷◌, [], refl}
use Rattle.bisync_listing.specs.Progress.{text_so_far}
use Rattle.bisync_listing.proofs.RefusalLaws.{takes_err, piece_on}
use Rattle.bisync_listing.proofs.progress.Progress.take.Goals as goal

pub returns-in-Err-clause-takes : goal.returns-in-Err-clause-takes
returns-in-Err-clause-takes c = takes_err c.args.self.now c.loop-at.self c.add.new.self c.loop-at.rest.now _ _ c.args.piece.now c.in-Err.fault c.in-Err.ensures.takes c.loop-at.invariant.limit c.loop-at.invariant.so_far c.in-Some.ensures.found.2

pub returns-in-Err-newline-clause-takes : goal.returns-in-Err-newline-clause-takes
returns-in-Err-newline-clause-takes c =
    let so_far = piece_on (text_so_far c.add.new.self) (text_so_far c.loop-at.self) _ _ c.loop-at.rest.now (text_so_far c.args.self.now) c.args.piece.now c.in_default-add.ensures.takes.1 c.in-Some.ensures.found.2 c.loop-at.invariant.so_far in
    takes_err c.args.self.now c.add.new.self c.newline.new.self _ (10 ∷ []) _ c.args.piece.now c.in-Err-newline.fault c.in-Err-newline.ensures.takes (c.add.ensures.limit ∙ c.loop-at.invariant.limit) so_far refl
