use Rattle.std.proofs.Common.{arith, inl, inr}
use Rattle.bisync_listing.proofs.ProgressLaws.{takes_failed, bad_long}
use Rattle.bisync_listing.proofs.progress.Progress.add.Goals as goal

pub returns-then-bytes-len-clause-takes : goal.returns-then-bytes-len-clause-takes
returns-then-bytes-len-clause-takes c = takes_failed c.args.self.now c.bad.new.self _ c.args.bytes.now c.bad.result c.bad.ensures.kept c.bad.ensures.err
    (bad_long c.args.self.now c.args.bytes.now c.requires.sound c.requires.one (inl (let s = c.requires.sound in omega (arith, s.short))))

pub returns-then-bytes-self-clause-takes : goal.returns-then-bytes-self-clause-takes
returns-then-bytes-self-clause-takes c = takes_failed c.args.self.now c.bad-then-bytes-self.new.self _ c.args.bytes.now c.bad-then-bytes-self.result c.bad-then-bytes-self.ensures.kept c.bad-then-bytes-self.ensures.err
    (bad_long c.args.self.now c.args.bytes.now c.requires.sound c.requires.one (inr (let s = c.requires.sound in omega (arith, s.within))))
