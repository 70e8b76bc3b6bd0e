use Rattle.std.proofs.Common.{rules, ◌++◌, ◌∙◌, ◌-◌, ℕ, List, Some, sym, ap, arith, length, take}
use Rattle.bisync_work.proofs.FrontLaws.{length_mid, front_more, front_all}
use Rattle.bisync_work.proofs.fronts.read_front.Goals as goal

pub loop-count-preserved : goal.loop-count-preserved
loop-count-preserved g c =
    let k = length c.loop-count.buffer - c.loop-count.count in
    let takes = c.in_ok-more.ensures.reads in
    let long = length_mid c.loop-count.count c.in_ok-more.more k c.loop-count.buffer c.read.new.buffer c.loop-count.invariant.within in
    record {
      within = omega (arith, long, takes.within);
      is_open = takes.opened;
      same = λ t. c.in_ok-more.ensures.folder t ∙ c.loop-count.invariant.same t;
      text = λ t. c.loop-count.invariant.text t ∙ ap Some (sym (
          front_more c.loop-count.count c.in_ok-more.more k c.loop-count.buffer c.read.new.buffer c.loop-count.invariant.within (g.W.Work.state c.read.new.self).reading.rest takes.within
          ∙ ap (λ (u : List ℕ). take c.loop-count.count c.loop-count.buffer ++ u) (sym (takes.bytes t))));
      left = search rules;
      faults = c.in_ok-more.ensures.call.cause.kept (search rules) ∙ c.loop-count.invariant.faults;
    }

pub returns-then-more-eq0-clause-front : goal.returns-then-more-eq0-clause-front
returns-then-more-eq0-clause-front g c t =
    let k = length c.loop-count.buffer - c.loop-count.count in (
      take c.loop-count.count c.loop-count.buffer ++ (g.W.Work.state c.loop-count.work).reading.rest,
      c.loop-count.invariant.text t,
      front_all c.loop-count.count c.in_ok-more.more k c.loop-count.buffer c.read.new.buffer c.loop-count.invariant.within (g.W.Work.state c.loop-count.work).reading.rest (c.in_ok-more.ensures.reads.ends t c.if-more-eq0.true),
    )
