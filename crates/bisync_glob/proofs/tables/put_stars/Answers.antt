use Rattle.std.proofs.Common.{◌-◌, arith, refl}
use Rattle.std.proofs.lemmas.Grind.{common_steps}
use Rattle.bisync_glob.proofs.TableLaws.{runs_step, runs_start, and_true}
use Rattle.bisync_glob.proofs.tables.put_stars.Goals as goal

pub loop-i-init : goal.loop-i-init
loop-i-init c = record { done = runs_start _ c.args.text.now c.args.table.now; kept = λ k h. refl }

pub loop-i-preserved : goal.loop-i-preserved
loop-i-preserved c = record {
  done = runs_step _ c.args.text.now c.args.table.now c.loop-i.table (c.loop-i.i - 1) _ (omega arith) (omega arith) (c.loop-i.invariant.kept (c.loop-i.i - 1) (omega arith)) (rw and_true refl) (λ q table k low high. c.loop-i.invariant.done q table k (omega arith) high);
  kept = λ k h. grind (arith, common_steps, c.loop-i.invariant.kept k);
}

pub returns : goal.returns
returns c = λ q table. record { len = omega arith; at = λ i h. c.loop-i.invariant.done q table i (omega arith) h }
