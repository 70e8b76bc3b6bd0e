use Rattle.std.proofs.Common.{refl}
use Rattle.bisync_memory.specs.MemWork.{work_state, loose_mode}
use Rattle.bisync_memory.proofs.WakeLemmas.{image-woken}
use Rattle.bisync_memory.proofs.works.calls.MemWorkWorkWakes.wake.Goals as goal

pub returns-clause-woken : goal.returns-clause-woken
returns-clause-woken c = record {
  left = refl;
  closed = record { opened = refl; writing = refl };
  faults = refl;
  image = λ t. image-woken (loose_mode c.args.self.now) (work_state c.args.self.now).folder _ c.wake.ensures;
}
