use Rattle.std.proofs.Common.{◌≡◌, false, arith, rules}
use Rattle.bisync_work.specs.Locks.{IsOver}
use Rattle.std.proofs.lemmas.Grind.{common_steps}
use Rattle.bisync_work.proofs.LockLaws.{seen_over}
use Rattle.bisync_work.proofs.locks.take_lock.Goals as goal

pub returns-in_err-replace_lock-clause-blocking : goal.returns-in_err-replace_lock-clause-blocking
returns-in_err-replace_lock-clause-blocking g c t until blocks =
    let made : c.in_ok-make_lock.field-0 ≡ false = grind (arith, common_steps) in
    let makes = rw made at (c.in_ok-make_lock.ensures.makes t) in
    let over : IsOver c.args.now c.in_ok-until.until = search rules in
    absurd (seen_over c.args.now c.in_ok-until.until until _ _ makes.0 makes.1 (c.in_ok-until.ensures.says t) over blocks)

pub returns-clause-blocking : goal.returns-clause-blocking
returns-clause-blocking g c t until blocks =
    let made : c.in_ok-make_lock.field-0 ≡ false = grind (arith, common_steps) in
    let makes = rw made at (c.in_ok-make_lock.ensures.makes t) in
    let over : IsOver c.args.now c.in_ok-until.until = search rules in
    absurd (seen_over c.args.now c.in_ok-until.until until _ _ makes.0 makes.1 (c.in_ok-until.ensures.says t) over blocks)
