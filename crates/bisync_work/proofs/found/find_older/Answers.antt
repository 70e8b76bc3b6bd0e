use Rattle.std.proofs.Common.{sym, subst, arith, ◌<◌, ◌^◌}
use Rattle.bisync_device.specs.WorkFolder.{WorkFolder}
use Rattle.bisync_work.specs.Standing.{IsStanding}
use Rattle.bisync_work.proofs.found.find_older.Goals as goal

pub returns-in-Ok-clause-found : goal.returns-in-Ok-clause-found
returns-in-Ok-clause-found g c t is_two one_mark two_mark no_current =
    let limit = c.args.limits.now.listing in
    let f = (g.W.Work.state c.args.work.now).folder in
    let small : limit < 2 ^ 64 = omega arith in
    let same = c.in_ok-one_old.ensures.folder t in
    let one_old = c.in_ok-one_old.ensures.standing t in
    let two_old = subst (λ (x : WorkFolder). IsStanding limit x.two_old c.in_ok-read_name-in-Ok.field-0) same (c.in_ok-read_name-in-Ok.ensures.standing t) in
    let pair = c.in-Ok.ensures.pair limit f.one_old f.two one_old is_two in
    c.found_in.ensures.found limit f small
    (record { one = one_mark; two = two_mark; one_old = c.mark.ensures limit f.one_old one_old; two_old = c.mark-marks.ensures limit f.two_old two_old })
    (no_current, pair)

pub returns-in-Ok-join-clause-found : goal.returns-in-Ok-join-clause-found
returns-in-Ok-join-clause-found g c t is_two one_mark two_mark no_current =
    let limit = c.args.limits.now.listing in
    let f = (g.W.Work.state c.args.work.now).folder in
    let small : limit < 2 ^ 64 = omega arith in
    let same = c.in_ok-one_old.ensures.folder t in
    let one_old = c.in_ok-one_old.ensures.standing t in
    let two_old = subst (λ (x : WorkFolder). IsStanding limit x.two_old c.in_ok-two_old.two_old) same (c.in_ok-two_old.ensures.standing t) in
    let no_mixed = c.in-Err.ensures.apart.2 limit f.one_old f.two small one_old is_two in
    let again = subst (IsStanding limit f.one_old) (sym c.in-Err.ensures.apart.0) one_old in
    let pair = c.in-Ok-join.ensures.pair limit f.one_old f.two_old again two_old in
    c.found_in-in-Ok-join.ensures.found limit f small
    (record { one = one_mark; two = two_mark; one_old = c.mark.ensures limit f.one_old one_old; two_old = c.mark-marks-2.ensures limit f.two_old two_old })
    (no_current, no_mixed, pair)

pub returns-clause-found : goal.returns-clause-found
returns-clause-found g c t is_two one_mark two_mark no_current =
    let limit = c.args.limits.now.listing in
    let f = (g.W.Work.state c.args.work.now).folder in
    let small : limit < 2 ^ 64 = omega arith in
    let same = c.in_ok-one_old.ensures.folder t in
    let one_old = c.in_ok-one_old.ensures.standing t in
    let two_old = subst (λ (x : WorkFolder). IsStanding limit x.two_old c.in_ok-two_old.two_old) same (c.in_ok-two_old.ensures.standing t) in
    let no_mixed = c.in-Err.ensures.apart.2 limit f.one_old f.two small one_old is_two in
    let again = subst (IsStanding limit f.one_old) (sym c.in-Err.ensures.apart.0) one_old in
    let no_old = c.in-Err-join.ensures.apart.2 limit f.one_old f.two_old small again two_old in
    c.found_none.ensures.found limit f small
    (record { one = one_mark; two = two_mark; one_old = c.mark.ensures limit f.one_old one_old; two_old = c.mark-marks-2.ensures limit f.two_old two_old })
    (no_current, no_mixed, no_old)
