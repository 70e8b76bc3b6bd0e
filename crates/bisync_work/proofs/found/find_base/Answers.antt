use Rattle.std.proofs.Common.{sym, subst, arith, ◌<◌, ◌^◌, ◌∙◌}
use Rattle.std.specs.Prelude.{IfOk}
use Rattle.bisync_device.specs.WorkFolder.{WorkFolder}
use Rattle.bisync_work.specs.Base.{NoPair}
use Rattle.bisync_work.specs.Found.{IsFound}
use Rattle.bisync_work.specs.Standing.{IsStanding, IsMark}
use Rattle.bisync_work.proofs.found.find_base.Goals as goal

pub returns-in-Ok-clause-found : goal.returns-in-Ok-clause-found
returns-in-Ok-clause-found g c t =
    let limit = c.args.limits.now.listing in
    let f = (g.W.Work.state c.args.work.now).folder in
    let small : limit < 2 ^ 64 = omega arith in
    let same = c.in_ok-one.ensures.folder t in
    let same_two = c.in_ok-two.ensures.folder t ∙ same in
    let same_three = c.in_ok-read_name-in-Ok.ensures.folder t ∙ same_two in
    let one = c.in_ok-one.ensures.standing t in
    let two = subst (λ (x : WorkFolder). IsStanding limit x.two c.in_ok-two.two) same (c.in_ok-two.ensures.standing t) in
    let one_old = subst (λ (x : WorkFolder). IsStanding limit x.one_old c.in_ok-read_name-in-Ok.field-0) same_two (c.in_ok-read_name-in-Ok.ensures.standing t) in
    let two_old = subst (λ (x : WorkFolder). IsStanding limit x.two_old c.in_ok-read_name-in-Ok-2.field-0) same_three (c.in_ok-read_name-in-Ok-2.ensures.standing t) in
    c.found_in.ensures.found limit f small
    (record { one = c.mark.ensures limit f.one one; two = c.mark-2.ensures limit f.two two; one_old = c.mark-one_old.ensures limit f.one_old one_old; two_old = c.mark-two_old.ensures limit f.two_old two_old })
    (c.in-Ok.ensures.pair limit f.one f.two one two)

pub returns-clause-found : goal.returns-clause-found
returns-clause-found g c t =
    let limit = c.args.limits.now.listing in
    let f = (g.W.Work.state c.args.work.now).folder in
    let h = (g.W.Work.state c.read_name-2.new.work).folder in
    let small : limit < 2 ^ 64 = omega arith in
    let same = c.in_ok-one.ensures.folder t in
    let same_two = c.in_ok-two.ensures.folder t ∙ same in
    let one = c.in_ok-one.ensures.standing t in
    let two = subst (λ (x : WorkFolder). IsStanding limit x.two c.in_ok-two.two) same (c.in_ok-two.ensures.standing t) in
    let no_current = c.in-Err.ensures.apart.2 limit f.one f.two small one two in
    let again = subst (IsStanding limit f.two) (sym c.in-Err.ensures.apart.1) two in
    let found = c.find_older.ensures.found t
    (subst (λ (x : WorkFolder). IsStanding limit x.two c.in-Err.apart.1) (sym same_two) again)
    (subst (λ (x : WorkFolder). IsMark limit x.one c.mark.result) (sym same_two) (c.mark.ensures limit f.one one))
    (subst (λ (x : WorkFolder). IsMark limit x.two c.mark-2.result) (sym same_two) (c.mark-2.ensures limit f.two two))
    (subst (λ (x : WorkFolder). NoPair limit x.one x.two) (sym same_two) no_current) in
    subst (λ (x : WorkFolder). IfOk c.find_older.result (IsFound limit x)) same_two found
