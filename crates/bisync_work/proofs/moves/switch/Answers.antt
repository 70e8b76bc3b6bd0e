use Rattle.std.proofs.Common.{refl, [], ◌∷◌}
use Rattle.bisync_device.specs.declared.works.WorkName.TheVariants.{One, Two, OneNew, TwoNew}
use Rattle.bisync_work.specs.Moves.{Switches}
use Rattle.bisync_work.proofs.RenameLaws.{worked, failed}
use Rattle.bisync_work.proofs.RenamesBegun.{goes_on, stops_at}
use Rattle.bisync_work.proofs.SwitchLaws.{switches_refl, halved, whole_after, switched}
use Rattle.std.proofs.Common.{sym, subst}
use Rattle.bisync_work.proofs.moves.switch.Goals as goal

pub returns-in_err-rename-clause-switches : goal.returns-in_err-rename-clause-switches
returns-in_err-rename-clause-switches g c t =
    failed (Switches (g.W.Work.state c.args.work.now).folder) t OneNew One (g.W.Work.state c.args.work.now) (g.W.Work.state c.rename.new.self) (switches_refl _) (halved refl) c.in_err-rename.ensures.renames

pub returns-in_err-rename-2-clause-switches : goal.returns-in_err-rename-2-clause-switches
returns-in_err-rename-2-clause-switches g c t =
    let one = worked t OneNew One (g.W.Work.state c.args.work.now) (g.W.Work.state c.rename.new.self) _ c.in_ok-rename.ensures.renames in
    failed (Switches (g.W.Work.state c.args.work.now).folder) t TwoNew Two (g.W.Work.state c.rename.new.self) (g.W.Work.state c.rename-2.new.self) (halved one) (whole_after one) c.in_err-rename-2.ensures.renames

pub returns-clause-switches : goal.returns-clause-switches
returns-clause-switches g c t =
    let one = worked t OneNew One (g.W.Work.state c.args.work.now) (g.W.Work.state c.rename.new.self) _ c.in_ok-rename.ensures.renames in
    let two = worked t TwoNew Two (g.W.Work.state c.rename.new.self) (g.W.Work.state c.rename-2.new.self) _ c.in_ok-rename-2.ensures.renames in
    subst (Switches (g.W.Work.state c.args.work.now).folder) (sym two) (whole_after one)

pub returns-clause-switched : goal.returns-clause-switched
returns-clause-switched g c t =
    let one = worked t OneNew One (g.W.Work.state c.args.work.now) (g.W.Work.state c.rename.new.self) _ c.in_ok-rename.ensures.renames in
    let two = worked t TwoNew Two (g.W.Work.state c.rename.new.self) (g.W.Work.state c.rename-2.new.self) _ c.in_ok-rename-2.ensures.renames in
    switched one two

pub returns-in_err-rename-clause-begun : goal.returns-in_err-rename-clause-begun
returns-in_err-rename-clause-begun g c t =
    stops_at t ([]) (OneNew, One) ((TwoNew, Two) ∷ []) (g.W.Work.state c.args.work.now).folder (g.W.Work.state c.args.work.now) (g.W.Work.state c.rename.new.self) refl c.in_err-rename.ensures.renames

pub returns-in_err-rename-2-clause-begun : goal.returns-in_err-rename-2-clause-begun
returns-in_err-rename-2-clause-begun g c t =
    let first = goes_on t ([]) (OneNew, One) (g.W.Work.state c.args.work.now).folder (g.W.Work.state c.args.work.now) (g.W.Work.state c.rename.new.self) _ refl c.in_ok-rename.ensures.renames in
    stops_at t ((OneNew, One) ∷ []) (TwoNew, Two) ([]) (g.W.Work.state c.args.work.now).folder (g.W.Work.state c.rename.new.self) (g.W.Work.state c.rename-2.new.self) first c.in_err-rename-2.ensures.renames

pub returns-clause-begun : goal.returns-clause-begun
returns-clause-begun g c t =
    let first = goes_on t ([]) (OneNew, One) (g.W.Work.state c.args.work.now).folder (g.W.Work.state c.args.work.now) (g.W.Work.state c.rename.new.self) _ refl c.in_ok-rename.ensures.renames in
    let second = goes_on t ((OneNew, One) ∷ []) (TwoNew, Two) (g.W.Work.state c.args.work.now).folder (g.W.Work.state c.rename.new.self) (g.W.Work.state c.rename-2.new.self) _ first c.in_ok-rename-2.ensures.renames in
    record { done = (OneNew, One) ∷ (TwoNew, Two) ∷ []; left = []; all = refl; folder = second }

pub returns-clause-done : goal.returns-clause-done
returns-clause-done g c t =
    let first = goes_on t ([]) (OneNew, One) (g.W.Work.state c.args.work.now).folder (g.W.Work.state c.args.work.now) (g.W.Work.state c.rename.new.self) _ refl c.in_ok-rename.ensures.renames in
    let second = goes_on t ((OneNew, One) ∷ []) (TwoNew, Two) (g.W.Work.state c.args.work.now).folder (g.W.Work.state c.rename.new.self) (g.W.Work.state c.rename-2.new.self) _ first c.in_ok-rename-2.ensures.renames in
    second
