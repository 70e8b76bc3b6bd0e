use Rattle.std.proofs.Common.{◌≡◌, [], ◌∷◌, refl, sym, subst}
use Rattle.bisync_device.specs.declared.works.WorkName.TheVariants.{One, OneOld, Two, TwoOld}
use Rattle.bisync_device.specs.WorkFolder.{WorkFolder}
use Rattle.bisync_work.specs.declared.bases.Pair.{Pair}
use Rattle.bisync_work.specs.declared.bases.Pair.TheVariants.{Current, Mixed, Old}
use Rattle.bisync_work.specs.Base.{HasBaseIn}
use Rattle.bisync_work.specs.Moves.{SetsBack}
use Rattle.bisync_work.specs.Renames.{AreBegun, after_renames, back_renames}
use Rattle.bisync_work.proofs.RenameLaws.{worked, failed}
use Rattle.bisync_work.proofs.RenamesBegun.{goes_on, stops_at}
use Rattle.bisync_work.proofs.SetBackLaws.{sets_refl, back_one, back_two, back_two_in, back_one_in, set_back_then}
use Rattle.bisync_work.proofs.moves.set_back.Goals as goal

pub returns-in_err-rename-in-Current-clause-sets_back : goal.returns-in_err-rename-in-Current-clause-sets_back
returns-in_err-rename-in-Current-clause-sets_back g c t =
    let f = (g.W.Work.state c.args.work.now).folder in
    let did = failed (SetsBack Current f) t One OneOld (g.W.Work.state c.args.work.now) (g.W.Work.state c.rename.new.self) (sets_refl Current f) (back_one f) c.in_err-rename-in-Current.ensures.renames in
    subst (λ (p : Pair). SetsBack p f (g.W.Work.state c.rename.new.self).folder) (sym c.in-Current.is) did

pub returns-in_err-rename-in-Current-2-clause-sets_back : goal.returns-in_err-rename-in-Current-2-clause-sets_back
returns-in_err-rename-in-Current-2-clause-sets_back g c t =
    let f = (g.W.Work.state c.args.work.now).folder in
    let h = (g.W.Work.state c.rename.new.self).folder in
    let one = worked t One OneOld (g.W.Work.state c.args.work.now) (g.W.Work.state c.rename.new.self) _ c.in_ok-rename-in-Current.ensures.renames in
    let did = failed (SetsBack Mixed h) t Two TwoOld (g.W.Work.state c.rename.new.self) (g.W.Work.state c.rename-in-Current.new.self) (sets_refl Mixed h) (back_two h) c.in_err-rename-in-Current-2.ensures.renames in
    subst (λ (p : Pair). SetsBack p f (g.W.Work.state c.rename-in-Current.new.self).folder) (sym c.in-Current.is) (set_back_then one did)

pub returns-in_ok-rename-in-Current-2-clause-sets_back : goal.returns-in_ok-rename-in-Current-2-clause-sets_back
returns-in_ok-rename-in-Current-2-clause-sets_back g c t =
    let f = (g.W.Work.state c.args.work.now).folder in
    let h = (g.W.Work.state c.rename.new.self).folder in
    let one = worked t One OneOld (g.W.Work.state c.args.work.now) (g.W.Work.state c.rename.new.self) _ c.in_ok-rename-in-Current.ensures.renames in
    let two = worked t Two TwoOld (g.W.Work.state c.rename.new.self) (g.W.Work.state c.rename-in-Current.new.self) _ c.in_ok-rename-in-Current-2.ensures.renames in
    subst (λ (p : Pair). SetsBack p f (g.W.Work.state c.rename-in-Current.new.self).folder) (sym c.in-Current.is) (set_back_then one (subst (SetsBack Mixed h) (sym two) (back_two h)))

pub returns-in_ok-rename-in-Current-2-clause-back : goal.returns-in_ok-rename-in-Current-2-clause-back
returns-in_ok-rename-in-Current-2-clause-back g c t limit base is =
    let f = (g.W.Work.state c.args.work.now).folder in
    let h = (g.W.Work.state c.rename.new.self).folder in
    let one = worked t One OneOld (g.W.Work.state c.args.work.now) (g.W.Work.state c.rename.new.self) _ c.in_ok-rename-in-Current.ensures.renames in
    let two = worked t Two TwoOld (g.W.Work.state c.rename.new.self) (g.W.Work.state c.rename-in-Current.new.self) _ c.in_ok-rename-in-Current-2.ensures.renames in
    let at_first = subst (λ (p : Pair). HasBaseIn limit f p base) c.in-Current.is is in
    let at_second = subst (λ (x : WorkFolder). HasBaseIn limit x Mixed base) (sym one) (back_one_in f limit base at_first) in
    subst (λ (x : WorkFolder). HasBaseIn limit x Old base) (sym two) (back_two_in h limit base at_second)

pub returns-in_err-rename-in-Mixed-clause-sets_back : goal.returns-in_err-rename-in-Mixed-clause-sets_back
returns-in_err-rename-in-Mixed-clause-sets_back g c t =
    let f = (g.W.Work.state c.args.work.now).folder in
    let did = failed (SetsBack Mixed f) t Two TwoOld (g.W.Work.state c.args.work.now) (g.W.Work.state c.rename-in-Mixed.new.self) (sets_refl Mixed f) (back_two f) c.in_err-rename-in-Mixed.ensures.renames in
    subst (λ (p : Pair). SetsBack p f (g.W.Work.state c.rename-in-Mixed.new.self).folder) (sym c.in-Mixed.is) did

pub returns-in_ok-rename-in-Mixed-clause-sets_back : goal.returns-in_ok-rename-in-Mixed-clause-sets_back
returns-in_ok-rename-in-Mixed-clause-sets_back g c t =
    let f = (g.W.Work.state c.args.work.now).folder in
    let two = worked t Two TwoOld (g.W.Work.state c.args.work.now) (g.W.Work.state c.rename-in-Mixed.new.self) _ c.in_ok-rename-in-Mixed.ensures.renames in
    subst (λ (p : Pair). SetsBack p f (g.W.Work.state c.rename-in-Mixed.new.self).folder) (sym c.in-Mixed.is) (subst (SetsBack Mixed f) (sym two) (back_two f))

pub returns-in_ok-rename-in-Mixed-clause-back : goal.returns-in_ok-rename-in-Mixed-clause-back
returns-in_ok-rename-in-Mixed-clause-back g c t limit base is =
    let f = (g.W.Work.state c.args.work.now).folder in
    let two = worked t Two TwoOld (g.W.Work.state c.args.work.now) (g.W.Work.state c.rename-in-Mixed.new.self) _ c.in_ok-rename-in-Mixed.ensures.renames in
    let at_second = subst (λ (p : Pair). HasBaseIn limit f p base) c.in-Mixed.is is in
    subst (λ (x : WorkFolder). HasBaseIn limit x Old base) (sym two) (back_two_in f limit base at_second)

pub returns-in_err-rename-in-Current-clause-begun : goal.returns-in_err-rename-in-Current-clause-begun
returns-in_err-rename-in-Current-clause-begun g c t =
    subst (λ (p : Pair). AreBegun (back_renames p) (g.W.Work.state c.args.work.now).folder (g.W.Work.state c.rename.new.self).folder) (sym c.in-Current.is)
    (stops_at t [] (One, OneOld) ((Two, TwoOld) ∷ []) (g.W.Work.state c.args.work.now).folder (g.W.Work.state c.args.work.now) (g.W.Work.state c.rename.new.self) refl c.in_err-rename-in-Current.ensures.renames)

pub returns-in_err-rename-in-Current-2-clause-begun : goal.returns-in_err-rename-in-Current-2-clause-begun
returns-in_err-rename-in-Current-2-clause-begun g c t =
    let first = goes_on t [] (One, OneOld) (g.W.Work.state c.args.work.now).folder (g.W.Work.state c.args.work.now) (g.W.Work.state c.rename.new.self) _ refl c.in_ok-rename-in-Current.ensures.renames in
    subst (λ (p : Pair). AreBegun (back_renames p) (g.W.Work.state c.args.work.now).folder (g.W.Work.state c.rename-in-Current.new.self).folder) (sym c.in-Current.is)
    (stops_at t ((One, OneOld) ∷ []) (Two, TwoOld) [] (g.W.Work.state c.args.work.now).folder (g.W.Work.state c.rename.new.self) (g.W.Work.state c.rename-in-Current.new.self) first c.in_err-rename-in-Current-2.ensures.renames)

pub returns-in_ok-rename-in-Current-2-clause-begun : goal.returns-in_ok-rename-in-Current-2-clause-begun
returns-in_ok-rename-in-Current-2-clause-begun g c t =
    let first = goes_on t [] (One, OneOld) (g.W.Work.state c.args.work.now).folder (g.W.Work.state c.args.work.now) (g.W.Work.state c.rename.new.self) _ refl c.in_ok-rename-in-Current.ensures.renames in
    let second = goes_on t ((One, OneOld) ∷ []) (Two, TwoOld) (g.W.Work.state c.args.work.now).folder (g.W.Work.state c.rename.new.self) (g.W.Work.state c.rename-in-Current.new.self) _ first c.in_ok-rename-in-Current-2.ensures.renames in
    subst (λ (p : Pair). AreBegun (back_renames p) (g.W.Work.state c.args.work.now).folder (g.W.Work.state c.rename-in-Current.new.self).folder) (sym c.in-Current.is)
    (record { done = (One, OneOld) ∷ (Two, TwoOld) ∷ []; left = []; all = refl; folder = second })

pub returns-in_ok-rename-in-Current-2-clause-done : goal.returns-in_ok-rename-in-Current-2-clause-done
returns-in_ok-rename-in-Current-2-clause-done g c t =
    let first = goes_on t [] (One, OneOld) (g.W.Work.state c.args.work.now).folder (g.W.Work.state c.args.work.now) (g.W.Work.state c.rename.new.self) _ refl c.in_ok-rename-in-Current.ensures.renames in
    let second = goes_on t ((One, OneOld) ∷ []) (Two, TwoOld) (g.W.Work.state c.args.work.now).folder (g.W.Work.state c.rename.new.self) (g.W.Work.state c.rename-in-Current.new.self) _ first c.in_ok-rename-in-Current-2.ensures.renames in
    subst (λ (p : Pair). (g.W.Work.state c.rename-in-Current.new.self).folder ≡ after_renames (back_renames p) (g.W.Work.state c.args.work.now).folder) (sym c.in-Current.is) second

pub returns-in_err-rename-in-Mixed-clause-begun : goal.returns-in_err-rename-in-Mixed-clause-begun
returns-in_err-rename-in-Mixed-clause-begun g c t =
    subst (λ (p : Pair). AreBegun (back_renames p) (g.W.Work.state c.args.work.now).folder (g.W.Work.state c.rename-in-Mixed.new.self).folder) (sym c.in-Mixed.is)
    (stops_at t [] (Two, TwoOld) [] (g.W.Work.state c.args.work.now).folder (g.W.Work.state c.args.work.now) (g.W.Work.state c.rename-in-Mixed.new.self) refl c.in_err-rename-in-Mixed.ensures.renames)

pub returns-in_ok-rename-in-Mixed-clause-begun : goal.returns-in_ok-rename-in-Mixed-clause-begun
returns-in_ok-rename-in-Mixed-clause-begun g c t =
    let first = goes_on t [] (Two, TwoOld) (g.W.Work.state c.args.work.now).folder (g.W.Work.state c.args.work.now) (g.W.Work.state c.rename-in-Mixed.new.self) _ refl c.in_ok-rename-in-Mixed.ensures.renames in
    subst (λ (p : Pair). AreBegun (back_renames p) (g.W.Work.state c.args.work.now).folder (g.W.Work.state c.rename-in-Mixed.new.self).folder) (sym c.in-Mixed.is)
    (record { done = (Two, TwoOld) ∷ []; left = []; all = refl; folder = first })

pub returns-in_ok-rename-in-Mixed-clause-done : goal.returns-in_ok-rename-in-Mixed-clause-done
returns-in_ok-rename-in-Mixed-clause-done g c t =
    let first = goes_on t [] (Two, TwoOld) (g.W.Work.state c.args.work.now).folder (g.W.Work.state c.args.work.now) (g.W.Work.state c.rename-in-Mixed.new.self) _ refl c.in_ok-rename-in-Mixed.ensures.renames in
    subst (λ (p : Pair). (g.W.Work.state c.rename-in-Mixed.new.self).folder ≡ after_renames (back_renames p) (g.W.Work.state c.args.work.now).folder) (sym c.in-Mixed.is) first
