use Rattle.bisync_device.specs.declared.works.WorkName.TheVariants.{One, OneOld, OneErr, Two, TwoOld, TwoErr}
use Rattle.bisync_work.specs.Moves.{Falls}
use Rattle.std.proofs.Common.{refl, [], ◌∷◌}
use Rattle.bisync_work.proofs.RenameLaws.{worked, failed}
use Rattle.bisync_work.proofs.RenamesBegun.{goes_on, stops_at}
use Rattle.bisync_work.proofs.FallLaws.{falls_refl, fell_one_old, fell_one, fell_two_old, fell_two, fallen}
use Rattle.bisync_work.proofs.moves.fall.Goals as goal

pub returns-in_err-rename-clause-falls : goal.returns-in_err-rename-clause-falls
returns-in_err-rename-clause-falls g c t =
    failed (Falls (g.W.Work.state c.args.work.now).folder) t OneOld OneErr (g.W.Work.state c.args.work.now) (g.W.Work.state c.rename.new.self) (falls_refl _) (fell_one_old refl) c.in_err-rename.ensures.renames

pub returns-in_err-rename-2-clause-falls : goal.returns-in_err-rename-2-clause-falls
returns-in_err-rename-2-clause-falls g c t =
    let one = worked t OneOld OneErr (g.W.Work.state c.args.work.now) (g.W.Work.state c.rename.new.self) _ c.in_ok-rename.ensures.renames in
    failed (Falls (g.W.Work.state c.args.work.now).folder) t One OneErr (g.W.Work.state c.rename.new.self) (g.W.Work.state c.rename-2.new.self) (fell_one_old one) (fell_one one refl) c.in_err-rename-2.ensures.renames

pub returns-in_err-rename-3-clause-falls : goal.returns-in_err-rename-3-clause-falls
returns-in_err-rename-3-clause-falls g c t =
    let one = worked t OneOld OneErr (g.W.Work.state c.args.work.now) (g.W.Work.state c.rename.new.self) _ c.in_ok-rename.ensures.renames in
    let two = worked t One OneErr (g.W.Work.state c.rename.new.self) (g.W.Work.state c.rename-2.new.self) _ c.in_ok-rename-2.ensures.renames in
    failed (Falls (g.W.Work.state c.args.work.now).folder) t TwoOld TwoErr (g.W.Work.state c.rename-2.new.self) (g.W.Work.state c.rename-3.new.self) (fell_one one two) (fell_two_old one two refl) c.in_err-rename-3.ensures.renames

pub returns-in_err-rename-4-clause-falls : goal.returns-in_err-rename-4-clause-falls
returns-in_err-rename-4-clause-falls g c t =
    let one = worked t OneOld OneErr (g.W.Work.state c.args.work.now) (g.W.Work.state c.rename.new.self) _ c.in_ok-rename.ensures.renames in
    let two = worked t One OneErr (g.W.Work.state c.rename.new.self) (g.W.Work.state c.rename-2.new.self) _ c.in_ok-rename-2.ensures.renames in
    let three = worked t TwoOld TwoErr (g.W.Work.state c.rename-2.new.self) (g.W.Work.state c.rename-3.new.self) _ c.in_ok-rename-3.ensures.renames in
    failed (Falls (g.W.Work.state c.args.work.now).folder) t Two TwoErr (g.W.Work.state c.rename-3.new.self) (g.W.Work.state c.rename-4.new.self) (fell_two_old one two three) (fell_two one two three refl) c.in_err-rename-4.ensures.renames

pub returns-clause-falls : goal.returns-clause-falls
returns-clause-falls g c t =
    let one = worked t OneOld OneErr (g.W.Work.state c.args.work.now) (g.W.Work.state c.rename.new.self) _ c.in_ok-rename.ensures.renames in
    let two = worked t One OneErr (g.W.Work.state c.rename.new.self) (g.W.Work.state c.rename-2.new.self) _ c.in_ok-rename-2.ensures.renames in
    let three = worked t TwoOld TwoErr (g.W.Work.state c.rename-2.new.self) (g.W.Work.state c.rename-3.new.self) _ c.in_ok-rename-3.ensures.renames in
    let four = worked t Two TwoErr (g.W.Work.state c.rename-3.new.self) (g.W.Work.state c.rename-4.new.self) _ c.in_ok-rename-4.ensures.renames in
    fell_two one two three four

pub returns-clause-fallen : goal.returns-clause-fallen
returns-clause-fallen g c t =
    let one = worked t OneOld OneErr (g.W.Work.state c.args.work.now) (g.W.Work.state c.rename.new.self) _ c.in_ok-rename.ensures.renames in
    let two = worked t One OneErr (g.W.Work.state c.rename.new.self) (g.W.Work.state c.rename-2.new.self) _ c.in_ok-rename-2.ensures.renames in
    let three = worked t TwoOld TwoErr (g.W.Work.state c.rename-2.new.self) (g.W.Work.state c.rename-3.new.self) _ c.in_ok-rename-3.ensures.renames in
    let four = worked t Two TwoErr (g.W.Work.state c.rename-3.new.self) (g.W.Work.state c.rename-4.new.self) _ c.in_ok-rename-4.ensures.renames in
    fallen one two three four

pub returns-in_err-rename-clause-begun : goal.returns-in_err-rename-clause-begun
returns-in_err-rename-clause-begun g c t =
    stops_at t ([]) (OneOld, OneErr) ((One, OneErr) ∷ (TwoOld, TwoErr) ∷ (Two, TwoErr) ∷ []) (g.W.Work.state c.args.work.now).folder (g.W.Work.state c.args.work.now) (g.W.Work.state c.rename.new.self) refl c.in_err-rename.ensures.renames

pub returns-in_err-rename-2-clause-begun : goal.returns-in_err-rename-2-clause-begun
returns-in_err-rename-2-clause-begun g c t =
    let first = goes_on t ([]) (OneOld, OneErr) (g.W.Work.state c.args.work.now).folder (g.W.Work.state c.args.work.now) (g.W.Work.state c.rename.new.self) _ refl c.in_ok-rename.ensures.renames in
    stops_at t ((OneOld, OneErr) ∷ []) (One, OneErr) ((TwoOld, TwoErr) ∷ (Two, TwoErr) ∷ []) (g.W.Work.state c.args.work.now).folder (g.W.Work.state c.rename.new.self) (g.W.Work.state c.rename-2.new.self) first c.in_err-rename-2.ensures.renames

pub returns-in_err-rename-3-clause-begun : goal.returns-in_err-rename-3-clause-begun
returns-in_err-rename-3-clause-begun g c t =
    let first = goes_on t ([]) (OneOld, OneErr) (g.W.Work.state c.args.work.now).folder (g.W.Work.state c.args.work.now) (g.W.Work.state c.rename.new.self) _ refl c.in_ok-rename.ensures.renames in
    let second = goes_on t ((OneOld, OneErr) ∷ []) (One, OneErr) (g.W.Work.state c.args.work.now).folder (g.W.Work.state c.rename.new.self) (g.W.Work.state c.rename-2.new.self) _ first c.in_ok-rename-2.ensures.renames in
    stops_at t ((OneOld, OneErr) ∷ (One, OneErr) ∷ []) (TwoOld, TwoErr) ((Two, TwoErr) ∷ []) (g.W.Work.state c.args.work.now).folder (g.W.Work.state c.rename-2.new.self) (g.W.Work.state c.rename-3.new.self) second c.in_err-rename-3.ensures.renames

pub returns-in_err-rename-4-clause-begun : goal.returns-in_err-rename-4-clause-begun
returns-in_err-rename-4-clause-begun g c t =
    let first = goes_on t ([]) (OneOld, OneErr) (g.W.Work.state c.args.work.now).folder (g.W.Work.state c.args.work.now) (g.W.Work.state c.rename.new.self) _ refl c.in_ok-rename.ensures.renames in
    let second = goes_on t ((OneOld, OneErr) ∷ []) (One, OneErr) (g.W.Work.state c.args.work.now).folder (g.W.Work.state c.rename.new.self) (g.W.Work.state c.rename-2.new.self) _ first c.in_ok-rename-2.ensures.renames in
    let third = goes_on t ((OneOld, OneErr) ∷ (One, OneErr) ∷ []) (TwoOld, TwoErr) (g.W.Work.state c.args.work.now).folder (g.W.Work.state c.rename-2.new.self) (g.W.Work.state c.rename-3.new.self) _ second c.in_ok-rename-3.ensures.renames in
    stops_at t ((OneOld, OneErr) ∷ (One, OneErr) ∷ (TwoOld, TwoErr) ∷ []) (Two, TwoErr) ([]) (g.W.Work.state c.args.work.now).folder (g.W.Work.state c.rename-3.new.self) (g.W.Work.state c.rename-4.new.self) third c.in_err-rename-4.ensures.renames

pub returns-clause-begun : goal.returns-clause-begun
returns-clause-begun g c t =
    let first = goes_on t ([]) (OneOld, OneErr) (g.W.Work.state c.args.work.now).folder (g.W.Work.state c.args.work.now) (g.W.Work.state c.rename.new.self) _ refl c.in_ok-rename.ensures.renames in
    let second = goes_on t ((OneOld, OneErr) ∷ []) (One, OneErr) (g.W.Work.state c.args.work.now).folder (g.W.Work.state c.rename.new.self) (g.W.Work.state c.rename-2.new.self) _ first c.in_ok-rename-2.ensures.renames in
    let third = goes_on t ((OneOld, OneErr) ∷ (One, OneErr) ∷ []) (TwoOld, TwoErr) (g.W.Work.state c.args.work.now).folder (g.W.Work.state c.rename-2.new.self) (g.W.Work.state c.rename-3.new.self) _ second c.in_ok-rename-3.ensures.renames in
    let fourth = goes_on t ((OneOld, OneErr) ∷ (One, OneErr) ∷ (TwoOld, TwoErr) ∷ []) (Two, TwoErr) (g.W.Work.state c.args.work.now).folder (g.W.Work.state c.rename-3.new.self) (g.W.Work.state c.rename-4.new.self) _ third c.in_ok-rename-4.ensures.renames in
    record { done = (OneOld, OneErr) ∷ (One, OneErr) ∷ (TwoOld, TwoErr) ∷ (Two, TwoErr) ∷ []; left = []; all = refl; folder = fourth }

pub returns-clause-done : goal.returns-clause-done
returns-clause-done g c t =
    let first = goes_on t ([]) (OneOld, OneErr) (g.W.Work.state c.args.work.now).folder (g.W.Work.state c.args.work.now) (g.W.Work.state c.rename.new.self) _ refl c.in_ok-rename.ensures.renames in
    let second = goes_on t ((OneOld, OneErr) ∷ []) (One, OneErr) (g.W.Work.state c.args.work.now).folder (g.W.Work.state c.rename.new.self) (g.W.Work.state c.rename-2.new.self) _ first c.in_ok-rename-2.ensures.renames in
    let third = goes_on t ((OneOld, OneErr) ∷ (One, OneErr) ∷ []) (TwoOld, TwoErr) (g.W.Work.state c.args.work.now).folder (g.W.Work.state c.rename-2.new.self) (g.W.Work.state c.rename-3.new.self) _ second c.in_ok-rename-3.ensures.renames in
    let fourth = goes_on t ((OneOld, OneErr) ∷ (One, OneErr) ∷ (TwoOld, TwoErr) ∷ []) (Two, TwoErr) (g.W.Work.state c.args.work.now).folder (g.W.Work.state c.rename-3.new.self) (g.W.Work.state c.rename-4.new.self) _ third c.in_ok-rename-4.ensures.renames in
    fourth
