-- The cause of a run's end, from its parts.
use Rattle.std.proofs.Common.{◌≡◌, ◌⊎◌, ◌≤◌, ℕ, true, false, refl, sym, ◌∙◌, ap, subst, inl, inr, arith, Result, Ok, Err}
use Rattle.std.specs.Prelude.{IfOk, IfErr, IsOk}
use Rattle.bisync_device.specs.Faults.{Rose}
use Rattle.bisync_report.specs.declared.ends.End.{End}
use Rattle.bisync_report.specs.declared.ends.End.TheVariants.{RemoteFault, SinkFault}
use Rattle.bisync_run.specs.Counts.{Counts, counts, Later, Stops, HasCauses, Ends, IsCaused, RemotesStand}
use Rattle.bisync_tree.specs.declared.sides.Side.TheVariants.{One, Two}
use Rattle.bisync_run.specs.EndKinds.{is_good, is_after_good}
use Rattle.bisync_run.specs.Closing.{ClosesWith, CountsClose, EndsWith}
use Rattle.bisync_run.proofs.CauseLaws.{stand_of, stand_past}
use Rattle.bisync_run.proofs.EndLaws.{rose_within, rose_since, le_same, stops_later, stops_ends, stops_not_good, stops_not_after_good, good_ends, ends_good, ends_told}

-- what a close answers has its cause, where what it closed has
pub closed_ends : (old : Counts) (a b w s w2 : ℕ) (ended : Result End End) (closed : End) → IfOk ended (λ end. is_good end ≡ true) → HasCauses old (counts a b w s) ended
    → ClosesWith ended closed → CountsClose ended closed w w2 → Ends old (counts a b w2 s) closed
closed_ends old a b w s w2 (Ok end) closed good causes is (inl stays) =
    subst (Ends old (counts a b w2 s)) (sym stays.0) (good_ends old (counts a b w2 s) end good (ap (λ (x : ℕ). counts a b x s) stays.1 ∙ causes.good refl))
closed_ends old a b w s w2 (Ok end) closed good causes is (inr left) =
    let stays = causes.good refl in
    subst (Ends old (counts a b w2 s)) (sym left.0) (rose_within _ _ _ _ causes.later.work (le_same w2) left.1, ap Counts.one stays, ap Counts.two stays)
closed_ends old a b w s w2 (Err end) closed good causes is more =
    let later : Later (counts a b w s) (counts a b w2 s) = record { one = le_same a; two = le_same b; work = more; sink = le_same s } in
    subst (Ends old (counts a b w2 s)) (sym is) (stops_ends old (counts a b w2 s) end (stops_later old (counts a b w s) (counts a b w2 s) end causes.fault later))

module _ (old : Counts) (a b w s s2 : ℕ) (closed last : End) (ends : Ends old (counts a b w s) closed) (later : s ≤ s2) where
  told_same : (is_good last ≡ true → s2 ≡ s) → last ≡ closed → Ends old (counts a b w s2) last
  told_same kept same = ends_told old a b w s s2 last (subst (Ends old (counts a b w s)) (sym same) ends) later kept

  told_lost : is_good closed ≡ true → last ≡ SinkFault true → (last ≡ closed) ⊎ Rose s s2 → Ends old (counts a b w s2) last
  told_lost good lost (inl same) = let unlike : is_good closed ≡ false = ap is_good (sym same ∙ lost) in absurd cc
  told_lost good lost (inr rose) =
      let stays = ends_good old (counts a b w s) closed good ends in
      let start : Counts.sink old ≤ s = omega (arith, ap Counts.sink stays) in
      subst (Ends old (counts a b w s2)) (sym lost) (rose_since _ _ _ rose start, ap Counts.one stays, ap Counts.two stays, ap Counts.work stays)

  -- what a run tells has its cause, where the end before its last line has
  pub told_ends : EndsWith closed last → (is_good last ≡ true → s2 ≡ s) → (is_good closed ≡ true → (last ≡ closed) ⊎ Rose s s2) → Ends old (counts a b w s2) last
  told_ends (inl same) kept failed = told_same kept same
  told_ends (inr lost) kept failed = told_lost lost.0 lost.1 (failed lost.0)

-- so has a run that held the lock
pub run_ends : (old : Counts) (a b w s w2 s2 : ℕ) (ended : Result End End) (closed last : End) → IfOk ended (λ end. is_good end ≡ true) → HasCauses old (counts a b w s) ended
    → ClosesWith ended closed → CountsClose ended closed w w2 → s ≤ s2 → EndsWith closed last → (is_good last ≡ true → s2 ≡ s)
    → (is_good closed ≡ true → (last ≡ closed) ⊎ Rose s s2) → Ends old (counts a b w2 s2) last
run_ends old a b w s w2 s2 ended closed last good causes is close later told kept failed =
    told_ends old a b w2 s s2 closed last (closed_ends old a b w s w2 ended closed good causes is close) later told kept failed

-- # The remotes' counts

good_stands : (old new : Counts) (end : End) → is_good end ≡ true → RemotesStand old new end → (new.one ≡ old.one) × (new.two ≡ old.two)
good_stands old new (RemoteFault One) good x = absurd cc
good_stands old new (RemoteFault Two) good x = absurd cc
good_stands old new end good x = x

-- what a close answers, where what it closed did
pub closed_stand : (a b w s a2 b2 w2 w3 s2 : ℕ) (ended : Result End End) (closed : End) → HasCauses (counts a b w s) (counts a2 b2 w2 s2) ended → ClosesWith ended closed
    → RemotesStand (counts a b w s) (counts a2 b2 w3 s2) closed
closed_stand a b w s a2 b2 w2 w3 s2 (Ok end) closed causes is =
    let stays = causes.good refl in
    stand_of (counts a b w s) (counts a2 b2 w3 s2) closed (ap Counts.one stays) (ap Counts.two stays)
closed_stand a b w s a2 b2 w2 w3 s2 (Err end) closed causes same =
    subst (RemotesStand (counts a b w s) (counts a2 b2 w3 s2)) (sym same) (stand_past a b w s a2 b2 w2 s2 w s w3 s2 end causes.remotes)

-- what a run tells, where the end before its last line did
pub told_stand : (a b w s a2 b2 w2 s2 s3 : ℕ) (closed last : End) → RemotesStand (counts a b w s) (counts a2 b2 w2 s2) closed → EndsWith closed last → RemotesStand (counts a b w s) (counts a2 b2 w2 s3) last
told_stand a b w s a2 b2 w2 s2 s3 closed last x (inl same) =
    subst (RemotesStand (counts a b w s) (counts a2 b2 w2 s3)) (sym same) (stand_past a b w s a2 b2 w2 s2 w s w2 s3 closed x)
told_stand a b w s a2 b2 w2 s2 s3 closed last x (inr lost) =
    let stays = good_stands (counts a b w s) (counts a2 b2 w2 s2) closed lost.0 x in
    stand_of (counts a b w s) (counts a2 b2 w2 s3) last stays.0 stays.1

-- # Both

-- a run that held the lock, when it is closed
pub caused_closed : (a b w s w2 a2 b2 w3 s2 w4 : ℕ) (ended : Result End End) (closed : End) → w2 ≡ w → IfOk ended (λ end. is_good end ≡ true) → HasCauses (counts a b w2 s) (counts a2 b2 w3 s2) ended
    → ClosesWith ended closed → CountsClose ended closed w3 w4 → IsCaused (counts a b w s) (counts a2 b2 w4 s2) closed
caused_closed a b w s w2 a2 b2 w3 s2 w4 ended closed entered good causes is close =
    let from = subst (λ (n : ℕ). HasCauses (counts a b n s) (counts a2 b2 w3 s2) ended) entered causes in
    (closed_ends (counts a b w s) a2 b2 w3 s2 w4 ended closed good from is close, closed_stand a b w s a2 b2 w3 w4 s2 ended closed from is)

-- and when its last line is told
pub caused_told : (a b w s a2 b2 w2 s2 s3 : ℕ) (closed last : End) → IsCaused (counts a b w s) (counts a2 b2 w2 s2) closed → s2 ≤ s3 → EndsWith closed last → (is_good last ≡ true → s3 ≡ s2)
    → (is_good closed ≡ true → (last ≡ closed) ⊎ Rose s2 s3) → IsCaused (counts a b w s) (counts a2 b2 w2 s3) last
caused_told a b w s a2 b2 w2 s2 s3 closed last caused later told kept failed = (
  told_ends (counts a b w s) a2 b2 w2 s2 s3 closed last caused.0 later told kept failed,
  told_stand a b w s a2 b2 w2 s2 s3 closed last caused.1 told,
)

-- # A good end comes after Ok alone

pub good_was_ok : (old mid : Counts) (ended : Result End End) (closed : End) → IfErr ended (Stops old mid) → ClosesWith ended closed → is_good closed ≡ true → IsOk ended
good_was_ok old mid (Ok end) closed stops is good = refl
good_was_ok old mid (Err end) closed stops is good = absurd (stops_not_good old mid end stops (ap is_good (sym is) ∙ good))

pub after_good_was_ok : (old mid : Counts) (ended : Result End End) (closed : End) → IfErr ended (Stops old mid) → ClosesWith ended closed → is_after_good closed ≡ true → IsOk ended
after_good_was_ok old mid (Ok end) closed stops is good = refl
after_good_was_ok old mid (Err end) closed stops is good = absurd (stops_not_after_good old mid end stops (ap is_after_good (sym is) ∙ good))
