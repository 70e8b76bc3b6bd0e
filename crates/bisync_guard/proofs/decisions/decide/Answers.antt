use Rattle.std.proofs.Common.{◌≡◌, sym, ◌∙◌, ap}
use Rattle.std.specs.Option.{option_or}
use Rattle.bisync_tree.specs.declared.sides.Side.TheVariants.{One, Two}
use Rattle.bisync_guard.specs.Order.{check_access, empty_current, too_many_deletes, all_changed}
use Rattle.bisync_guard.specs.CheckFiles.{check_files, missing_file}
use Rattle.bisync_guard.specs.Tally.{guard_of}
use Rattle.bisync_guard.proofs.Seeing.{at_some}
use Rattle.bisync_guard.proofs.Counting.{deletes_of, changes_of}
use Rattle.bisync_guard.proofs.FirstOf.{first_of_seven}
use Rattle.bisync_guard.proofs.decisions.decide.Goals as goal
use Rattle.bisync_guard.proofs.decisions.decide.Goals.{in-Some+in_ok-access-in-Some, in-None}

pub returns-clause-found : goal.returns-clause-found
returns-clause-found c =
    let g = c.args.guards.now in
    let k = c.args.compare.now in
    let v = c.args.view.now in
    let access : c.match-guards.access ≡ check_access g.check v.now1 v.now2
    = elim c.match-guards.branch [
      | in-Some+in_ok-access-in-Some w ↦
          w.access-is ∙ w.in_ok-access-in-Some.ensures.found
          ∙ at_some _ (λ name. guard_of c.of-tally.result.access ≡ missing_file v.now1 v.now2 (check_files name v.now1 v.now2)) w.in-Some.field-0 (c.as_ref.ensures.value ∙ w.in-Some.is) c.of-tally.ensures.access
          ∙ sym (ap (λ check. check_access check v.now1 v.now2) w.in-Some.is)
      | in-None w ↦ w.access-is ∙ sym (ap (λ check. check_access check v.now1 v.now2) w.in-None.is)
    ] in
    let deletes1 = c.too_many_deletes.ensures ∙ deletes_of g k One v.base1 v.now1 _ c.of-tally.ensures.one in
    let deletes2 = c.too_many_deletes-2.ensures ∙ deletes_of g k Two v.base2 v.now2 _ c.of-tally.ensures.two in
    let changes1 = c.all_changed.ensures ∙ changes_of g k One v.base1 v.now1 _ c.of-tally.ensures.one in
    let changes2 = c.all_changed-2.ensures ∙ changes_of g k Two v.base2 v.now2 _ c.of-tally.ensures.two in
    c.or-6.ensures ∙ (λ i. option_or
    ((c.or-5.ensures ∙ (λ i. option_or
    ((c.or-4.ensures ∙ (λ i. option_or
    ((c.or-3.ensures ∙ (λ i. option_or
    ((c.or-2.ensures ∙ (λ i. option_or
    ((c.or.ensures ∙ (λ i. option_or (access i) (c.empty_current.ensures i))) i)
    (c.empty_current-2.ensures i))) i)
    (deletes1 i))) i)
    (deletes2 i))) i)
    (changes1 i))) i)
    (changes2 i))
    ∙ first_of_seven (check_access g.check v.now1 v.now2) (empty_current One v.now1) (empty_current Two v.now2)
    (too_many_deletes g k One v.base1 v.now1) (too_many_deletes g k Two v.base2 v.now2) (all_changed g k One v.base1 v.now1) (all_changed g k Two v.base2 v.now2)
