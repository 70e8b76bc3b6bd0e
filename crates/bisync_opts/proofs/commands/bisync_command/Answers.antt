use Rattle.bisync_opts.proofs.CommandLemmas.{all_along, all_last}
use Rattle.bisync_opts.specs.Command.{bisync_app, path_rules, resync_rules, compare_rules, conflict_rules, guard_rules, place_rules, course_rules}
use Rattle.bisync_opts.proofs.commands.bisync_command.Goals as goal

pub returns : goal.returns
unfolding bisync_app
returns c =
    let paths = all_along path_rules _ _ _ c.in_ok-command.ensures c.plain_command.ensures in
    let resync = all_along resync_rules _ _ _ c.in_ok-command-2.ensures paths in
    let compare = all_along compare_rules _ _ _ c.in_ok-command-3.ensures resync in
    let conflict = all_along conflict_rules _ _ _ c.in_ok-command-4.ensures compare in
    let guards = all_along guard_rules _ _ _ c.in_ok-command-5.ensures conflict in
    let places = all_along place_rules _ _ _ c.in_ok-command-6.ensures guards in
    all_last course_rules _ _ _ c.with_course.ensures places
