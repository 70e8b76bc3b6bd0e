use Rattle.std.proofs.Common.{Some, None, refl, sym, ◌∙◌, ap}
use Rattle.std.specs.Prelude.{bytes_eq, option_copied}
use Rattle.bisync_tree.specs.Walk.{seen}
use Rattle.bisync_guard.proofs.LastNames.{check_file_is}
use Rattle.bisync_guard.proofs.Seeing.{of_another_name, of_check_file, unlike, alike}
use Rattle.bisync_guard.proofs.access.Access.with.Goals as goal

pub returns-then-ne : goal.returns-then-ne
returns-then-ne c = λ rest.
    of_another_name c.args.name.now c.args.self (seen c.args.cell.now) rest
    (check_file_is c.args.name.now _ _ c.last_part.ensures ∙ ap (bytes_eq c.last_part.result.now) (sym c.as_bytes.ensures) ∙ unlike _ _ c.if-ne.true c.ne.ensures)

pub returns-in_default-Some-Some : goal.returns-in_default-Some-Some
returns-in_default-Some-Some c = λ rest.
    of_check_file c.args.name.now c.args.self (seen c.args.cell.now) rest (Some c.in_default-Some-Some.field-0-1.now) (Some c.in_default-Some-Some.field-0-2.now)
    (check_file_is c.args.name.now _ _ c.last_part.ensures ∙ ap (bytes_eq c.last_part.result.now) (sym c.as_bytes.ensures) ∙ alike _ _ c.if-ne.false c.ne.ensures)
    c.in_default-Some-Some.not-Missing-0 (ap option_copied c.in_default-Some-Some.is-1) (ap option_copied c.in_default-Some-Some.is-2) refl

pub returns-in_default-Some-None : goal.returns-in_default-Some-None
returns-in_default-Some-None c = λ rest.
    of_check_file c.args.name.now c.args.self (seen c.args.cell.now) rest (Some c.in_default-Some-None.field-0-1.now) None
    (check_file_is c.args.name.now _ _ c.last_part.ensures ∙ ap (bytes_eq c.last_part.result.now) (sym c.as_bytes.ensures) ∙ alike _ _ c.if-ne.false c.ne.ensures)
    c.in_default-Some-None.not-Missing-0 (ap option_copied c.in_default-Some-None.is-1) (ap option_copied c.in_default-Some-None.is-2) refl

pub returns-in_default-None-Some : goal.returns-in_default-None-Some
returns-in_default-None-Some c = λ rest.
    of_check_file c.args.name.now c.args.self (seen c.args.cell.now) rest None (Some c.in_default-None-Some.field-0-2.now)
    (check_file_is c.args.name.now _ _ c.last_part.ensures ∙ ap (bytes_eq c.last_part.result.now) (sym c.as_bytes.ensures) ∙ alike _ _ c.if-ne.false c.ne.ensures)
    c.in_default-None-Some.not-Missing-0 (ap option_copied c.in_default-None-Some.is-1) (ap option_copied c.in_default-None-Some.is-2) refl
