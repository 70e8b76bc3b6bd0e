use Rattle.std.proofs.Common.{codes, ◌++◌, ◌∷◌, sym, ◌∙◌}
use Rattle.bisync_text.specs.Time.{time_spelling}
use Rattle.bisync_listing.specs.Spelling.{digest_text}
use Rattle.bisync_listing.proofs.LineLaws.{append_cancel}
use Rattle.bisync_listing.proofs.FieldLaws.{decimal_apart, digest_apart}
use Rattle.bisync_listing.proofs.file_words.file_words.Goals as goal

pub returns-in_err-hash-clause-none : goal.returns-in_err-hash-clause-none
returns-in_err-hash-clause-none c = rw c.from_residual-in_err-hash.ensures (λ size hash time quoted small digest fits e.
    let found = c.in_ok-size.ensures.found in
    let a = decimal_apart c.in_ok-size.size size c.in_ok-size.rest.now (digest_text hash ++ (codes " - " ++ (time_spelling time ++ (32 ∷ quoted)))) found.0 small (append_cancel (codes "- ") _ _ (sym found.1 ∙ e)) in
    c.in_err-hash.ensures.none hash (time_spelling time ++ (32 ∷ quoted)) digest a.1)

pub returns-in_err-time-clause-none : goal.returns-in_err-time-clause-none
returns-in_err-time-clause-none c = rw c.from_residual-in_err-time.ensures (λ size hash time quoted small digest fits e.
    let found = c.in_ok-size.ensures.found in
    let a = decimal_apart c.in_ok-size.size size c.in_ok-size.rest.now (digest_text hash ++ (codes " - " ++ (time_spelling time ++ (32 ∷ quoted)))) found.0 small (append_cancel (codes "- ") _ _ (sym found.1 ∙ e)) in
    let other = c.in_ok-hash.ensures.found in
    let b = digest_apart c.in_ok-hash.hash hash (codes "- " ++ c.in_ok-hash.rest.now) (codes "- " ++ (time_spelling time ++ (32 ∷ quoted))) other.0 digest (sym other.1 ∙ a.1) in
    c.in_err-time.ensures.none time quoted fits (append_cancel (codes "- ") _ _ b.1))
