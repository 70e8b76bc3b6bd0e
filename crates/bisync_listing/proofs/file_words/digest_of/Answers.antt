use Rattle.std.proofs.Common.{[], ◌++◌, refl, arith, codes}
use Rattle.bisync_listing.specs.Spelling.{digest_text}
use Rattle.bisync_listing.proofs.FieldLaws.{Lacks-digest}
use Rattle.bisync_listing.proofs.PartLaws.{no_word, same_word}
use Rattle.bisync_listing.proofs.file_words.digest_of.Goals as goal

pub returns-in_err-digest-clause-none : goal.returns-in_err-digest-clause-none
returns-in_err-digest-clause-none c = rw c.from_residual.ensures (λ hash rest is e.
    no_word [] c.args.text.now c.args.text.now (digest_text hash) (codes "- " ++ rest) refl c.in_err-digest.ensures.none e)

pub returns-in_err-rest-clause-none : goal.returns-in_err-rest-clause-none
returns-in_err-rest-clause-none c = rw c.from_residual-in_err-rest.ensures (λ hash rest is e.
    let w = c.in_ok-digest.ensures.found in
    let same = same_word [] c.args.text.now c.in_ok-digest.digest.now c.in_ok-digest.more.now (digest_text hash) (codes "- " ++ rest) w.0 w.1 (Lacks-digest 32 hash (omega arith)) e in
    c.in_err-rest.ensures.none rest same.1)

pub returns-in_err-read_digest-clause-none : goal.returns-in_err-read_digest-clause-none
returns-in_err-read_digest-clause-none c = rw c.from_residual-in_err-read_digest.ensures (λ hash rest is e.
    let w = c.in_ok-digest.ensures.found in
    let same = same_word [] c.args.text.now c.in_ok-digest.digest.now c.in_ok-digest.more.now (digest_text hash) (codes "- " ++ rest) w.0 w.1 (Lacks-digest 32 hash (omega arith)) e in
    c.in_err-read_digest.ensures.none hash is same.0)
