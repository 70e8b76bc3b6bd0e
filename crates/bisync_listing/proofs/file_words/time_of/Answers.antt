use Rattle.std.proofs.Common.{[], refl, arith}
use Rattle.bisync_text.specs.Time.{time_spelling}
use Rattle.bisync_listing.proofs.FieldLaws.{Lacks-time}
use Rattle.bisync_listing.proofs.PartLaws.{no_word, same_word, some_none}
use Rattle.bisync_listing.proofs.file_words.time_of.Goals as goal

pub returns-in_err-time-clause-none : goal.returns-in_err-time-clause-none
returns-in_err-time-clause-none c = rw c.from_residual.ensures (λ time rest fits e.
    no_word [] c.args.text.now c.args.text.now (time_spelling time) rest refl c.in_err-time.ensures.none e)

pub returns-in_err-read_time-clause-none : goal.returns-in_err-read_time-clause-none
returns-in_err-read_time-clause-none c = rw c.from_residual-in_err-read_time.ensures (λ time rest fits e.
    let w = c.in_ok-time.ensures.found in
    let same = same_word [] c.args.text.now c.in_ok-time.time.now c.in_ok-time.rest.now (time_spelling time) rest w.0 w.1 (Lacks-time 32 time (omega arith)) e in
    some_none c.read_time.result time c.in_err-read_time.was (c.read_time.ensures.exact time fits same.0))
