use Rattle.bisync_glob.specs.Spelling.{NoClass}
use Rattle.bisync_glob.proofs.TokenRuns.{bracket_bad}
use Rattle.bisync_glob.proofs.tokens.read_bracket.Goals as goal

pub returns-in-None : goal.returns-in-None
returns-in-None c =
    let none : NoClass c.args.text.now = rw c.in-None.is at (c.in_ok-class.ensures) in
    bracket_bad c.args.text.now c.requires none
