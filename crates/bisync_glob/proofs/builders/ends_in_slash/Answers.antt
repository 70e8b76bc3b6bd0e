use Rattle.std.proofs.Common.{◌<◌, ◌-◌, length, sym, ◌∙◌, arith}
use Rattle.bisync_glob.proofs.BraceLaws.{piece_of}
use Rattle.bisync_glob.proofs.BuildingLaws.{ends_so, some_tokens}
use Rattle.bisync_glob.proofs.builders.ends_in_slash.Goals as goal

pub returns-clause-slash : goal.returns-clause-slash
returns-clause-slash c =
    let some : 0 < length c.args.tokens.now = some_tokens c.args.tokens.now (sym c.is_empty.ensures ∙ c.if-is_empty.false) in
    λ h. ends_so c.args.tokens.now _ some (piece_of c.args.tokens.now (length c.args.tokens.now - 1) c.index-tokens-tokens.result (omega arith)) (sym c.is_slash.ensures ∙ h)
