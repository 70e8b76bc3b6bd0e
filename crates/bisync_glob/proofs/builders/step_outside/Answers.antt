use Rattle.std.proofs.Common.{refl, inl, inr}
use Rattle.std.proofs.lemmas.Result.{IfOk-weaker}
use Rattle.bisync_glob.proofs.builders.step_outside.Goals as goal

pub returns-in-Escaped-clause-built : goal.returns-in-Escaped-clause-built
returns-in-Escaped-clause-built c =
    IfOk-weaker c.with_plain-in-Escaped.result _ _
    (λ next built tokens fits parts. built tokens c.args.piece (c.args.piece, refl, inl (inr (c.in-Escaped.c, c.in-Escaped.is, refl))) parts)
    c.with_plain-in-Escaped.ensures.built
