-- One argument after the other, on a command of which it is known what it is.
use Rattle.std.proofs.Common.{◌≡◌, ◌∙◌, ap, refl, true, List, IfOk, Result}
use Rattle.std.proofs.lemmas.Result.{IfOk-weaker}
use Rattle.clap.specs.Walk.{Rule}
use Rattle.clap.specs.Simple.{App, app_of, with_rule}
use Rattle.clap.specs.declared.builder.command.Command.{Command}
use Rattle.clap.specs.Faults.{is_simple_and_free}
use Rattle.bisync_opts.specs.Command.{with_rules, bisync_app, check_app}

-- a command made from one that is known
pub along : (rule : Rule) (made before known : App) → made ≡ with_rule before rule → before ≡ known → made ≡ with_rule known rule
along rule made before known is was = is ∙ ap (λ a. with_rule a rule) was

pub last : {E : Type 0} (rule : Rule) (result : Result Command E) (before known : App)
    → IfOk result (λ c. app_of c ≡ with_rule before rule) → before ≡ known → IfOk result (λ c. app_of c ≡ with_rule known rule)
last rule result before known is was = IfOk-weaker result _ _ (λ c e. along rule (app_of c) before known e was) is

pub all_along : (rules : List Rule) (made before known : App) → made ≡ with_rules before rules → before ≡ known → made ≡ with_rules known rules
all_along rules made before known is was = is ∙ ap (λ a. with_rules a rules) was

pub all_last : {E : Type 0} (rules : List Rule) (result : Result Command E) (before known : App)
    → IfOk result (λ c. app_of c ≡ with_rules before rules) → before ≡ known → IfOk result (λ c. app_of c ≡ with_rules known rules)
all_last rules result before known is was = IfOk-weaker result _ _ (λ c e. all_along rules (app_of c) before known e was) is

-- clap's definitions speak of these commands
pub bisync_is_simple : is_simple_and_free bisync_app ≡ true
unfolding bisync_app
bisync_is_simple = refl

pub check_is_simple : is_simple_and_free check_app ≡ true
unfolding check_app
check_is_simple = refl
