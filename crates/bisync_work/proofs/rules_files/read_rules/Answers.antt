use Rattle.std.proofs.Common.{List, ℕ, subst, sym, ap, ◌∙◌}
use Rattle.md5.specs.Md5.{md5}
use Rattle.bisync_filter.specs.declared.faults.RuleFault.{RuleFault}
use Rattle.bisync_filter.specs.Spelling.{IsFaultOf}
use Rattle.bisync_work.specs.RulesFiles.{BeginsWith}
use Rattle.bisync_work.proofs.RulesFileLaws.{rules_in_file, bad_rule_in_file}
use Rattle.bisync_work.proofs.rules_files.read_rules.Goals as goal

pub returns-in-Ok-clause-rules : goal.returns-in-Ok-clause-rules
returns-in-Ok-clause-rules g c t =
    let begins = subst (λ (l : List ℕ). BeginsWith l (g.W.Work.state c.args.work.now).folder.filters) (sym c.deref.ensures.value) (c.in_ok-text.ensures.text t) in
    rules_in_file c.in-Ok.rules c.digest.result c.deref.result.now _ begins c.in-Ok.ensures.rules c.in-Ok.ensures.only_rules (c.digest.ensures ∙ ap md5 (sym c.deref.ensures.value))

pub returns-in-Err-BadLine-clause-fault : goal.returns-in-Err-BadLine-clause-fault
returns-in-Err-BadLine-clause-fault g c t =
    let begins = subst (λ (l : List ℕ). BeginsWith l (g.W.Work.state c.args.work.now).folder.filters) (sym c.deref.ensures.value) (c.in_ok-text.ensures.text t) in
    let bad = subst (λ (fault : RuleFault). IsFaultOf fault c.deref.result.now) c.in-Err-BadLine.field-0-is c.in-Err-BadLine.ensures.fault in
    bad_rule_in_file c.in-Err-BadLine.line c.deref.result.now _ begins bad
