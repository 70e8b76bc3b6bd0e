-- At most one refusal of a whole run comes, and none where nothing refuses it.
use Rattle.std.proofs.Common.{◌≡◌, ◌<◌, ◌^◌, ◌∙◌, ℕ, ℤ, List, Option, Some, None, ap, refl, sym, subst, inl, inr}
use Rattle.std.specs.Prelude.{IsSome}
use Rattle.md5.specs.Md5.{md5}
use Rattle.bisync_tree.specs.declared.options.Limits.{Limits}
use Rattle.bisync_tree.specs.declared.options.Prefer.{Prefer}
use Rattle.bisync_tree.specs.declared.sides.Side.TheVariants.{One, Two}
use Rattle.bisync_filter.specs.Spelling.{HasFirstBadLine, SpellsRules}
use Rattle.bisync_filter.specs.declared.rule_lists.Rule.{Rule}
use Rattle.bisync_device.specs.WorkFolder.{Absent, Held, WorkFolder, bytes_of}
use Rattle.bisync_opts.specs.declared.options.Opts.{Opts}
use Rattle.bisync_report.specs.declared.ends.End.{End}
use Rattle.bisync_report.specs.declared.ends.End.TheVariants.{NoFilters, BadRule, Locked}
use Rattle.bisync_work.specs.Locks.{IsFree}
use Rattle.bisync_work.specs.RulesFiles.{HasBadRule}
use Rattle.bisync_work.proofs.LockLaws.{free_or_blocking, one_blocking}
use Rattle.bisync_run.specs.FilterRules.{AreRulesOf}
use Rattle.bisync_run.specs.OrdinaryRefusals.{HasNoOrdinaryRefusal, IsOrdinaryRefusal}
use Rattle.bisync_run.specs.ResyncRefusals.{HasNoResyncRefusal, IsResyncRefusal}
use Rattle.bisync_run.specs.ResyncRuns.{Matter, sides_in}
use Rattle.bisync_run.specs.RunRefusals.{IsEntryRefusal, LetsResync, LetsRun, RefusesResync, RefusesRun}
use Rattle.bisync_run.specs.Sides.{Sides, sides_of}
use Rattle.bisync_run.specs.Untouched.{Remotes}
use Rattle.bisync_run.proofs.OrdinaryRefusalLaws.{run_not_refused, run_refusals_same}
use Rattle.bisync_run.proofs.RefusalLaws.{none_refused, refusals_same}

-- # The rules of a filters file are one

text_same : (filters : Held) (a b : List ℕ) → bytes_of filters ≡ Some a → bytes_of filters ≡ Some b → a ≡ b
text_same filters a b x y = cc

no_text : (filters : Held) (text : List ℕ) → filters ≡ Absent → bytes_of filters ≡ Some text → ⊥
no_text filters text none there = let e : None ≡ Some text = sym (ap bytes_of none) ∙ there in cc

rules_are_one : (name : Option (List ℕ)) (filters : Held) (r q : List Rule) (d e : Option (List ℕ)) → AreRulesOf name filters r d → AreRulesOf name filters q e → r ≡ q
rules_are_one None filters r q d e x y = x.0 ∙ sym y.0
rules_are_one (Some n) filters r q d e x y =
    let same = text_same filters x.2.text y.2.text x.2.there y.2.there in
    y.2.only.0 r (subst (λ (t : List ℕ). SpellsRules r t) same x.2.spelled)

digests_are_one : (name : Option (List ℕ)) (filters : Held) (r q : List Rule) (d e : Option (List ℕ)) → AreRulesOf name filters r d → AreRulesOf name filters q e → d ≡ e
digests_are_one None filters r q d e x y = x.1 ∙ sym y.1
digests_are_one (Some n) filters r q d e x y =
    let same = text_same filters x.2.text y.2.text x.2.there y.2.there in
    x.1 ∙ ap (λ (h : List ℕ). Some h) (x.2.hashed ∙ ap md5 same ∙ sym y.2.hashed) ∙ sym y.1

-- what holds by one reading of the rules holds by the other
by_rules : {opts : Opts} {f : WorkFolder} {start : Remotes} (P : Sides → Option (List ℕ) → Type 0) (m n : Matter opts f start) → P (sides_in m) m.digest → P (sides_in n) n.digest
by_rules {opts = opts} {f = f} {start = start} P m n x =
    subst (λ (d : Option (List ℕ)). P (sides_in n) d) (digests_are_one opts.filters f.filters m.rules n.rules m.digest n.digest m.are n.are)
    (subst (λ (r : List Rule). P (sides_of opts.compare r (start One) (start Two)) m.digest) (rules_are_one opts.filters f.filters m.rules n.rules m.digest n.digest m.are n.are) x)

-- # Before the lock

absent_no_rules : (name : Option (List ℕ)) (filters : Held) (r : List Rule) (d : Option (List ℕ)) → IsSome name → filters ≡ Absent → AreRulesOf name filters r d → ⊥
absent_no_rules None filters r d some none x = cc
absent_no_rules (Some n) filters r d some none x = no_text filters x.2.text none x.2.there

bad_no_rules : (name : Option (List ℕ)) (line : ℕ) (filters : Held) (r : List Rule) (d : Option (List ℕ)) → IsSome name → HasBadRule line filters → AreRulesOf name filters r d → ⊥
bad_no_rules None line filters r d some bad x = cc
bad_no_rules (Some n) line filters r d some bad x =
    x.2.only.1 line (subst (λ (t : List ℕ). HasFirstBadLine line t) (text_same filters bad.text x.2.text bad.there x.2.there) bad.bad)

bad_same : (filters : Held) (m n : ℕ) → HasBadRule m filters → HasBadRule n filters → m ≡ n
bad_same filters m n x y = y.only.1 m (subst (λ (t : List ℕ). HasFirstBadLine m t) (text_same filters x.text y.text x.there y.there) x.bad)

module _ (name : Option (List ℕ)) (f : WorkFolder) (moment : ℤ) where
  -- with the lock there is none
  entry_not_let : (end : End) → IsEntryRefusal name f moment end → IsFree moment f.lock → (r : List Rule) (d : Option (List ℕ)) → AreRulesOf name f.filters r d → ⊥
  entry_not_let NoFilters x free r d are = absent_no_rules name f.filters r d x.0 x.1 are
  entry_not_let (BadRule line) x free r d are = bad_no_rules name line f.filters r d x.0 x.1 are
  entry_not_let (Locked until) x free r d are = free_or_blocking moment until f.lock free x.1
  entry_not_let end x free r d are = absurd x

  after_none : (end : End) → IsEntryRefusal name f moment NoFilters → IsEntryRefusal name f moment end → NoFilters ≡ end
  after_none NoFilters x y = refl
  after_none (BadRule line) x y = absurd (no_text f.filters y.1.text x.1 y.1.there)
  after_none (Locked until) x y = absurd (absent_no_rules name f.filters y.0.0 y.0.1 x.0 x.1 y.0.2)
  after_none end x y = absurd y

  after_bad : (n : ℕ) (end : End) → IsEntryRefusal name f moment (BadRule n) → IsEntryRefusal name f moment end → BadRule n ≡ end
  after_bad n NoFilters x y = absurd (no_text f.filters x.1.text y.1 x.1.there)
  after_bad n (BadRule line) x y = ap BadRule (bad_same f.filters n line x.1 y.1)
  after_bad n (Locked until) x y = absurd (bad_no_rules name n f.filters y.0.0 y.0.1 x.0 x.1 y.0.2)
  after_bad n end x y = absurd y

  entry_same : (a b : End) → IsEntryRefusal name f moment a → IsEntryRefusal name f moment b → a ≡ b
  entry_same NoFilters b x y = after_none b x y
  entry_same (BadRule line) b x y = after_bad line b x y
  entry_same (Locked until) NoFilters x y = absurd (absent_no_rules name f.filters x.0.0 x.0.1 y.0 y.1 x.0.2)
  entry_same (Locked until) (BadRule line) x y = absurd (bad_no_rules name line f.filters x.0.0 x.0.1 y.0 y.1 x.0.2)
  entry_same (Locked until) (Locked other) x y = ap Locked (one_blocking moment until other f.lock x.1 y.1)
  entry_same (Locked until) b x y = absurd y
  entry_same a b x y = absurd x

-- # An ordinary run

module _ (opts : Opts) (limits : Limits) (f : WorkFolder) (start : Remotes) (moment : ℤ) (small : limits.listing < 2 ^ 64) where
  pub run_same : (a b : End) → RefusesRun opts limits f start moment a → RefusesRun opts limits f start moment b → a ≡ b
  run_same a b (inl x) (inl y) = entry_same opts.filters f moment a b x y
  run_same a b (inl x) (inr y) = absurd (entry_not_let opts.filters f moment a x y.0 y.1.0.rules y.1.0.digest y.1.0.are)
  run_same a b (inr x) (inl y) = absurd (entry_not_let opts.filters f moment b y x.0 x.1.0.rules x.1.0.digest x.1.0.are)
  run_same a b (inr x) (inr y) =
      run_refusals_same opts limits f (sides_in x.1.0) x.1.0.digest small a b x.1.1 (by_rules (λ s d. IsOrdinaryRefusal opts limits f s d b) y.1.0 x.1.0 y.1.1)

  pub run_free : (end : End) → RefusesRun opts limits f start moment end → LetsRun opts limits f start moment → ⊥
  run_free end (inl x) y = entry_not_let opts.filters f moment end x y.0 y.1.0.rules y.1.0.digest y.1.0.are
  run_free end (inr x) y =
      run_not_refused opts limits f (sides_in x.1.0) x.1.0.digest small end x.1.1 (by_rules (λ s d. HasNoOrdinaryRefusal opts limits f s d) y.1.0 x.1.0 y.1.1)

-- # A resync

module _ (mode : Prefer) (opts : Opts) (limits : Limits) (f : WorkFolder) (start : Remotes) (moment : ℤ) where
  pub resync_same : (a b : End) → RefusesResync mode opts limits f start moment a → RefusesResync mode opts limits f start moment b → a ≡ b
  resync_same a b (inl x) (inl y) = entry_same opts.filters f moment a b x y
  resync_same a b (inl x) (inr y) = absurd (entry_not_let opts.filters f moment a x y.0 y.1.0.rules y.1.0.digest y.1.0.are)
  resync_same a b (inr x) (inl y) = absurd (entry_not_let opts.filters f moment b y x.0 x.1.0.rules x.1.0.digest x.1.0.are)
  resync_same a b (inr x) (inr y) = refusals_same mode limits f (sides_in x.1.0) a b x.1.1 (by_rules (λ s d. IsResyncRefusal mode limits f s b) y.1.0 x.1.0 y.1.1)

  pub resync_free : (end : End) → RefusesResync mode opts limits f start moment end → LetsResync mode opts limits f start moment → ⊥
  resync_free end (inl x) y = entry_not_let opts.filters f moment end x y.0 y.1.0.rules y.1.0.digest y.1.0.are
  resync_free end (inr x) y = none_refused mode limits f (sides_in x.1.0) end x.1.1 (by_rules (λ s d. HasNoResyncRefusal mode limits f s) y.1.0 x.1.0 y.1.1)
