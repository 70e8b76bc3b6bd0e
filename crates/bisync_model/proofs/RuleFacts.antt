-- What a rule says of the two classes, and a class of the file.
use Rattle.std.proofs.Common.{List, ◌≡◌, ◌≢◌, Bool, true, false, cond, Option, Some, None, refl, sym, ◌∙◌, ap, subst}
use Rattle.std.specs.Prelude.{option_map}
use Rattle.bisync_tree.specs.Rows.{PathBytes, is_among}
use Rattle.bisync_tree.specs.declared.files.File.{File}
use Rattle.bisync_tree.specs.Side.{other}
use Rattle.bisync_tree.specs.Same.{same, class}
use Rattle.bisync_tree.specs.Tree.{entry}
use Rattle.bisync_tree.specs.declared.sides.Side.{Side}
use Rattle.bisync_tree.specs.declared.sides.Side.TheVariants.{One, Two}
use Rattle.bisync_tree.specs.declared.entries.Compare.{Compare}
use Rattle.bisync_tree.specs.declared.entries.Entry.{Entry}
use Rattle.bisync_tree.specs.declared.classes.Class.{Class}
use Rattle.bisync_tree.specs.declared.classes.Class.TheVariants.{Quiet, Fresh, Gone}
use Rattle.bisync_tree.specs.declared.classes.Rule.{Rule}
use Rattle.bisync_tree.specs.declared.classes.Rule.TheVariants.{Nothing, Copy as CopyFrom, Delete as DeleteOn, Conflict}
use Rattle.bisync_model.specs.Runs.{ArePaths}
use Rattle.bisync_model.specs.Table.{table, rule_at, class_now}
use Rattle.bisync_model.specs.Known.{Known}
use Rattle.bisync_model.specs.Conflict.{winner_at, is_named_loser}
use Rattle.bisync_model.proofs.ListedRun.{Run, is_named}

pub class_absent : (c : Compare) (base : Option Entry) → class c base None ≢ Fresh
class_absent c base = go (same c base None)
  where
    go : (b : Bool) → cond b Quiet Gone ≢ Fresh
    go true e = cc
    go false e = cc

pub class_present : (c : Compare) (base : Option Entry) (e : Entry) → class c base (Some e) ≢ Gone
class_present c base e = go (same c base (Some e))
  where
    go : (b : Bool) → cond b Quiet Fresh ≢ Gone
    go true e = cc
    go false e = cc

-- a fresh path is listed now
fresh_listed : (known : Known) (s : Side) (p : PathBytes) → class_now known s p ≡ Fresh → known.now s p ≢ None
fresh_listed known s p fresh none = class_absent known.policy.compare (known.base s p) (ap (λ v. class known.policy.compare (known.base s p) v) (sym none) ∙ fresh)

-- a path that is gone isn't
pub gone_unlisted : (known : Known) (s : Side) (p : PathBytes) → class_now known s p ≡ Gone → known.now s p ≡ None
gone_unlisted known s p = go (known.now s p)
  where
    go : (v : Option Entry) → class known.policy.compare (known.base s p) v ≡ Gone → v ≡ None
    go (Some e) h = absurd (class_present known.policy.compare (known.base s p) e h)
    go None h = refl

-- the classes and entries under which a rule comes
abbrev pub Says : Rule → Class → Class → Option Entry → Option Entry → Type 0
Says (CopyFrom One) k1 k2 n1 n2 = (k1 ≡ Fresh) × (k2 ≢ Fresh)
Says (CopyFrom Two) k1 k2 n1 n2 = (k1 ≢ Fresh) × (k2 ≡ Fresh)
Says (DeleteOn One) k1 k2 n1 n2 = (k1 ≡ Quiet) × (k2 ≡ Gone) × (n1 ≢ None)
Says (DeleteOn Two) k1 k2 n1 n2 = (k1 ≡ Gone) × (k2 ≡ Quiet) × (n2 ≢ None)
Says Conflict k1 k2 n1 n2 = (k1 ≡ Fresh) × (k2 ≡ Fresh)
Says Nothing k1 k2 n1 n2 = Unit {0}

pub table_says : (c : Compare) (k1 k2 : Class) (n1 n2 : Option Entry) → Says (table c k1 k2 n1 n2) k1 k2 n1 n2
table_says c Quiet Quiet n1 n2 = tt
table_says c Gone Gone n1 n2 = tt
table_says c Fresh Quiet n1 n2 = (refl, λ e. cc)
table_says c Fresh Gone n1 n2 = (refl, λ e. cc)
table_says c Quiet Fresh n1 n2 = (λ e. cc, refl)
table_says c Gone Fresh n1 n2 = (λ e. cc, refl)
table_says c Gone Quiet n1 None = tt
table_says c Gone Quiet n1 (Some e) = (refl, refl, λ x. cc)
table_says c Quiet Gone None n2 = tt
table_says c Quiet Gone (Some e) n2 = (refl, refl, λ x. cc)
table_says c Fresh Fresh n1 n2 = go (same c n1 n2)
  where
    go : (b : Bool) → Says (cond b Nothing Conflict) Fresh Fresh n1 n2
    go true = tt
    go false = (refl, refl)

-- the classes and entries at the start, in a claim of the rule there
abbrev pub SaysAt : Known → PathBytes → Rule → Type 0
SaysAt known p r = Says r (class_now known One p) (class_now known Two p) (known.now One p) (known.now Two p)

says : (known : Known) (p : PathBytes) (r : Rule) → rule_at known p ≡ r → SaysAt known p r
says known p r e = subst (λ r. SaysAt known p r) e (go (known.policy.passes p))
  where
    t : Rule
    t = table known.policy.compare (class_now known One p) (class_now known Two p) (known.now One p) (known.now Two p)

    go : (b : Bool) → SaysAt known p (cond b t Nothing)
    go true = table_says known.policy.compare (class_now known One p) (class_now known Two p) (known.now One p) (known.now Two p)
    go false = tt

pub rule_says : (run : Run) (p : PathBytes) (r : Rule) → rule_at run.known p ≡ r → SaysAt run.known p r
rule_says run p r e = says run.known p r e

pub copied_is_fresh : (known : Known) (p : PathBytes) (from : Side) → rule_at known p ≡ CopyFrom from → class_now known from p ≡ Fresh
copied_is_fresh known p One e = (says known p (CopyFrom One) e).0
copied_is_fresh known p Two e = (says known p (CopyFrom Two) e).1

pub deleted_is_quiet : (known : Known) (p : PathBytes) (side : Side) → rule_at known p ≡ DeleteOn side → class_now known side p ≡ Quiet
deleted_is_quiet known p One e = (says known p (DeleteOn One) e).0
deleted_is_quiet known p Two e = (says known p (DeleteOn Two) e).1

-- something is done only with a passing path
pub ruled_passes : (known : Known) (p : PathBytes) (r : Rule) → rule_at known p ≡ r → r ≢ Nothing → known.policy.passes p ≡ true
ruled_passes known p r e ne = go (known.policy.passes p) (λ is. ne (sym e ∙ is))
  where
    t : Rule
    t = table known.policy.compare (class_now known One p) (class_now known Two p) (known.now One p) (known.now Two p)

    go : (b : Bool) → cond b t Nothing ≢ Nothing → b ≡ true
    go true ne = refl
    go false ne = absurd (ne refl)

pub done_passes : (run : Run) (p : PathBytes) (r : Rule) → rule_at run.known p ≡ r → r ≢ Nothing → run.known.policy.passes p ≡ true
done_passes run p r e ne = ruled_passes run.known p r e ne

-- what is listed is in the trees
pub listed_there : (run : Run) (s : Side) (p : PathBytes) → run.known.policy.passes p ≡ true → run.known.now s p ≢ None → (f : File) × (run.start s p ≡ Some f)
listed_there run s p passes ne = go (run.start s p) refl
  where
    go : (v : Option File) → run.start s p ≡ v → (f : File) × (run.start s p ≡ Some f)
    go None e = absurd (ne (run.listed.now s p passes ∙ ap (λ v. option_map (entry run.known.policy.compare) v) e))
    go (Some f) e = (f, e)

unlisted_absent : (run : Run) (s : Side) (p : PathBytes) → run.known.policy.passes p ≡ true → run.known.now s p ≡ None → run.start s p ≡ None
unlisted_absent run s p passes none = go (run.start s p) (sym (run.listed.now s p passes) ∙ none)
  where
    go : (v : Option File) → option_map (entry run.known.policy.compare) v ≡ None → v ≡ None
    go None e = refl
    go (Some f) e = cc

-- the entry of a path with which something is done
pub listed_as : (run : Run) (p : PathBytes) (r : Rule) → rule_at run.known p ≡ r → r ≢ Nothing → (s : Side) (v : Option File) → run.start s p ≡ v
    → run.known.now s p ≡ option_map (entry run.known.policy.compare) v
listed_as run p r e ne s v there = run.listed.now s p (done_passes run p r e ne) ∙ ap (λ v. option_map (entry run.known.policy.compare) v) there

pub copied_there : (run : Run) (p : PathBytes) (from : Side) → rule_at run.known p ≡ CopyFrom from → (f : File) × (run.start from p ≡ Some f)
copied_there run p One e = listed_there run One p (done_passes run p (CopyFrom One) e (λ x. cc)) (fresh_listed run.known One p (rule_says run p (CopyFrom One) e).0)
copied_there run p Two e = listed_there run Two p (done_passes run p (CopyFrom Two) e (λ x. cc)) (fresh_listed run.known Two p (rule_says run p (CopyFrom Two) e).1)

pub deleted_absent : (run : Run) (p : PathBytes) (side : Side) → rule_at run.known p ≡ DeleteOn side → run.start (other side) p ≡ None
deleted_absent run p One e = unlisted_absent run Two p (done_passes run p (DeleteOn One) e (λ x. cc)) (gone_unlisted run.known Two p (rule_says run p (DeleteOn One) e).1)
deleted_absent run p Two e = unlisted_absent run One p (done_passes run p (DeleteOn Two) e (λ x. cc)) (gone_unlisted run.known One p (rule_says run p (DeleteOn Two) e).0)

pub conflict_there : (run : Run) (p : PathBytes) (s : Side) → rule_at run.known p ≡ Conflict → (f : File) × (run.start s p ≡ Some f)
conflict_there run p One e = listed_there run One p (done_passes run p Conflict e (λ x. cc)) (fresh_listed run.known One p (rule_says run p Conflict e).0)
conflict_there run p Two e = listed_there run Two p (done_passes run p Conflict e (λ x. cc)) (fresh_listed run.known Two p (rule_says run p Conflict e).1)

-- something is done only with a path that is listed
pub done_listed : (known : Known) (p : PathBytes) → rule_at known p ≢ Nothing → (s : Side) × (e : Entry) × (known.now s p ≡ Some e)
done_listed known p ne = go (rule_at known p) refl
  where
    on : (s : Side) (v : Option Entry) → known.now s p ≡ v → v ≢ None → (s : Side) × (e : Entry) × (known.now s p ≡ Some e)
    on s None is ne = absurd (ne refl)
    on s (Some e) is ne = (s, e, is)

    go : (r : Rule) → rule_at known p ≡ r → (s : Side) × (e : Entry) × (known.now s p ≡ Some e)
    go Nothing e = absurd (ne e)
    go (CopyFrom One) e = on One (known.now One p) refl (fresh_listed known One p (says known p (CopyFrom One) e).0)
    go (CopyFrom Two) e = on Two (known.now Two p) refl (fresh_listed known Two p (says known p (CopyFrom Two) e).1)
    go (DeleteOn One) e = on One (known.now One p) refl (says known p (DeleteOn One) e).2
    go (DeleteOn Two) e = on Two (known.now Two p) refl (says known p (DeleteOn Two) e).2
    go Conflict e = on One (known.now One p) refl (fresh_listed known One p (says known p Conflict e).0)

-- with the path of a loser that gets a name something is done
pub loser_rule : (known : Known) (p : PathBytes) (s : Side) → is_named_loser known p s ≡ true → rule_at known p ≢ Nothing
loser_rule known p s lost = go (rule_at known p) lost
  where
    go : (r : Rule) → is_named r known.policy.loser (winner_at known p) s ≡ true → r ≢ Nothing
    go Conflict t e = cc
    go (CopyFrom from) t e = cc
    go (DeleteOn side) t e = cc
    go Nothing t e = cc

-- so it is among the paths of a run
pub done_among : (known : Known) (paths : List PathBytes) → ArePaths known paths → (p : PathBytes) → rule_at known p ≢ Nothing → is_among p paths ≡ true
done_among known paths are p ne =
    let there = done_listed known p ne in
    are.covering there.0 p there.1 (ruled_passes known p (rule_at known p) refl ne) there.2

pub deleted_there : (run : Run) (p : PathBytes) (side : Side) → rule_at run.known p ≡ DeleteOn side → (f : File) × (run.start side p ≡ Some f)
deleted_there run p One e = listed_there run One p (done_passes run p (DeleteOn One) e (λ x. cc)) (rule_says run p (DeleteOn One) e).2
deleted_there run p Two e = listed_there run Two p (done_passes run p (DeleteOn Two) e (λ x. cc)) (rule_says run p (DeleteOn Two) e).2
