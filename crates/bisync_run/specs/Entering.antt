-- How a run begins: its filter rules, and the lock.
use Rattle.std.specs.Prelude.{◌≡◌, ℕ, ℤ, List, ◌∷◌, ◌++◌, Option, Bool, IsTrue, ⊤}
use Rattle.hex.specs.Hex.{encode_lower}
use Rattle.md5.specs.Md5.{md5}
use Rattle.bisync_filter.specs.declared.rule_lists.Rule.{Rule}
use Rattle.bisync_device.specs.WorkFolder.{Held, WorkFolder}
use Rattle.bisync_work.specs.Locks.{HoldsAt, Blocks}
use Rattle.bisync_report.specs.declared.ends.End.{End}
use Rattle.bisync_report.specs.declared.ends.End.TheVariants.{WorkFault, NoFilters, BadRule, Locked, OutOfMemory}
use Rattle.bisync_run.specs.FilterRules.{AreRulesOf, LacksFilters, HasNoRuleAt}

-- the name of a session: the MD5 (RFC 1321), in hexadecimal digits, of both roots with a newline, 10, between them
abbrev pub session_of : List ℕ → List ℕ → List ℕ
session_of root1 root2 = encode_lower (md5 (root1 ++ 10 ∷ root2))

-- the rules can be read
abbrev pub HasSomeRules : Option (List ℕ) → WorkFolder → Type 0
HasSomeRules name f = (rules : List Rule) × (digest : Option (List ℕ)) × AreRulesOf name f.filters rules digest

-- What holds at the moment at which the run asks for the lock: the one that the clock tells, or any where it tells none.
abbrev pub AtMoment : Bool → ℤ → (ℤ → Type 0) → Type 0
AtMoment told moment Holds = (now : ℤ) × (IsTrue told → now ≡ moment) × Holds now

-- why a run has no lock: a device failed, memory was refused, or the first of its first three refusals
abbrev pub IsEntryEnd : Option (List ℕ) → WorkFolder → Bool → ℤ → End → Type 0
IsEntryEnd name f told moment WorkFault = ⊤
IsEntryEnd name f told moment OutOfMemory = ⊤
IsEntryEnd name f told moment NoFilters = LacksFilters name f.filters
IsEntryEnd name f told moment (BadRule line) = HasNoRuleAt name line f.filters
IsEntryEnd name f told moment (Locked until) = HasSomeRules name f × AtMoment told moment (λ now. Blocks now until f.lock)
IsEntryEnd name f told moment end = ⊥

-- a lock that blocks still holds
abbrev pub IsHeldBack : ℤ → End → Type 0
IsHeldBack moment (Locked until) = HoldsAt moment until
IsHeldBack moment end = ⊤

-- # Inside this crate

-- why a run has no rules
abbrev pub IsRulesEnd : Option (List ℕ) → Held → End → Type 0
IsRulesEnd name filters WorkFault = ⊤
IsRulesEnd name filters OutOfMemory = ⊤
IsRulesEnd name filters NoFilters = LacksFilters name filters
IsRulesEnd name filters (BadRule line) = HasNoRuleAt name line filters
IsRulesEnd name filters end = ⊥

-- no lock is told of
abbrev pub IsNoLock : End → Type 0
IsNoLock (Locked until) = ⊥
IsNoLock end = ⊤
