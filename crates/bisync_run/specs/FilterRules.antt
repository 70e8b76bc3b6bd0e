-- The filter rules of a run.
use Rattle.std.specs.Prelude.{◌≡◌, ◌⊎◌, Bool, IsTrue, ℕ, List, [], Option, Some, None, IsSome}
use Rattle.bisync_filter.specs.declared.rule_lists.Rule.{Rule}
use Rattle.bisync_device.specs.WorkFolder.{Held, Absent}
use Rattle.bisync_work.specs.RulesFiles.{HasRules, HasBadRule}

-- these rules apply, and this is the digest of the filters file; without a filters file every path passes and there is none
abbrev pub AreRulesOf : Option (List ℕ) → Held → List Rule → Option (List ℕ) → Type 0
AreRulesOf None filters rules digest = (rules ≡ []) × (digest ≡ None)
AreRulesOf (Some name) filters rules digest = (hash : List ℕ) × (digest ≡ Some hash) × HasRules rules hash filters

-- the rules are known: the work folder tells what it holds, or there is no filters file
abbrev pub KnowsRules : Bool → Option (List ℕ) → Type 0
KnowsRules tells name = IsTrue tells ⊎ (name ≡ None)

-- a filters file is asked for and isn't there
abbrev pub LacksFilters : Option (List ℕ) → Held → Type 0
LacksFilters name filters = IsSome name × (filters ≡ Absent)

-- a filters file is asked for, and this line is its first that is no rule
abbrev pub HasNoRuleAt : Option (List ℕ) → ℕ → Held → Type 0
HasNoRuleAt name line filters = IsSome name × HasBadRule line filters
