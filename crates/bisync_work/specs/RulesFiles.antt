-- The rules of the filters file.
use Rattle.std.specs.Prelude.{◌≡◌, ◌⊎◌, ◌<◌, ℕ, List, [], ◌++◌, length, Bool, true, false, Some, Result, Ok, Err, ⊤}
use Rattle.md5.specs.Md5.{md5}
use Rattle.bisync_device.specs.WorkFolder.{Held, Absent, bytes_of, is_there}
use Rattle.bisync_filter.specs.declared.rule_lists.Rule.{Rule}
use Rattle.bisync_filter.specs.declared.faults.RuleFault.TheVariants.{BadLine}
use Rattle.bisync_filter.specs.Spelling.{SpellsRules, AreOnlyRules, IsFaultOf, IsOnlyFaultOf, most_bytes}
use Rattle.bisync_work.specs.declared.rules_files.RulesFault.{RulesFault}
use Rattle.bisync_work.specs.declared.rules_files.RulesFault.TheVariants as fault

-- the file's text spells these rules and no others, and this is its MD5 (RFC 1321)
pub record HasRules (rules : List Rule) (digest : List ℕ) (filters : Held) : Type 0 where
  pub text : List ℕ
  pub there : bytes_of filters ≡ Some text
  pub spelled : SpellsRules rules text
  pub only : AreOnlyRules rules text
  pub hashed : digest ≡ md5 text

-- the file's text spells no rules, and this line is its first that is none
pub record HasBadRule (line : ℕ) (filters : Held) : Type 0 where
  pub text : List ℕ
  pub there : bytes_of filters ≡ Some text
  pub bad : IsFaultOf (BadLine line) text
  pub only : IsOnlyFaultOf (BadLine line) text

-- a device may fail at any file, and memory may be refused at any that is there
abbrev pub IsRulesFault : RulesFault → Held → Type 0
IsRulesFault fault.Failed filters = ⊤
IsRulesFault fault.Absent filters = filters ≡ Absent
IsRulesFault (fault.BadRule line) filters = HasBadRule line filters
IsRulesFault fault.OutOfMemory filters = is_there filters ≡ true

-- whether a call of the device failed
abbrev pub is_device_fault : RulesFault → Bool
is_device_fault fault.Failed = true
is_device_fault fault.Absent = false
is_device_fault (fault.BadRule line) = false
is_device_fault fault.OutOfMemory = false

abbrev pub rules_failed : {A : Type 0} → Result A RulesFault → Bool
rules_failed (Ok _) = false
rules_failed (Err fault) = is_device_fault fault

-- # Inside this crate

-- the file begins with the text, which is the whole or more than a filters file may have
pub record BeginsWith (text : List ℕ) (filters : Held) : Type 0 where
  pub rest : List ℕ
  pub there : bytes_of filters ≡ Some (text ++ rest)
  pub enough : (rest ≡ []) ⊎ (most_bytes < length text)
