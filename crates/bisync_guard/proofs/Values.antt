-- Facts of tests, and of guards that are told.
use Rattle.std.proofs.Common.{◌≡◌, Bool, true, false, ◌&&◌, ◌||◌, Option, Some, refl}
use Rattle.bisync_guard.specs.declared.guards.Guard.{Guard}

pub both_of : (a b : Bool) → (a && b) ≡ true → (a ≡ true) × (b ≡ true)
both_of true b e = (refl, e)
both_of false b e = cc

pub and_false : (a : Bool) → (a && false) ≡ false
and_false true = refl
and_false false = refl

pub or_false : (a : Bool) → (a || false) ≡ a
or_false true = refl
or_false false = refl

pub or_true : (a : Bool) → (a || true) ≡ true
or_true true = refl
or_true false = refl

pub guard_is : {a b : Guard} → ◌≡◌ {A = Option Guard} (Some a) (Some b) → a ≡ b
guard_is e = cc
