-- When a lock is written again.
use Rattle.std.proofs.Common.{◌≡◌, ◌<◌, ◌/◌, ◌^◌, ◌≤ℤ◌, ◌<ℤ◌, ◌-ℤ◌, ℕ, ℤ, pos, negsuc, Bool, true, false, IsTrue, Option, Some, None, int_div, FitsSigned, to_z, of_z, refl, sym, ◌∙◌, ap, subst, inl, inr, arith}
use lib.Signed.{lt_z}
use Rattle.std.proofs.lemmas.Int.{ints, quot_fits, to_z-of_z}
use Rattle.std.specs.Int.{w64, saturate_signed}
use Rattle.bisync_tree.specs.Ranges.{IsLongEnough}
use Rattle.bisync_device.specs.WorkFolder.{WorkFolder}
use Rattle.bisync_work.specs.LockTexts.{expiry_of, lock_text}
use Rattle.bisync_work.specs.Locks.{relocked}
use Rattle.bisync_run.specs.Stepping.{IsDue, IsKeptAt, IsKept}

module _ (clock_tells tells : Bool) (max_lock : Option ℤ) (written_at moment : ℤ) (old : WorkFolder) (last : ℤ) where
  pub kept_for_ever : max_lock ≡ None → last ≡ written_at → IsKept clock_tells tells max_lock written_at moment old last old
  kept_for_ever is same = record {
    now = moment;
    told = λ t. refl;
    kept = subst (λ (m : Option ℤ). IsKeptAt tells m written_at moment old last old) (sym is) (same, λ t. refl);
  }

  pub kept_yet : (lock now : ℤ) → max_lock ≡ Some lock → (IsTrue clock_tells → now ≡ moment) → (IsDue lock written_at now → ⊥) → last ≡ written_at
      → IsKept clock_tells tells max_lock written_at moment old last old
  kept_yet lock now is told early same = record {
    now = now;
    told = told;
    kept = subst (λ (m : Option ℤ). IsKeptAt tells m written_at now old last old) (sym is) (inr (early, same, λ t. refl));
  }

  pub kept_again : (lock now : ℤ) (new : WorkFolder) → max_lock ≡ Some lock → (IsTrue clock_tells → now ≡ moment) → IsDue lock written_at now → last ≡ now
      → (IsTrue tells → new ≡ relocked (lock_text (expiry_of now (Some lock))) old) → IsKept clock_tells tells max_lock written_at moment old last new
  kept_again lock now new is told due same did = record {
    now = now;
    told = told;
    kept = subst (λ (m : Option ℤ). IsKeptAt tells m written_at now old last new) (sym is) (inl (due, same, did));
  }

-- half of a time is the same against a difference and against one that is cut to 64 bits
half_cut : (half : ℕ) → half < 2 ^ 63 → (difference : ℤ) → pos half ≤ℤ saturate_signed w64 difference → pos half ≤ℤ difference
half_cut half small (pos n) h = grind arith
half_cut half small (negsuc n) h = grind arith

half_past : (half : ℕ) → half < 2 ^ 63 → (difference : ℤ) → saturate_signed w64 difference <ℤ pos half → pos half ≤ℤ difference → ⊥
half_past half small (pos n) h due = grind arith
half_past half small (negsuc n) h due = grind arith

half_fits : (n : ℕ) → FitsSigned w64 (pos n) → n / 2 < 2 ^ 63
half_fits n fits = omega (arith, fits)

pub due_when_cut : (lock difference : ℤ) → FitsSigned w64 lock → pos 0 ≤ℤ lock → int_div lock (pos 2) ≤ℤ saturate_signed w64 difference → int_div lock (pos 2) ≤ℤ difference
due_when_cut (pos n) d fits long h = half_cut (n / 2) (half_fits n fits) d h
due_when_cut (negsuc n) d fits long h = absurd (omega (arith, long))

pub early_when_cut : (lock difference : ℤ) → FitsSigned w64 lock → pos 0 ≤ℤ lock → saturate_signed w64 difference <ℤ int_div lock (pos 2) → int_div lock (pos 2) ≤ℤ difference → ⊥
early_when_cut (pos n) d fits long h due = half_past (n / 2) (half_fits n fits) d h due
early_when_cut (negsuc n) d fits long h due = absurd (omega (arith, long))

-- the program's test, in the numbers that it tests
module _ (lock written_at now cut : ℤ) (lock_fits : FitsSigned w64 lock) (written_fits : FitsSigned w64 written_at) (now_fits : FitsSigned w64 now) (cut_fits : FitsSigned w64 cut) (long : pos 0 ≤ℤ lock)
    (is : cut ≡ saturate_signed w64 (to_z w64 (of_z w64 now) -ℤ to_z w64 (of_z w64 written_at))) where
  half_is : to_z w64 (of_z w64 (int_div (to_z w64 (of_z w64 lock)) (pos 2))) ≡ int_div lock (pos 2)
  half_is = ap (λ (l : ℤ). to_z w64 (of_z w64 (int_div l (pos 2)))) (to_z-of_z w64 lock lock_fits) ∙ to_z-of_z w64 (int_div lock (pos 2)) (quot_fits w64 lock (pos 2) lock_fits (omega arith))

  cut_is : cut ≡ saturate_signed w64 (now -ℤ written_at)
  cut_is = is ∙ (λ i. saturate_signed w64 (to_z-of_z w64 now now_fits i -ℤ to_z-of_z w64 written_at written_fits i))

  test_is : (b : Bool) → lt_z (to_z w64 (of_z w64 cut)) (to_z w64 (of_z w64 (int_div (to_z w64 (of_z w64 lock)) (pos 2)))) ≡ b → lt_z (saturate_signed w64 (now -ℤ written_at)) (int_div lock (pos 2)) ≡ b
  test_is b test = sym (λ i. lt_z ((to_z-of_z w64 cut cut_fits ∙ cut_is) i) (half_is i)) ∙ test

  pub tested_early : lt_z (to_z w64 (of_z w64 cut)) (to_z w64 (of_z w64 (int_div (to_z w64 (of_z w64 lock)) (pos 2)))) ≡ true → IsDue lock written_at now → ⊥
  tested_early test = early_when_cut lock (now -ℤ written_at) lock_fits long (below _ _ (test_is true test))
    where
      below : (a b : ℤ) → lt_z a b ≡ true → a <ℤ b
      below a b e = grind (arith, ints)

  pub tested_due : lt_z (to_z w64 (of_z w64 cut)) (to_z w64 (of_z w64 (int_div (to_z w64 (of_z w64 lock)) (pos 2)))) ≡ false → IsDue lock written_at now
  tested_due test = due_when_cut lock (now -ℤ written_at) lock_fits long (not_below _ _ (test_is false test))
    where
      not_below : (a b : ℤ) → lt_z a b ≡ false → b ≤ℤ a
      not_below a b e = grind (arith, ints)

module _ (lock now : ℤ) (lock_fits : FitsSigned w64 lock) (now_fits : FitsSigned w64 now) where
  pub written_then : (f : WorkFolder) → relocked (lock_text (expiry_of (to_z w64 (of_z w64 now)) (Some (to_z w64 (of_z w64 lock))))) f ≡ relocked (lock_text (expiry_of now (Some lock))) f
  written_then f = λ i. relocked (lock_text (expiry_of (to_z-of_z w64 now now_fits i) (Some (to_z-of_z w64 lock lock_fits i)))) f

-- a lock that is kept at least so long is kept for some time
long_lock : (lock : ℤ) → IsLongEnough (Some lock) → pos 0 ≤ℤ lock
long_lock (pos n) long = grind arith
long_lock (negsuc n) long = let two_minutes : pos 120_000_000_000 ≤ℤ negsuc n = long in absurd (omega arith)

pub long_time : (max_lock : Option ℤ) (lock : ℤ) → max_lock ≡ Some lock → IsLongEnough max_lock → pos 0 ≤ℤ lock
long_time max_lock lock is long = long_lock lock (subst IsLongEnough is long)
