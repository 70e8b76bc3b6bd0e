-- Times in windows.
use Rattle.std.specs.Prelude.{◌==◌, ◌||◌, not, nat_le, nat_lt, Bool, true, false, cond}
use Rattle.std.proofs.lemmas.Bool.Decides.{nat_tests}
use Rattle.std.proofs.Common.{◌≡◌, ◌≤◌, ◌<◌, ◌*◌, ◌/◌, ℕ, ℤ, zero, suc, pos, negsuc, ◌*ℤ◌, FitsSigned, w64, to_z, of_z, ◌<ℤ◌, refl, sym, ap, ◌∙◌, subst, arith, lit≤, lit<}
use Rattle.std.specs.Prelude.{int_div}
use Rattle.std.proofs.Math.IntN.{neg_ℤ}
use Rattle.std.proofs.Math.IntN.{pos-*ℤ-pos, negsuc-*ℤ-pos}
use Rattle.std.proofs.Math.Nat.{div-div-eq-div-mul, mul-div_cancel, div-mul-le_self, zero-mul, zero-div}
use Rattle.std.proofs.lemmas.Int.{ints, quot_is, quot_fits, to_z-of_z}
use Rattle.bisync_tree.specs.Window.{window_ns, window_number, brought_time, coarser}
use Rattle.bisync_tree.specs.declared.windows.Window.{Window}
use Rattle.bisync_tree.specs.declared.windows.Window.TheVariants.{Ns1, Ns100, Us1, Ms1, S1, S2}

pub positive : (w : Window) → 0 < window_ns w
positive Ns1 = lit< tt
positive Ns100 = lit< tt
positive Us1 = lit< tt
positive Ms1 = lit< tt
positive S1 = lit< tt
positive S2 = lit< tt

pub small : (w : Window) → window_ns w ≤ 2_000_000_000
small Ns1 = lit≤ tt
small Ns100 = lit≤ tt
small Us1 = lit≤ tt
small Ms1 = lit≤ tt
small S1 = lit≤ tt
small S2 = lit≤ tt

pub ns_fits : (w : Window) → FitsSigned w64 (pos (window_ns w))
ns_fits w = let s = small w in search (ints, arith)

pub mul_neg : (m n : ℕ) → neg_ℤ (pos m) *ℤ pos n ≡ neg_ℤ (pos (m * n))
mul_neg zero n = pos-*ℤ-pos 0 n ∙ ap pos (zero-mul n) ∙ sym (ap (λ k. neg_ℤ (pos k)) (zero-mul n))
mul_neg (suc m) n = negsuc-*ℤ-pos m n

-- what is kept of a time on each side of zero
pub brought_pos : (w : Window) (a : ℕ) → brought_time w (pos a) ≡ pos (a / window_ns w * window_ns w)
unfolding brought_time window_number
brought_pos w a = pos-*ℤ-pos (a / window_ns w) (window_ns w)

pub brought_neg : (w : Window) (a : ℕ) → brought_time w (negsuc a) ≡ neg_ℤ (pos (suc a / window_ns w * window_ns w))
unfolding brought_time window_number
brought_neg w a = mul_neg (suc a / window_ns w) (window_ns w)

pos_fits : (m a : ℕ) → m ≤ a → FitsSigned w64 (pos a) → FitsSigned w64 (pos m)
pos_fits m a le fits = omega (arith, ints)

neg_fits : (m a : ℕ) → m ≤ suc a → FitsSigned w64 (negsuc a) → FitsSigned w64 (neg_ℤ (pos m))
neg_fits zero a le fits = omega (arith, ints)
neg_fits (suc m) a le fits = omega (arith, ints)

pub brought_fits : (w : Window) (time : ℤ) → FitsSigned w64 time → FitsSigned w64 (brought_time w time)
brought_fits w (pos a) fits = subst (FitsSigned w64) (sym (brought_pos w a)) (pos_fits _ a (div-mul-le_self a (window_ns w)) fits)
brought_fits w (negsuc a) fits = subst (FitsSigned w64) (sym (brought_neg w a)) (neg_fits _ a (div-mul-le_self (suc a) (window_ns w)) fits)

-- a window divides each that isn't finer
divides_test : Window → Window → Bool
divides_test w v = not (nat_le (window_ns w) (window_ns v)) || (window_ns v == window_ns w * (window_ns v / window_ns w))

divides_all : (w v : Window) → divides_test w v ≡ true
unfolding divides_test
divides_all Ns1 Ns1 = refl
divides_all Ns1 Ns100 = refl
divides_all Ns1 Us1 = refl
divides_all Ns1 Ms1 = refl
divides_all Ns1 S1 = refl
divides_all Ns1 S2 = refl
divides_all Ns100 Ns1 = refl
divides_all Ns100 Ns100 = refl
divides_all Ns100 Us1 = refl
divides_all Ns100 Ms1 = refl
divides_all Ns100 S1 = refl
divides_all Ns100 S2 = refl
divides_all Us1 Ns1 = refl
divides_all Us1 Ns100 = refl
divides_all Us1 Us1 = refl
divides_all Us1 Ms1 = refl
divides_all Us1 S1 = refl
divides_all Us1 S2 = refl
divides_all Ms1 Ns1 = refl
divides_all Ms1 Ns100 = refl
divides_all Ms1 Us1 = refl
divides_all Ms1 Ms1 = refl
divides_all Ms1 S1 = refl
divides_all Ms1 S2 = refl
divides_all S1 Ns1 = refl
divides_all S1 Ns100 = refl
divides_all S1 Us1 = refl
divides_all S1 Ms1 = refl
divides_all S1 S1 = refl
divides_all S1 S2 = refl
divides_all S2 Ns1 = refl
divides_all S2 Ns100 = refl
divides_all S2 Us1 = refl
divides_all S2 Ms1 = refl
divides_all S2 S1 = refl
divides_all S2 S2 = refl

test_means : (m n : ℕ) → (not (nat_le m n) || (n == m * (n / m))) ≡ true → m ≤ n → n ≡ m * (n / m)
test_means m n passed le = grind (arith, nat_tests)

divides : (w v : Window) → window_ns w ≤ window_ns v → window_ns v ≡ window_ns w * (window_ns v / window_ns w)
unfolding divides_test
divides w v le = test_means _ _ (divides_all w v) le

-- a number rounded down to a multiple of m lies in the same multiple of m * k
rounded : (a m k : ℕ) → 0 < m → a / m * m / (m * k) ≡ a / (m * k)
rounded a m k above = sym (div-div-eq-div-mul (a / m * m) m k) ∙ ap (λ x. x / k) (mul-div_cancel (a / m) above) ∙ div-div-eq-div-mul a m k

rounded_in : (a m n : ℕ) → 0 < m → n ≡ m * (n / m) → a / m * m / n ≡ a / n
rounded_in a m n above whole = subst (λ x. a / m * m / x ≡ a / x) (sym whole) (rounded a m (n / m) above)

div_neg : (x n : ℕ) → int_div (neg_ℤ (pos x)) (pos n) ≡ neg_ℤ (pos (x / n))
div_neg zero n = ap pos (zero-div n) ∙ sym (ap (λ k. neg_ℤ (pos k)) (zero-div n))
div_neg (suc x) n = refl

pub brought_keeps : (w v : Window) (time : ℤ) → window_ns w ≤ window_ns v → window_number v (brought_time w time) ≡ window_number v time
unfolding window_number
brought_keeps w v (pos a) le = ap (λ t. int_div t (pos (window_ns v))) (brought_pos w a) ∙ ap pos (rounded_in a _ _ (positive w) (divides w v le))
brought_keeps w v (negsuc a) le =
    ap (λ t. int_div t (pos (window_ns v))) (brought_neg w a)
    ∙ div_neg _ (window_ns v)
    ∙ ap (λ k. neg_ℤ (pos k)) (rounded_in (suc a) _ _ (positive w) (divides w v le))

-- the code's quotient and product
pub number_fits : (w : Window) (time : ℤ) → FitsSigned w64 time → FitsSigned w64 (window_number w time)
unfolding window_number
number_fits w time fits = quot_fits w64 time _ fits (above (window_ns w) (positive w))
  where
    above : (n : ℕ) → 0 < n → pos 0 <ℤ pos n
    above n less = omega (arith, ints)

pub quotient_is : (w : Window) (time n : ℤ) → n ≡ pos (window_ns w) → FitsSigned w64 time
    → to_z w64 (of_z w64 (int_div (to_z w64 (of_z w64 time)) (to_z w64 (of_z w64 n)))) ≡ window_number w time
unfolding window_number
quotient_is w time n is fits =
    ap (λ m. to_z w64 (of_z w64 (int_div (to_z w64 (of_z w64 time)) (to_z w64 (of_z w64 m))))) is
    ∙ quot_is w64 time (pos (window_ns w)) fits (ns_fits w) (number_fits w time fits)

product : (w : Window) (time k n : ℤ) → k ≡ window_number w time → n ≡ pos (window_ns w) → FitsSigned w64 time
    → to_z w64 (of_z w64 k) *ℤ to_z w64 (of_z w64 n) ≡ brought_time w time
unfolding brought_time
product w time k n is_k is_n fits =
    let k_fits : FitsSigned w64 k = subst (FitsSigned w64) (sym is_k) (number_fits w time fits) in
    let n_fits : FitsSigned w64 n = subst (FitsSigned w64) (sym is_n) (ns_fits w) in
    (λ i. to_z-of_z w64 k k_fits i *ℤ to_z-of_z w64 n n_fits i) ∙ (λ i. is_k i *ℤ is_n i)

pub product_fits : (w : Window) (time k n : ℤ) → k ≡ window_number w time → n ≡ pos (window_ns w) → FitsSigned w64 time
    → FitsSigned w64 (to_z w64 (of_z w64 k) *ℤ to_z w64 (of_z w64 n))
product_fits w time k n is_k is_n fits = subst (FitsSigned w64) (sym (product w time k n is_k is_n fits)) (brought_fits w time fits)

pub product_is : (w : Window) (time k n : ℤ) → k ≡ window_number w time → n ≡ pos (window_ns w) → FitsSigned w64 time
    → to_z w64 (of_z w64 (to_z w64 (of_z w64 k) *ℤ to_z w64 (of_z w64 n))) ≡ brought_time w time
product_is w time k n is_k is_n fits = to_z-of_z w64 _ (product_fits w time k n is_k is_n fits) ∙ product w time k n is_k is_n fits

-- a time that was brought is kept
pub brought_twice : (w : Window) (time : ℤ) → brought_time w (brought_time w time) ≡ brought_time w time
unfolding brought_time
brought_twice w time = ap (λ k. k *ℤ pos (window_ns w)) (brought_keeps w w time (omega arith))

-- the greater of two windows
greater_left : (w v : Window) (b : Bool) → nat_lt (window_ns w) (window_ns v) ≡ b → window_ns w ≤ window_ns (cond b v w)
greater_left w v true e = grind (arith, nat_tests)
greater_left w v false e = omega arith

greater_right : (w v : Window) (b : Bool) → nat_lt (window_ns w) (window_ns v) ≡ b → window_ns v ≤ window_ns (cond b v w)
greater_right w v true e = omega arith
greater_right w v false e = grind (arith, nat_tests)

pub coarser_left : (w v : Window) → window_ns w ≤ window_ns (coarser w v)
coarser_left w v = greater_left w v (nat_lt (window_ns w) (window_ns v)) refl

pub coarser_right : (w v : Window) → window_ns v ≤ window_ns (coarser w v)
coarser_right w v = greater_right w v (nat_lt (window_ns w) (window_ns v)) refl
