-- What is read of a duration.
use Rattle.std.proofs.Common.{◌≡◌, ◌≢◌, ap, ℕ, ℤ, pos, Bool, true, false, List, [], length, Option, Some, None, IfSome, codes, cond, eqb, refl, sym, subst, inl}
use Rattle.std.proofs.Math.IntN.{nat_abs}
use Rattle.std.specs.Prelude.{option_map}
use Rattle.std.specs.Str.{bytes_eq}
use Rattle.std.proofs.lemmas.Bool.{eqb-true, eqb-false}
use Rattle.std.proofs.lemmas.Bool.Decides.{not_from_Decides}
use Rattle.std.proofs.lemmas.List.{nil_from_length}
use Rattle.std.proofs.lemmas.Slice.Eq.{bytes_eq-Decides}
use Rattle.bisync_text.specs.Duration.{IsDuration, nanos_of}
use Rattle.bisync_text.proofs.DurationLaws.{AreRead, zero_exact, nothing_exact, more_exact, sum_found, sum_exact}
use Rattle.bisync_opts.specs.Duration.{duration, parts, sum_of}

-- a duration is read, and what is read is one
pub record IsReadRight (text : List ℕ) (read : Option ℕ) : Type 0 where
  pub sound : IfSome read (λ n. IsDuration text (pos n))
  pub whole : (t : ℤ) → IsDuration text t → option_map pos read ≡ Some t

is_nil : (text : List ℕ) → eqb (length text) 0 ≡ true → text ≡ []
is_nil text e = nil_from_length text (eqb-true (length text) 0 e)

not_nil : (text : List ℕ) → eqb (length text) 0 ≡ false → text ≢ []
not_nil text e nil = eqb-false (length text) 0 e (ap length nil)

read_sum : (text : List ℕ) (hours minutes seconds : ℕ × List ℕ) → AreRead text hours.0 minutes.0 seconds.0 hours.1 minutes.1 seconds.1
    → text ≢ [] → text ≢ codes "0" → IsReadRight text (sum_of hours minutes seconds)
read_sum text hours minutes seconds read some apart = go (eqb (length seconds.1) 0) refl
  where
    go : (ended : Bool) → eqb (length seconds.1) 0 ≡ ended
        → IsReadRight text (cond ended (Some (nanos_of hours.0 minutes.0 seconds.0)) None)
    go true e = record {
      sound = sum_found text hours.0 minutes.0 seconds.0 hours.1 minutes.1 seconds.1 _ read (is_nil seconds.1 e) some refl;
      whole = λ t is. sum_exact text hours.0 minutes.0 seconds.0 hours.1 minutes.1 seconds.1 t _ read apart refl is;
    }
    go false e = record {
      sound = tt;
      whole = λ t is. more_exact text hours.0 minutes.0 seconds.0 hours.1 minutes.1 seconds.1 t None read apart (not_nil seconds.1 e) is;
    }

read_parts : (text : List ℕ) → text ≢ [] → text ≢ codes "0" → IsReadRight text (parts text)
read_parts text some apart = read_sum text _ _ _ (record { hour = refl; minute = refl; second = refl }) some apart

pub duration_is_right : (text : List ℕ) → IsReadRight text (duration text)
unfolding duration
duration_is_right text = go (eqb (length text) 0) refl (bytes_eq text (codes "0")) refl
  where
    go : (empty : Bool) → eqb (length text) 0 ≡ empty → (zero : Bool) → bytes_eq text (codes "0") ≡ zero
        → IsReadRight text (cond empty None (cond zero (Some 0) (parts text)))
    go true e zero is = record { sound = tt; whole = λ t is. nothing_exact t None (subst (λ (x : List ℕ). IsDuration x t) (is_nil text e) is) }
    go false e true is =
        let same : text ≡ codes "0" = (bytes_eq-Decides text (codes "0")).0 is in
        record {
          sound = inl (same, refl);
          whole = λ t is. zero_exact t (subst (λ (x : List ℕ). IsDuration x t) same is);
        }
    go false e false is = read_parts text (not_nil text e) (not_from_Decides (bytes_eq text (codes "0")) (bytes_eq-Decides text (codes "0")) is)

-- the answer of `read_duration`
pub read_is : (text : List ℕ) (read : Option ℤ) → IfSome read (IsDuration text) → ((t : ℤ) → IsDuration text t → read ≡ Some t)
    → read ≡ option_map pos (duration text)
read_is text (Some t) found exact = sym ((duration_is_right text).whole t found)
read_is text None found exact = go (duration text) (duration_is_right text)
  where
    go : (of_text : Option ℕ) → IsReadRight text of_text → None ≡ option_map pos of_text
    go None right = refl
    go (Some n) right = absurd (let bad = exact (pos n) right.sound in cc)

pub none_is : (text : List ℕ) → ((t : ℤ) → IsDuration text t → None ≡ Some t) → None ≡ duration text
none_is text exact = go (duration text) (read_is text None tt exact)
  where
    go : (of_text : Option ℕ) → None ≡ option_map pos of_text → None ≡ of_text
    go None e = refl
    go (Some n) e = absurd cc

pub some_is : (text : List ℕ) (n : ℤ) → IsDuration text n → ((t : ℤ) → IsDuration text t → Some n ≡ Some t) → Some (nat_abs n) ≡ duration text
some_is text n found exact = go (duration text) (read_is text (Some n) found exact)
  where
    go : (of_text : Option ℕ) → Some n ≡ option_map pos of_text → Some (nat_abs n) ≡ of_text
    go None e = absurd cc
    go (Some k) e = let same : n ≡ pos k = cc in rw same refl
