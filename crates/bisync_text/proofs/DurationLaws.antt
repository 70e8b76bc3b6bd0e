-- The parts that are read spell the text, and the text of parts is read as them.
use Rattle.std.proofs.Common.{◌≡◌, ◌≢◌, ℕ, ◌^◌, ◌<◌, ◌≤◌, inl, inr, Bool, true, false, cond, leb, List, [], ◌∷◌, ◌++◌, length, Option, Some, None, ℤ, pos, refl, sym, ap, subst, ◌∙◌, append_assoc, arith, codes}
use Rattle.std.specs.List.{prefix_len, AllByRecursion}
use Rattle.std.proofs.lemmas.Bool.{le-leb, leb-true, and_parts}
use Rattle.std.proofs.Math.Nat.{pow-le-pow_right}
use Rattle.std.proofs.lemmas.List.{append-nil}
use Rattle.std.proofs.lemmas.List.Elements.{recursion_from_All}
use Rattle.bisync_text.specs.Digits.{IsDigit, is_digit, padded, value_after, number_at, byte_at}
use Rattle.bisync_text.specs.Duration.{IsCount, IsPart, IsParts, IsDuration, nanos_of}
use Rattle.bisync_text.specs.DurationParts.{count_at, part_at}
use Rattle.bisync_text.proofs.DigitLaws.{some_is, digit_yes, digits_padded, length-padded, bind_some, number_takes, number_again, byte_takes, byte_again}

-- ---- one number and its unit

front_run : (ds : List ℕ) (c : ℕ) (more : List ℕ) → AllByRecursion IsDigit ds → is_digit c ≡ false → prefix_len is_digit (ds ++ (c ∷ more)) ≡ length ds
front_run [] c more all miss = rw miss refl
front_run (d ∷ ds) c more all miss = let here = digit_yes d all.0.0 all.0.1 in rw (here, front_run ds c more all.1 miss) (omega arith)

front_padded : (k n c : ℕ) (more : List ℕ) → is_digit c ≡ false → prefix_len is_digit (padded k n ++ (c ∷ more)) ≡ k
front_padded k n c more miss = front_run (padded k n) c more (recursion_from_All IsDigit (padded k n) (digits_padded k n)) miss ∙ length-padded k n

count_again : (unit k n : ℕ) (more : List ℕ) → is_digit unit ≡ false → 1 ≤ k → k ≤ 6 → n < 10 ^ k → count_at unit (padded k n ++ (unit ∷ more)) ≡ Some (n, more)
unfolding count_at
count_again unit k n more miss low high fits =
    rw (front_padded k n unit more miss, le-leb 1 k low, le-leb k 6 high, number_again k n (unit ∷ more) fits, byte_again unit more) refl

count_other : (unit other k n : ℕ) (more : List ℕ) → is_digit other ≡ false → byte_at unit (other ∷ more) ≡ None → 1 ≤ k → k ≤ 6 → n < 10 ^ k → count_at unit (padded k n ++ (other ∷ more)) ≡ None
unfolding count_at
count_other unit other k n more miss apart low high fits =
    rw (front_padded k n other more miss, le-leb 1 k low, le-leb k 6 high, number_again k n (other ∷ more) fits, apart) refl

count_nil : (unit : ℕ) → count_at unit [] ≡ None
unfolding count_at
count_nil unit = refl

some_when : {A : Type 0} (b : Bool) (x : Option A) (y : A) → cond b x None ≡ Some y → (b ≡ true) × (x ≡ Some y)
some_when true x y e = (refl, e)
some_when false x y e = absurd cc

Taken : ℕ → List ℕ → ℕ × List ℕ → Type 0
Taken unit bytes x = (front : List ℕ) × (IsCount unit x.0 front) × (bytes ≡ front ++ x.1)

count_takes : (unit : ℕ) (bytes : List ℕ) (x : ℕ × List ℕ) → count_at unit bytes ≡ Some x → Taken unit bytes x
unfolding count_at Taken
count_takes unit bytes x e =
    let k = prefix_len is_digit bytes in
    let guard = some_when _ _ x e in
    let range = and_parts (leb 1 k) (leb k 6) guard.0 in
    let low : 1 ≤ k = leb-true 1 k range.0 in
    let high : k ≤ 6 = leb-true k 6 range.1 in
    let n = bind_some (number_at k bytes) _ x guard.1 in
    let t = number_takes k bytes n.0 n.1 in
    let r = bind_some (byte_at unit n.0.1) _ x n.2 in
    let b = byte_takes unit n.0.1 r.0 r.1 in
    let same : (n.0.0, r.0) ≡ x = some_is (n.0.0, r.0) x r.2 in
    let front = padded k n.0.0 ++ unit ∷ [] in
    let whole : bytes ≡ front ++ r.0 = t.0 ∙ ap (λ more. padded k n.0.0 ++ more) b ∙ sym (append_assoc (padded k n.0.0) (unit ∷ []) r.0) in
    subst (λ (y : ℕ × List ℕ). Taken unit bytes y) same (front, record { digits = k; some = low; few = high; fits = t.1; spelled = refl }, whole)

-- ---- a part, which may be left out

PartTaken : ℕ → List ℕ → ℕ × List ℕ → Type 0
PartTaken unit bytes x = (front : List ℕ) × (IsPart unit x.0 front) × (bytes ≡ front ++ x.1)

part_from : (unit : ℕ) (bytes : List ℕ) (found : Option (ℕ × List ℕ)) → count_at unit bytes ≡ found → PartTaken unit bytes (part_at unit bytes)
unfolding part_at PartTaken Taken
part_from unit bytes (Some x) e = rw e (let t = count_takes unit bytes x e in (t.0, inr t.1, t.2))
part_from unit bytes None e = rw e ([], inl (refl, refl), refl)

part_takes : (unit : ℕ) (bytes : List ℕ) → PartTaken unit bytes (part_at unit bytes)
part_takes unit bytes = part_from unit bytes (count_at unit bytes) refl

pub count_small : (unit : ℕ) (bytes : List ℕ) (x : ℕ × List ℕ) → count_at unit bytes ≡ Some x → x.0 < 10 ^ 6
unfolding Taken
count_small unit bytes x e = let t = count_takes unit bytes x e in let c = t.1 in omega (arith, c.fits, c.few, pow-le-pow_right {n = 10} (omega arith) {i = c.digits} {j = 6} c.few)

part_again : (unit n : ℕ) (front rest : List ℕ) → is_digit unit ≡ false → IsPart unit n front → count_at unit rest ≡ None → part_at unit (front ++ rest) ≡ (n, rest)
unfolding part_at
part_again unit n front rest miss (inl out) none = rw (out.1, none, out.0) refl
part_again unit n front rest miss (inr c) none = rw (c.spelled, append_assoc, count_again unit c.digits n rest miss c.some c.few c.fits) refl

-- a part of another unit stands in front
none_before : (unit other n : ℕ) (front rest : List ℕ) → is_digit other ≡ false → ((more : List ℕ) → byte_at unit (other ∷ more) ≡ None) → IsPart other n front → count_at unit rest ≡ None → count_at unit (front ++ rest) ≡ None
none_before unit other n front rest miss apart (inl out) none = rw out.1 none
none_before unit other n front rest miss apart (inr c) none = rw (c.spelled, append_assoc) (count_other unit other c.digits n rest miss (apart rest) c.some c.few c.fits)

-- ---- the three parts

hour_minute : (more : List ℕ) → byte_at 104 (109 ∷ more) ≡ None
unfolding byte_at
hour_minute more = refl

hour_second : (more : List ℕ) → byte_at 104 (115 ∷ more) ≡ None
unfolding byte_at
hour_second more = refl

minute_second : (more : List ℕ) → byte_at 109 (115 ∷ more) ≡ None
unfolding byte_at
minute_second more = refl

-- what the three parts of a text are, and what is left of it
pub record AreRead (text : List ℕ) (h m s : ℕ) (r₁ r₂ r₃ : List ℕ) : Type 0 where
  pub hour : (h, r₁) ≡ part_at 104 text
  pub minute : (m, r₂) ≡ part_at 109 r₁
  pub second : (s, r₃) ≡ part_at 115 r₂

parts_read : (text : List ℕ) (h m s : ℕ) (p : IsParts h m s text) → AreRead text h m s (p.minute_text ++ p.second_text) p.second_text []
parts_read text h m s p =
    let end : p.second_text ++ [] ≡ p.second_text = append-nil p.second_text in
    let m_end : count_at 109 p.second_text ≡ None = rw end at (none_before 109 115 s p.second_text [] refl minute_second p.second (count_nil 109)) in
    let h_end : count_at 104 p.second_text ≡ None = rw end at (none_before 104 115 s p.second_text [] refl hour_second p.second (count_nil 104)) in
    let h_mid = none_before 104 109 m p.minute_text p.second_text refl hour_minute p.minute h_end in
    record {
      hour = rw p.spelled (sym (part_again 104 h p.hour_text (p.minute_text ++ p.second_text) refl p.hour h_mid));
      minute = sym (part_again 109 m p.minute_text p.second_text refl p.minute m_end);
      second = sym (rw end at (part_again 115 s p.second_text [] refl p.second (count_nil 115)));
    }

pair_is : (p q : ℕ × List ℕ) → p ≡ q → (p.0 ≡ q.0) × (p.1 ≡ q.1)
pair_is p q e = (ap (λ x. x.0) e, ap (λ x. x.1) e)

read_one : (text : List ℕ) (h m s h₂ m₂ s₂ : ℕ) (r₁ r₂ r₃ q₁ q₂ q₃ : List ℕ) → AreRead text h m s r₁ r₂ r₃ → AreRead text h₂ m₂ s₂ q₁ q₂ q₃ → (h ≡ h₂) × (m ≡ m₂) × (s ≡ s₂) × (r₃ ≡ q₃)
read_one text h m s h₂ m₂ s₂ r₁ r₂ r₃ q₁ q₂ q₃ a b =
    let e1 = pair_is (h, r₁) (h₂, q₁) (a.hour ∙ sym b.hour) in
    let e2 = pair_is (m, r₂) (m₂, q₂) (a.minute ∙ ap (part_at 109) e1.1 ∙ sym b.minute) in
    let e3 = pair_is (s, r₃) (s₂, q₃) (a.second ∙ ap (part_at 115) e2.1 ∙ sym b.second) in
    (e1.0, e2.0, e3.0, e3.1)

part_is : (unit n : ℕ) (bytes rest : List ℕ) → (n, rest) ≡ part_at unit bytes → (front : List ℕ) × (IsPart unit n front) × (bytes ≡ front ++ rest)
unfolding PartTaken
part_is unit n bytes rest e = subst (λ (x : ℕ × List ℕ). PartTaken unit bytes x) (sym e) (part_takes unit bytes)

parts_take : (text : List ℕ) (h m s : ℕ) (r₁ r₂ : List ℕ) → AreRead text h m s r₁ r₂ [] → text ≢ [] → IsParts h m s text
parts_take text h m s r₁ r₂ read some =
    let a = part_is 104 h text r₁ read.hour in
    let b = part_is 109 m r₁ r₂ read.minute in
    let c = part_is 115 s r₂ [] read.second in
    record {
      hour_text = a.0;
      minute_text = b.0;
      second_text = c.0;
      hour = a.1;
      minute = b.1;
      second = c.1;
      spelled = a.2 ∙ ap (λ more. a.0 ++ more) (b.2 ∙ ap (λ more. b.0 ++ more) (c.2 ∙ append-nil c.0));
      some = some;
    }

-- ---- the clauses of read_duration

zero_reads : AreRead (codes "0") 0 0 0 (codes "0") (codes "0") (codes "0")
unfolding part_at count_at number_at byte_at value_after
zero_reads = record { hour = refl; minute = refl; second = refl }

pub zero_exact : (t : ℤ) → IsDuration (codes "0") t → Some (pos 0) ≡ Some t
zero_exact t (inl h) = ap Some (sym h.1)
zero_exact t (inr h) =
    let left = (read_one (codes "0") 0 0 0 h.hours h.minutes h.seconds _ _ _ _ _ _ zero_reads (parts_read (codes "0") h.hours h.minutes h.seconds h.parts)).3 in
    absurd cc

pub nothing_exact : (t : ℤ) (r : Option ℤ) → IsDuration [] t → r ≡ Some t
nothing_exact t r (inl h) = absurd (let e = h.0 in cc)
nothing_exact t r (inr h) = absurd (h.parts.some refl)

pub more_exact : (text : List ℕ) (h m s : ℕ) (r₁ r₂ r₃ : List ℕ) (t : ℤ) (r : Option ℤ) → AreRead text h m s r₁ r₂ r₃ → text ≢ codes "0" → r₃ ≢ [] → IsDuration text t → r ≡ Some t
more_exact text h m s r₁ r₂ r₃ t r read apart more (inl is) = absurd (apart is.0)
more_exact text h m s r₁ r₂ r₃ t r read apart more (inr is) =
    absurd (more (read_one text h m s is.hours is.minutes is.seconds r₁ r₂ r₃ _ _ _ read (parts_read text is.hours is.minutes is.seconds is.parts)).3)

pub sum_found : (text : List ℕ) (h m s : ℕ) (r₁ r₂ r₃ : List ℕ) (t : ℤ) → AreRead text h m s r₁ r₂ r₃ → r₃ ≡ [] → text ≢ [] → t ≡ pos (nanos_of h m s) → IsDuration text t
sum_found text h m s r₁ r₂ r₃ t read nil some e = inr (record { hours = h; minutes = m; seconds = s; parts = parts_take text h m s r₁ r₂ (subst (λ (r : List ℕ). AreRead text h m s r₁ r₂ r) nil read) some; sum = e })

pub sum_exact : (text : List ℕ) (h m s : ℕ) (r₁ r₂ r₃ : List ℕ) (t v : ℤ) → AreRead text h m s r₁ r₂ r₃ → text ≢ codes "0" → v ≡ pos (nanos_of h m s) → IsDuration text t → Some v ≡ Some t
sum_exact text h m s r₁ r₂ r₃ t v read apart e (inl is) = absurd (apart is.0)
sum_exact text h m s r₁ r₂ r₃ t v read apart e (inr is) =
    let same = read_one text h m s is.hours is.minutes is.seconds r₁ r₂ r₃ _ _ _ read (parts_read text is.hours is.minutes is.seconds is.parts) in
    ap Some (e ∙ rw (same.0, same.1, same.2) (sym is.sum))
