-- The parts of a line: which bytes they lack, how long they are, and that no two values have one text.
use Rattle.std.proofs.Common.{◌≡◌, ℕ, ◌/◌, ◌%◌, ◌<◌, ◌≤◌, ◌^◌, ℤ, Bool, true, false, List, [], ◌∷◌, ◌++◌, length, Option, Some, None, IfSome, ◌==◌, ◌||◌, refl, sym, ap, ◌∙◌, arith, codes, FitsSigned, w64}
use Rattle.std.specs.Fmt.{decimal}
use Rattle.std.specs.List.{AllByRecursion}
use Rattle.std.proofs.lemmas.Bool.Decides.{nat_tests}
use Rattle.bisync_text.specs.Quote.{hex_digit, quoted}
use Rattle.bisync_text.specs.Time.{time_spelling, IsPlainTime}
use Rattle.bisync_text.proofs.DecimalLaws.{decimal_plain, own_decimal}
use Rattle.bisync_text.proofs.TimeLaws.{plain_spelling, own_time_text}
use Rattle.bisync_text.proofs.Quoting.{quoted-graphic, hex_digit_same}
use Rattle.bisync_tree.specs.declared.entries.Compare.{Compare}
use Rattle.bisync_listing.specs.Words.{Lacks}
use Rattle.bisync_listing.specs.Spelling.{field_names, fields_text, hex_digits, digest_text}
use Rattle.bisync_listing.specs.ListingText.{AreFields, IsDigest}
use Rattle.bisync_listing.proofs.LineLaws.{Lacks-from, cut_apart}

pub Lacks-decimal : (b n : ℕ) → b ≤ 32 → n < 2 ^ 64 → Lacks b (decimal n)
Lacks-decimal b n low h = Lacks-from b (λ c. (32 < c) × (c < 127)) (λ c p e. omega (arith, p.0)) (decimal n) (decimal_plain n h)

pub Lacks-time : (b : ℕ) (t : ℤ) → b ≤ 32 → Lacks b (time_spelling t)
Lacks-time b t low = Lacks-from b IsPlainTime (λ c p e. omega (arith, p.0)) (time_spelling t) (plain_spelling t)

pub Lacks-quoted : (bytes : List ℕ) → Lacks 10 (quoted bytes)
Lacks-quoted bytes = Lacks-from 10 (λ c. 32 ≤ c) (λ c p e. omega arith) (quoted bytes) (quoted-graphic bytes)

hex_digit_apart : (b d : ℕ) → b ≤ 32 → hex_digit d ≡ b → ⊥
hex_digit_apart b d low e = grind (arith, nat_tests)

pub Lacks-hex : (b : ℕ) (bytes : List ℕ) → b ≤ 32 → Lacks b (hex_digits bytes)
Lacks-hex b [] low = tt
Lacks-hex b (x ∷ bytes) low = (hex_digit_apart b (x / 16) low, (hex_digit_apart b (x % 16) low, Lacks-hex b bytes low))

pub Lacks-digest : (b : ℕ) (hash : Option (List ℕ)) → b ≤ 32 → Lacks b (digest_text hash)
Lacks-digest b None low = (omega arith, tt)
Lacks-digest b (Some bytes) low = (omega arith, (omega arith, (omega arith, (omega arith, Lacks-hex b bytes low))))

-- ---- one text

hex_cut : (a b c d : ℕ) (x y : List ℕ) → a ∷ (b ∷ x) ≡ c ∷ (d ∷ y) → (a ≡ c) × (b ≡ d) × (x ≡ y)
hex_cut a b c d x y e = (cc, cc, cc)

byte_one : (a b : ℕ) → a < 256 → b < 256 → hex_digit (a / 16) ≡ hex_digit (b / 16) → hex_digit (a % 16) ≡ hex_digit (b % 16) → a ≡ b
byte_one a b ha hb e f =
    let q = hex_digit_same (a / 16) (b / 16) (omega arith) (omega arith) e in
    let r = hex_digit_same (a % 16) (b % 16) (omega arith) (omega arith) f in
    omega (arith, q, r)

abbrev AreBytes : List ℕ → Type 0
AreBytes bytes = AllByRecursion (λ b. b < 256) bytes

pub hex_one : (xs ys : List ℕ) → AreBytes xs → AreBytes ys → hex_digits xs ≡ hex_digits ys → xs ≡ ys
hex_one [] [] hx hy e = refl
hex_one [] (y ∷ ys) hx hy e = cc
hex_one (x ∷ xs) [] hx hy e = cc
hex_one (x ∷ xs) (y ∷ ys) hx hy e =
    let h = hex_cut _ _ _ _ (hex_digits xs) (hex_digits ys) e in
    let first = byte_one x y hx.0 hy.0 h.0 h.1 in
    let others = hex_one xs ys hx.1 hy.1 h.2 in
    rw (first, others) refl

md5_cut : (x y : List ℕ) → codes "md5:" ++ x ≡ codes "md5:" ++ y → x ≡ y
md5_cut x y e = cc

pub digest_one : (g h : Option (List ℕ)) → IfSome g IsDigest → IfSome h IsDigest → digest_text g ≡ digest_text h → g ≡ h
digest_one None None hg hh e = refl
digest_one None (Some y) hg hh e = cc
digest_one (Some x) None hg hh e = cc
digest_one (Some x) (Some y) hg hh e = ap (λ (z : List ℕ). Some z) (hex_one x y hg.each hh.each (md5_cut (hex_digits x) (hex_digits y) e))

-- ---- cut at a space

pub decimal_apart : (m n : ℕ) (x y : List ℕ) → m < 2 ^ 64 → n < 2 ^ 64 → decimal m ++ 32 ∷ x ≡ decimal n ++ 32 ∷ y → (m ≡ n) × (x ≡ y)
decimal_apart m n x y hm hn e =
    let c = cut_apart 32 (decimal m) (decimal n) x y (Lacks-decimal 32 m (omega arith) hm) (Lacks-decimal 32 n (omega arith) hn) e in
    (own_decimal n hn m hm c.0, c.1)

pub digest_apart : (g h : Option (List ℕ)) (x y : List ℕ) → IfSome g IsDigest → IfSome h IsDigest → digest_text g ++ 32 ∷ x ≡ digest_text h ++ 32 ∷ y → (g ≡ h) × (x ≡ y)
digest_apart g h x y hg hh e =
    let c = cut_apart 32 (digest_text g) (digest_text h) x y (Lacks-digest 32 g (omega arith)) (Lacks-digest 32 h (omega arith)) e in
    (digest_one g h hg hh c.0, c.1)

pub time_apart : (s t : ℤ) (x y : List ℕ) → FitsSigned w64 s → FitsSigned w64 t → time_spelling s ++ 32 ∷ x ≡ time_spelling t ++ 32 ∷ y → (s ≡ t) × (x ≡ y)
time_apart s t x y hs ht e =
    let c = cut_apart 32 (time_spelling s) (time_spelling t) x y (Lacks-time 32 s (omega arith)) (Lacks-time 32 t (omega arith)) e in
    (own_time_text t ht s hs c.0, c.1)

-- ---- the compared fields

-- the flags, from the length of the names
flags : ℕ → Bool × Bool × Bool
flags n = ((n == 4) || (n == 12) || (n == 13) || (n == 21), (n == 7) || (n == 12) || (n == 16) || (n == 21), (n == 8) || (n == 13) || (n == 16) || (n == 21))

flags-names : (a b c : Bool) → flags (length (field_names a b c)) ≡ (a, b, c)
unfolding flags
flags-names false false false = refl
flags-names false false true = refl
flags-names false true false = refl
flags-names false true true = refl
flags-names true false false = refl
flags-names true false true = refl
flags-names true true false = refl
flags-names true true true = refl

pub names_one : (a b c d e f : Bool) → field_names a b c ≡ field_names d e f → (a ≡ d) × (b ≡ e) × (c ≡ f)
names_one a b c d e f same =
    let all : (a, b, c) ≡ (d, e, f) = sym (flags-names a b c) ∙ ap (λ (t : List ℕ). flags (length t)) same ∙ flags-names d e f in
    (ap (λ (x : Bool × Bool × Bool). x.0) all, ap (λ (x : Bool × Bool × Bool). x.1) all, ap (λ (x : Bool × Bool × Bool). x.2) all)

pub fields_one : (f g : Compare) → AreFields f → AreFields g → fields_text f ≡ fields_text g → f ≡ g
fields_one f g hf hg e =
    let n = names_one f.size f.time f.hash g.size g.time g.hash e in
    let w = hf.window ∙ sym hg.window in
    λ i. record { size = n.0 i; time = n.1 i; hash = n.2 i; window = w i }

pub Lacks-names : (a b c : Bool) → Lacks 10 (field_names a b c)
Lacks-names false false false = tt
Lacks-names false false true = grind arith
Lacks-names false true false = grind arith
Lacks-names false true true = grind arith
Lacks-names true false false = grind arith
Lacks-names true false true = grind arith
Lacks-names true true false = grind arith
Lacks-names true true true = grind arith

pub length-names : (a b c : Bool) → length (field_names a b c) ≤ 21
length-names false false false = omega arith
length-names false false true = omega arith
length-names false true false = omega arith
length-names false true true = omega arith
length-names true false false = omega arith
length-names true false true = omega arith
length-names true true false = omega arith
length-names true true true = omega arith
