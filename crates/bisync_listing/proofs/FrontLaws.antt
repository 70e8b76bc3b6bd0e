-- The first lines of a listing: what they are, and what may come after them.
use Rattle.std.proofs.Common.{◌≡◌, ℕ, zero, suc, ◌+◌, ◌<◌, ◌≤◌, ◌^◌, ◌⊎◌, inl, inr, List, [], ◌∷◌, ◌++◌, length, map, Option, Some, None, refl, sym, ap, subst, ◌∙◌, append_assoc, arith, length-append}
use Rattle.std.specs.List.{AllByRecursion}
use Rattle.std.proofs.lemmas.List.{append-nil}
use Rattle.std.proofs.lemmas.List.Concat.{flat_map-append}
use Rattle.bisync_tree.specs.Rows.{Rows}
use Rattle.bisync_tree.specs.declared.entries.Compare.{Compare}
use Rattle.bisync_listing.specs.Words.{Lacks, AreLines, ended, text_of_lines}
use Rattle.bisync_listing.specs.Spelling.{header_line, file_line, end_line, end_lines, listing_lines, listing_text}
use Rattle.bisync_listing.specs.ListingText.{IsHeader, AreListed, IsListingText}
use Rattle.bisync_listing.specs.FirstBadLine.{AreAsRequired}
use Rattle.bisync_listing.specs.declared.headers.Header.{Header}
use Rattle.bisync_listing.proofs.LineLaws.{text-push, lines_apart, no_more_lines}
use Rattle.bisync_listing.proofs.SpellingLaws.{Lacks-header_line, Lacks-file_line, Lacks-end_line, length-header_line, length-file_line, length-end_line}
use Rattle.bisync_listing.proofs.TextLaws.{AreRows}

-- a line without a newline in it, and not too long
abbrev pub IsLine : List ℕ → Type 0
IsLine line = Lacks 10 line × (length line ≤ 16483)

abbrev pub AreShortLines : List (List ℕ) → Type 0
AreShortLines lines = AllByRecursion IsLine lines

pub lines_of_short : (lines : List (List ℕ)) → AreShortLines lines → AreLines lines
lines_of_short [] h = tt
lines_of_short (l ∷ lines) h = (h.0.0, lines_of_short lines h.1)

pub last_short : (lines : List (List ℕ)) (line : List ℕ) → AreShortLines (lines ++ line ∷ []) → IsLine line
last_short [] line h = h.0
last_short (l ∷ lines) line h = last_short lines line h.1

pub front_short : (lines more : List (List ℕ)) → AreShortLines (lines ++ more) → AreShortLines lines
front_short [] more h = tt
front_short (l ∷ lines) more h = (h.0, front_short lines more h.1)

pub nil_left : (xs ys : List (List ℕ)) → xs ++ ys ≡ [] → xs ≡ []
nil_left [] ys e = refl
nil_left (x ∷ xs) ys e = cc

after_files : (f : Option Compare) (n : ℕ) (fs after : List (List ℕ)) → end_lines f n ≡ fs ++ after → (0 < length fs → n < 2 ^ 64) → AreShortLines fs
after_files f n [] after e few = tt
after_files None n (l ∷ fs) after e few = cc
after_files (Some f) n (l ∷ fs) after e few =
    let h : end_line n ≡ l = cc in
    let t : [] ≡ fs ++ after = cc in
    let nil = nil_left fs after (sym t) in
    let small : n < 2 ^ 64 = few (omega arith) in
    let line : IsLine l = subst IsLine h (Lacks-end_line n small, length-end_line n small) in
    (line, subst AreShortLines (sym nil) tt)

files_front : (f : Option Compare) (n : ℕ) (rows : Rows) (fs after : List (List ℕ)) → AreRows rows → map file_line rows ++ end_lines f n ≡ fs ++ after → (length rows < length fs → n < 2 ^ 64) → AreShortLines fs
files_front f n [] fs after hr e few = after_files f n fs after e few
files_front f n (r ∷ rows) [] after hr e few = tt
files_front f n (r ∷ rows) (l ∷ fs) after hr e few =
    let h : file_line r ≡ l = cc in
    let t : map file_line rows ++ end_lines f n ≡ fs ++ after = cc in
    (subst IsLine h (Lacks-file_line r hr.0, length-file_line r hr.0), files_front f n rows fs after hr.1 t (λ lt. few (omega arith)))

-- the first lines of a listing of which there are fewer than 2^64
pub listing_front : (h : Header) (rows : Rows) (front after : List (List ℕ)) → IsHeader h → AreRows rows → listing_lines h rows ≡ front ++ after → length front < 2 ^ 64 → AreShortLines front
listing_front h rows [] after is hr e few = tt
listing_front h rows (l ∷ front) after is hr e few =
    let first : header_line h ≡ l = cc in
    let rest : map file_line rows ++ end_lines h.fields (length rows) ≡ front ++ after = cc in
    (subst IsLine first (Lacks-header_line h is, length-header_line h is), files_front h.fields (length rows) rows front after hr rest (λ lt. omega arith))

-- each line has its newline
pub lines_count : (lines : List (List ℕ)) → length lines ≤ length (text_of_lines lines)
lines_count [] = omega arith
lines_count (l ∷ lines) = let rest = lines_count lines in omega (arith, length-append (ended l) (text_of_lines lines), length-append l (10 ∷ []))

pub required_short : (limit : ℕ) (text : List ℕ) (n : ℕ) (a : AreAsRequired limit text n) → limit < 2 ^ 64 → AreShortLines a.front
required_short limit text n a small = listing_front a.header a.rows a.front a.after a.is_header a.are_listed.each a.lines (let c = lines_count a.front in omega (arith, a.within))

-- ---- the last of some lines

pub record HasLast (lines : List (List ℕ)) (n : ℕ) : Type 0 where
  pub before : List (List ℕ)
  pub last : List ℕ
  pub parts : lines ≡ before ++ last ∷ []
  pub number : length before ≡ n

pub last_of : (lines : List (List ℕ)) (n : ℕ) → length lines ≡ n + 1 → HasLast lines n
last_of [] n e = absurd (omega arith)
last_of (l ∷ []) n e = record { before = []; last = l; parts = refl; number = omega arith }
last_of (l ∷ m ∷ lines) zero e = absurd (omega arith)
last_of (l ∷ m ∷ lines) (suc n) e =
    let t = last_of (m ∷ lines) n (omega arith) in
    record { before = l ∷ t.before; last = t.last; parts = ap (λ (x : List (List ℕ)). l ∷ x) t.parts; number = omega (arith, t.number) }

pub text_last : (lines before : List (List ℕ)) (last rest : List ℕ) → lines ≡ before ++ last ∷ [] → text_of_lines lines ++ rest ≡ text_of_lines before ++ (last ++ 10 ∷ rest)
text_last lines before last rest e =
    ap (λ (x : List (List ℕ)). text_of_lines x ++ rest) e ∙ ap (λ (x : List ℕ). x ++ rest) (text-push before last)
    ∙ append_assoc (text_of_lines before ++ last) (10 ∷ []) rest ∙ append_assoc (text_of_lines before) last (10 ∷ rest)

pub length-text_last : (lines before : List (List ℕ)) (last : List ℕ) → lines ≡ before ++ last ∷ [] → length (text_of_lines lines) ≡ length (text_of_lines before) + length last + 1
length-text_last lines before last e =
    ap (λ (x : List (List ℕ)). length (text_of_lines x)) e ∙ ap length (text-push before last)
    ∙ omega (arith, length-append (text_of_lines before ++ last) (10 ∷ []), length-append (text_of_lines before) last)

-- ---- fewer lines

cut_lines : (k : ℕ) (lines : List (List ℕ)) → k ≤ length lines → (a : List (List ℕ)) × (b : List (List ℕ)) × (lines ≡ a ++ b) × (length a ≡ k)
cut_lines zero lines h = ([], lines, refl, refl)
cut_lines (suc k) [] h = absurd (omega arith)
cut_lines (suc k) (l ∷ lines) h =
    let t = cut_lines k lines (omega arith) in
    (l ∷ t.0, t.1, ap (λ (x : List (List ℕ)). l ∷ x) t.2, omega (arith, t.3))

text-cut : (a b : List (List ℕ)) (rest : List ℕ) → text_of_lines (a ++ b) ++ rest ≡ text_of_lines a ++ (text_of_lines b ++ rest)
text-cut a b rest = ap (λ (x : List ℕ). x ++ rest) (flat_map-append ended a b) ∙ append_assoc (text_of_lines a) (text_of_lines b) rest

-- so many of these lines are as required
pub required_cut : (limit : ℕ) (text : List ℕ) (n : ℕ) (h : Header) (rows : Rows) (front after : List (List ℕ)) (rest : List ℕ) → IsHeader h → AreListed h rows → listing_lines h rows ≡ front ++ after
    → text ≡ text_of_lines front ++ rest → length (text_of_lines front) ≤ limit → n ≤ length front → AreAsRequired limit text n
required_cut limit text n h rows front after rest is listed lines begins within few =
    let c = cut_lines n front few in
    let size = ap length (ap text_of_lines c.2 ∙ flat_map-append ended c.0 c.1) ∙ length-append (text_of_lines c.0) (text_of_lines c.1) in
    record {
      header = h;
      rows = rows;
      is_header = is;
      are_listed = listed;
      front = c.0;
      after = c.1 ++ after;
      lines = lines ∙ ap (λ (x : List (List ℕ)). x ++ after) c.2 ∙ append_assoc c.0 c.1 after;
      count = c.3;
      rest = text_of_lines c.1 ++ rest;
      begins = begins ∙ ap (λ (x : List (List ℕ)). text_of_lines x ++ rest) c.2 ∙ text-cut c.0 c.1 rest;
      within = omega (arith, size);
    }

pub required_fewer : (limit : ℕ) (text : List ℕ) (m n : ℕ) → n ≤ m → AreAsRequired limit text m → AreAsRequired limit text n
required_fewer limit text m n le a = required_cut limit text n a.header a.rows a.front a.after a.rest a.is_header a.are_listed a.lines a.begins a.within (omega (arith, a.count))

pub required_more : (limit : ℕ) (text more : List ℕ) (n : ℕ) → AreAsRequired limit text n → AreAsRequired limit (text ++ more) n
required_more limit text more n a = record {
  header = a.header;
  rows = a.rows;
  is_header = a.is_header;
  are_listed = a.are_listed;
  front = a.front;
  after = a.after;
  lines = a.lines;
  count = a.count;
  rest = a.rest ++ more;
  begins = ap (λ (x : List ℕ). x ++ more) a.begins ∙ append_assoc (text_of_lines a.front) a.rest more;
  within = a.within;
}

-- the lines of a listing text are as required
pub listing_required : (limit : ℕ) (h : Header) (rows : Rows) (text : List ℕ) (n : ℕ) → IsListingText limit h rows text → n ≤ length (listing_lines h rows) → AreAsRequired limit text n
unfolding listing_text
listing_required limit h rows text n t few =
    required_cut limit text n h rows (listing_lines h rows) [] [] t.is_header t.are_listed (sym (append-nil (listing_lines h rows))) (t.spelled ∙ sym (append-nil (text_of_lines (listing_lines h rows)))) (omega (arith, ap length t.spelled, t.within)) few

pub listing_short : (limit : ℕ) (h : Header) (rows : Rows) (text : List ℕ) → IsListingText limit h rows text → limit < 2 ^ 64 → AreShortLines (listing_lines h rows)
unfolding listing_text
listing_short limit h rows text t small =
    listing_front h rows (listing_lines h rows) [] t.is_header t.are_listed.each (sym (append-nil (listing_lines h rows)))
    (let c = lines_count (listing_lines h rows) in omega (arith, ap length t.spelled, t.within))

-- A text that begins with these lines, and of whose next line is known that it is not as required, is no listing
-- text, but where it ends there and these are all lines of a listing.
pub no_listing_from : (limit : ℕ) (text : List ℕ) (lines : List (List ℕ)) (rest : List ℕ) → limit < 2 ^ 64 → AreLines lines → text ≡ text_of_lines lines ++ rest
    → (AreAsRequired limit text (length lines + 1) → ⊥)
    → ((h : Header) (rows : Rows) → IsListingText limit h rows text → listing_lines h rows ≡ lines → rest ≡ [] → ⊥)
    → (h : Header) (rows : Rows) → IsListingText limit h rows text → ⊥
unfolding listing_text
no_listing_from limit text lines rest small are parts bad whole h rows t =
    let mine = lines_of_short (listing_lines h rows) (listing_short limit h rows text t small) in
    let joined : text_of_lines (listing_lines h rows) ++ [] ≡ text_of_lines lines ++ rest = append-nil (text_of_lines (listing_lines h rows)) ∙ sym t.spelled ∙ parts in
    elim (tri (length (listing_lines h rows)) (length lines)) [
      | inl less ↦ no_more_lines (listing_lines h rows) lines [] rest mine are tt less joined
      | inr o ↦ elim o [
        | inl same ↦ (let p = lines_apart (listing_lines h rows) lines [] rest mine are same joined in whole h rows t p.0 (sym p.1))
        | inr more ↦ bad (listing_required limit h rows text (length lines + 1) t (omega arith))
      ]
    ]
  where
    tri : (a b : ℕ) → (a < b) ⊎ ((a ≡ b) ⊎ (b < a))
    tri a b = grind arith
