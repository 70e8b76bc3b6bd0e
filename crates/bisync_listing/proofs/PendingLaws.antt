-- What of a text is still to come, from line to line.
use Rattle.std.proofs.Common.{◌≡◌, ℕ, zero, suc, ◌+◌, ◌≤◌, true, false, List, [], ◌∷◌, ◌++◌, length, map, take, drop, Option, Some, None, is_some, refl, sym, ap, ◌∙◌, append_assoc, arith, add-one, ◌-◌, length-append, length-drop}
use Rattle.std.specs.Prelude.{slice_get}
use Rattle.std.proofs.lemmas.List.{take-append-drop, drop-drop, take-append-le, length-take-le}
use Rattle.std.proofs.Math.Seq.{take-append-add, take-append_seam}
use borrow.Rule.Slice.PartMut.{put_mid, post_of}
use Rattle.bisync_tree.specs.Rows.{PathBytes, Rows, keys, values}
use Rattle.bisync_tree.specs.declared.entries.Entry.{Entry}
use Rattle.bisync_tree.specs.declared.entries.Compare.{Compare}
use Rattle.bisync_listing.specs.Words.{ended, text_of_lines}
use Rattle.bisync_listing.specs.Spelling.{header_line, file_line, end_line, end_lines, listing_text}
use Rattle.bisync_listing.specs.Writing.{lines_from}
use Rattle.bisync_listing.specs.declared.headers.Header.{Header}

pub drop_all : (xs : List ℕ) (n : ℕ) → length xs ≤ n → drop n xs ≡ []
drop_all [] zero h = refl
drop_all [] (suc n) h = refl
drop_all (x ∷ xs) zero h = absurd (omega arith)
drop_all (x ∷ xs) (suc n) h = drop_all xs n (omega arith)

rows_all : (rows : Rows) (n : ℕ) → length rows ≤ n → drop n rows ≡ []
rows_all [] zero h = refl
rows_all [] (suc n) h = refl
rows_all (r ∷ rows) zero h = absurd (omega arith)
rows_all (r ∷ rows) (suc n) h = rows_all rows n (omega arith)

rows_at : (rows : Rows) (n : ℕ) (path : PathBytes) (entry : Entry) → slice_get (keys rows) n ≡ Some path → slice_get (values rows) n ≡ Some entry → drop n rows ≡ (path, entry) ∷ drop (suc n) rows
rows_at [] n path entry p e = cc
rows_at (r ∷ rows) zero path entry p e = let first : r.0 ≡ path = cc in let second : r.1 ≡ entry = cc in λ i. (first i, second i) ∷ rows
rows_at (r ∷ rows) (suc n) path entry p e = rows_at rows n path entry p e

pub row_lines : (rows : Rows) (n : ℕ) (path : PathBytes) (entry : Entry) → slice_get (keys rows) n ≡ Some path → slice_get (values rows) n ≡ Some entry → lines_from false rows n ≡ file_line (path, entry) ∷ lines_from false rows (n + 1)
row_lines rows n path entry p e = ap (λ (rs : Rows). map file_line rs ++ end_line (length rows) ∷ []) (rows_at rows n path entry p e ∙ ap (λ (k : ℕ). (path, entry) ∷ drop k rows) (sym (add-one n)))

pub last_lines : (rows : Rows) (n : ℕ) → length rows ≤ n → lines_from false rows n ≡ end_line (length rows) ∷ []
last_lines rows n h = ap (λ (rs : Rows). map file_line rs ++ end_line (length rows) ∷ []) (rows_all rows n h)

-- a line that was given whole, and the next one
pub next_same : (old line : List ℕ) (given : ℕ) (lines rest : List (List ℕ)) (spelled : List ℕ) → length old ≤ given → line ≡ ended spelled → lines ≡ spelled ∷ rest → drop 0 line ++ text_of_lines rest ≡ drop given old ++ text_of_lines lines
next_same old line given lines rest spelled all is first =
    rw (drop_all old given all, first, is) refl

fields_there : (f : Option Compare) (fields : Compare) (n : ℕ) → f ≡ Some fields → end_lines f n ≡ end_line n ∷ []
fields_there f fields n e = ap (λ (x : Option Compare). end_lines x n) e

-- all of the text
pub whole_text : (header : Header) (rows : Rows) (fields : Compare) (line : List ℕ) → header.fields ≡ Some fields → line ≡ ended (header_line header) → drop 0 line ++ text_of_lines (lines_from false rows 0) ≡ listing_text header rows
unfolding listing_text
whole_text header rows fields line there is = rw (is, fields_there header.fields fields (length rows) there) refl

-- some bytes of a line
pub cut_line : (line more : List ℕ) (given count : ℕ) → drop given line ++ more ≡ take count (drop given line) ++ (drop (given + count) line ++ more)
cut_line line more given count =
    let cut : drop given line ≡ take count (drop given line) ++ drop (given + count) line = sym (take-append-drop count (drop given line)) ∙ ap (λ (x : List ℕ). take count (drop given line) ++ x) (drop-drop count given line) in
    ap (λ (x : List ℕ). x ++ more) cut ∙ append_assoc (take count (drop given line)) (drop (given + count) line) more

-- ---- a buffer that is filled from some place on

pub filled_more : (a j k : ℕ) (xs ys : List ℕ) → a ≤ length xs → j ≤ length ys → take (a + j) (put_mid a k xs ys) ≡ take a xs ++ take j ys
filled_more a j k xs ys ha hj =
    ap (λ (n : ℕ). take (n + j) (put_mid a k xs ys)) (sym (length-take-le a xs ha)) ∙ take-append-add (take a xs) (ys ++ post_of a k xs) j ∙ ap (λ (z : List ℕ). take a xs ++ z) (take-append-le j ys (post_of a k xs) hj)

pub given_more : (before mid after buffer ys : List ℕ) (a j k : ℕ) → a ≤ length buffer → j ≤ length ys → before ≡ take a buffer ++ mid → mid ≡ take j ys ++ after → before ≡ take (a + j) (put_mid a k buffer ys) ++ after
given_more before mid after buffer ys a j k ha hj e f =
    e ∙ ap (λ (z : List ℕ). take a buffer ++ z) f ∙ sym (append_assoc (take a buffer) (take j ys) after) ∙ ap (λ (z : List ℕ). z ++ after) (sym (filled_more a j k buffer ys ha hj))

-- the front of a buffer is what was copied there
pub given_front : (before line more copied left : List ℕ) (given count : ℕ) → before ≡ drop given line ++ more → copied ≡ take count (drop given line) → length copied ≡ count → before ≡ take count (copied ++ left) ++ (drop (given + count) line ++ more)
given_front before line more copied left given count e is long =
    e ∙ cut_line line more given count ∙ ap (λ (z : List ℕ). z ++ (drop (given + count) line ++ more)) (sym is ∙ sym (ap (λ (n : ℕ). take n (copied ++ left)) (sym long) ∙ take-append_seam copied left))

pub filled_within : (a j k : ℕ) (xs ys : List ℕ) → a ≤ length xs → j ≤ length ys → a + j ≤ length (put_mid a k xs ys)
filled_within a j k xs ys ha hj = omega (arith, length-append (take a xs) (ys ++ post_of a k xs), length-append ys (post_of a k xs), length-take-le a xs ha)

take_whole : (xs : List ℕ) (n : ℕ) → length xs ≤ n → take n xs ≡ xs
take_whole [] zero h = refl
take_whole [] (suc n) h = refl
take_whole (x ∷ xs) zero h = absurd (omega arith)
take_whole (x ∷ xs) (suc n) h = ap (λ (l : List ℕ). x ∷ l) (take_whole xs n (omega arith))

-- what is left of a line, as a range of it
pub left_of : (line : List ℕ) (given : ℕ) → take (length line - given) (drop given line) ≡ drop given line
left_of line given = take_whole (drop given line) (length line - given) (omega (arith, length-drop given line))

pub no_fields : (f : Option Compare) → is_some f ≡ true → f ≡ None → ⊥
no_fields None some none = cc
no_fields (Some f) some none = cc
