-- What may come after lines that a reader has seen, in any listing that begins with them.
use Rattle.std.proofs.Common.{◌≡◌, ℕ, ◌<◌, ◌^◌, ◌⊎◌, inl, inr, true, List, [], ◌∷◌, ◌++◌, length, map, Option, Some, None, is_some, refl, sym, ap, subst, ◌∙◌, append_assoc, arith, length-append}
use Rattle.std.specs.List.{AllByRecursion}
use Rattle.bisync_tree.specs.Rows.{PathBytes, Rows, keys, AreRising, IsAboveLast}
use Rattle.bisync_tree.specs.declared.entries.Entry.{Entry}
use Rattle.bisync_tree.specs.declared.entries.Compare.{Compare}
use Rattle.bisync_listing.specs.Words.{AreLines}
use Rattle.bisync_listing.specs.Spelling.{file_line, end_line, end_lines, listing_lines}
use Rattle.bisync_listing.specs.ListingText.{IsHeader, IsListed, HasDigestFor, AreListed}
use Rattle.bisync_listing.specs.declared.headers.Header.{Header}
use Rattle.bisync_listing.specs.declared.progress.Place.{Place}
use Rattle.bisync_listing.specs.declared.progress.Place.TheVariants.{Start, Open, Closed}
use Rattle.bisync_listing.specs.Progress.{lines_at, IsGoodAt, MayFollow, CanFollow, IsWhole}
use Rattle.bisync_listing.proofs.LineLaws.{AreLines-append}
use Rattle.bisync_listing.proofs.SpellingLaws.{Lacks-header_line, Lacks-end_line, header_line_one, file_line_one, file_no_end}
use Rattle.bisync_listing.proofs.TextLaws.{AreRows, AreLines-files, end_no_file}

-- the next line is that of a further row, or the rows end there
abbrev IsNext : Option Compare → ℕ → Rows → Rows → List ℕ → List (List ℕ) → Type 0
IsNext f n others rows line rest = ((row : PathBytes × Entry) × (more : Rows) × (others ≡ rows ++ row ∷ more) × (line ≡ file_line row)) ⊎ ((others ≡ rows) × (end_lines f n ≡ line ∷ rest))

row_heads : (a b : List ℕ) (x y : List (List ℕ)) → a ∷ x ≡ b ∷ y → (a ≡ b) × (x ≡ y)
row_heads a b x y e = (cc, cc)

next_row : (f : Option Compare) (n : ℕ) (others rows : Rows) (line : List ℕ) (rest : List (List ℕ)) → AreRows others → AreRows rows → map file_line others ++ end_lines f n ≡ map file_line rows ++ line ∷ rest → IsNext f n others rows line rest
next_row f n [] [] line rest ho hr e = inr (refl, e)
next_row f n (s ∷ others) [] line rest ho hr e = inl (s, others, refl, sym (row_heads _ _ _ _ e).0)
next_row f n [] (r ∷ rows) line rest ho hr e = absurd (end_no_file f n r (map file_line rows ++ line ∷ rest) e)
next_row f n (s ∷ others) (r ∷ rows) line rest ho hr e =
    let h = row_heads _ _ _ _ e in
    let first = file_line_one s r ho.0 hr.0 h.0 in
    elim (next_row f n others rows line rest ho.1 hr.1 h.1) [
      | inl x ↦ inl (x.0, x.1, (λ i. first i ∷ x.2 i), x.3)
      | inr y ↦ inr ((λ i. first i ∷ y.0 i), y.1)
    ]

-- ---- what a listing says of the row after some rows

each_at : (P : PathBytes × Entry → Type 0) (rows : Rows) (row : PathBytes × Entry) (more : Rows) → AllByRecursion P (rows ++ row ∷ more) → P row
each_at P [] row more h = h.0
each_at P (r ∷ rows) row more h = each_at P rows row more h.1

above_at : (p : PathBytes) (rows : Rows) (row : PathBytes × Entry) (more : Rows) → AreRising (p ∷ keys (rows ++ row ∷ more)) → IsAboveLast (p ∷ keys rows) row.0
above_at p [] row more h = h.0.0
above_at p (r ∷ rows) row more h = above_at r.0 rows row more h.1

rising_at : (rows : Rows) (row : PathBytes × Entry) (more : Rows) → AreRising (keys (rows ++ row ∷ more)) → IsAboveLast (keys rows) row.0
rising_at [] row more h = tt
rising_at (r ∷ rows) row more h = above_at r.0 rows row more h

may_follow : (h : Header) (rows : Rows) (row : PathBytes × Entry) (more : Rows) → AreListed h (rows ++ row ∷ more) → MayFollow h rows row
may_follow h rows row more a = record {
  listed = each_at IsListed rows row more a.each;
  digest = each_at (λ r. HasDigestFor h.fields r.1) rows row more a.digests;
  above = rising_at rows row more a.rising;
}

-- ---- the line after those that a reader has seen

end_is : (f : Option Compare) (n : ℕ) (line : List ℕ) (rest : List (List ℕ)) → end_lines f n ≡ line ∷ rest → (is_some f ≡ true) × (line ≡ end_line n) × (rest ≡ [])
end_is None n line rest e = absurd (let bad : [] ≡ line ∷ rest = e in cc)
end_is (Some f) n line rest e = let h = row_heads _ _ _ _ e in (refl, sym h.0, sym h.1)

open_next : (h g : Header) (rows others : Rows) (line : List ℕ) (rest : List (List ℕ)) → AreListed h rows → AreListed g others → g ≡ h → map file_line others ++ end_lines g.fields (length others) ≡ map file_line rows ++ line ∷ rest → CanFollow Open h rows line
open_next h g rows others line rest listed a same e =
    elim (next_row g.fields (length others) others rows line rest a.each listed.each e) [
      | inl x ↦ (
          let b : AreListed g (rows ++ x.0 ∷ x.1) = subst (λ (rs : Rows). AreListed g rs) x.2 a in
          let c : AreListed h (rows ++ x.0 ∷ x.1) = subst (λ (k : Header). AreListed k (rows ++ x.0 ∷ x.1)) same b in
          inl (x.0, may_follow h rows x.0 x.1 c, x.3))
      | inr y ↦ (
          let t = end_is g.fields (length others) line rest y.1 in
          inr (ap (λ (k : Header). is_some k.fields) (sym same) ∙ t.0, t.1 ∙ ap (λ (rs : Rows). end_line (length rs)) y.0))
    ]

closed_next : (h g : Header) (rows others : Rows) (line : List ℕ) (rest : List (List ℕ)) → AreListed h rows → AreListed g others → map file_line others ++ end_lines g.fields (length others) ≡ map file_line rows ++ end_line (length rows) ∷ (line ∷ rest) → ⊥
closed_next h g rows others line rest listed a e =
    elim (next_row g.fields (length others) others rows (end_line (length rows)) (line ∷ rest) a.each listed.each e) [
      | inl x ↦ file_no_end x.0 (length rows) (sym x.3)
      | inr y ↦ (let t = end_is g.fields (length others) (end_line (length rows)) (line ∷ rest) y.1 in let bad : line ∷ rest ≡ [] = t.2 in absurd cc)
    ]

-- after these lines no other line stands in any listing
pub next_line : (place : Place) (h : Header) (rows : Rows) → IsGoodAt place h rows → (g : Header) (others : Rows) (line : List ℕ) (after : List (List ℕ)) → IsHeader g → AreListed g others
    → listing_lines g others ≡ (lines_at place h rows ++ line ∷ []) ++ after → CanFollow place h rows line
unfolding lines_at
next_line Start h rows good g others line after is a e = (g, is, sym (row_heads _ _ _ _ e).0)
next_line Open h rows good g others line after is a e =
    let t = row_heads _ _ _ _ e in
    let same = header_line_one g h is good.0 t.0 in
    open_next h g rows others line after good.1 a same (t.1 ∙ append_assoc (map file_line rows) (line ∷ []) after)
next_line Closed h rows good g others line after is a e =
    let t = row_heads _ _ _ _ e in
    absurd (closed_next h g rows others line after good.1 a
    (t.1 ∙ append_assoc (map file_line rows ++ end_line (length rows) ∷ []) (line ∷ []) after ∙ append_assoc (map file_line rows) (end_line (length rows) ∷ []) (line ∷ after)))

-- ---- the lines that a reader has seen

pub good_lines : (place : Place) (h : Header) (rows : Rows) → IsGoodAt place h rows → length (lines_at place h rows) < 2 ^ 64 → AreLines (lines_at place h rows)
unfolding lines_at
good_lines Start h rows good few = tt
good_lines Open h rows good few = (Lacks-header_line h good.0, AreLines-files rows good.1.each)
good_lines Closed h rows good few =
    let small : length rows < 2 ^ 64 = omega (arith, length-append (map file_line rows) (end_line (length rows) ∷ []), length-files rows) in
    (Lacks-header_line h good.0, AreLines-append (map file_line rows) (end_line (length rows) ∷ []) (AreLines-files rows good.1.each) (Lacks-end_line (length rows) small, tt))
  where
    length-files : (rs : Rows) → length (map file_line rs) ≡ length rs
    length-files [] = refl
    length-files (r ∷ rs) = omega (arith, length-files rs)

no_rows_left : (f : Option Compare) (n : ℕ) (others rows : Rows) → AreRows others → AreRows rows → is_some f ≡ true → map file_line others ++ end_lines f n ≡ map file_line rows → ⊥
no_rows_left None n others rows ho hr some e = absurd cc
no_rows_left (Some f) n [] [] ho hr some e = let bad : end_line n ∷ [] ≡ [] = e in cc
no_rows_left (Some f) n (s ∷ others) [] ho hr some e = cc
no_rows_left (Some f) n [] (r ∷ rows) ho hr some e = file_no_end r n (sym (row_heads _ _ _ _ e).0)
no_rows_left (Some f) n (s ∷ others) (r ∷ rows) ho hr some e = no_rows_left (Some f) n others rows ho.1 hr.1 some (row_heads _ _ _ _ e).1

fields_cases : (f : Option Compare) → (f ≡ None) ⊎ (is_some f ≡ true)
fields_cases None = inl refl
fields_cases (Some f) = inr refl

-- lines of a listing are whole
pub whole_lines : (place : Place) (h : Header) (rows : Rows) → IsGoodAt place h rows → (g : Header) (others : Rows) → IsHeader g → AreListed g others → listing_lines g others ≡ lines_at place h rows → IsWhole place h
unfolding lines_at
whole_lines Start h rows good g others is a e = absurd cc
whole_lines Open h rows good g others is a e =
    let t = row_heads _ _ _ _ e in
    let same = header_line_one g h is good.0 t.0 in
    elim (fields_cases g.fields) [
      | inl none ↦ ap (λ (k : Header). k.fields) (sym same) ∙ none
      | inr some ↦ absurd (no_rows_left g.fields (length others) others rows a.each good.1.each some t.1)
    ]
whole_lines Closed h rows good g others is a e = tt
