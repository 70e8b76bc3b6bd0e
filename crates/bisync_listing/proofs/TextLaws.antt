-- A listing text is that of one header and one listing.
use Rattle.std.proofs.Common.{◌≡◌, ℕ, List, [], ◌∷◌, ◌++◌, map, Option, Some, None, refl, sym, ◌∙◌, append_assoc}
use Rattle.std.specs.List.{AllByRecursion}
use Rattle.bisync_tree.specs.Rows.{PathBytes, Rows}
use Rattle.bisync_tree.specs.declared.entries.Entry.{Entry}
use Rattle.bisync_tree.specs.declared.entries.Compare.{Compare}
use Rattle.bisync_listing.specs.Words.{AreLines, text_of_lines}
use Rattle.bisync_listing.specs.Spelling.{file_line, end_line, end_lines}
use Rattle.bisync_listing.specs.ListingText.{IsListed}
use Rattle.bisync_listing.proofs.LineLaws.{cut_apart, lacks_none}
use Rattle.bisync_listing.proofs.SpellingLaws.{Lacks-file_line, file_line_one, file_no_end}

abbrev pub AreRows : Rows → Type 0
AreRows rows = AllByRecursion IsListed rows

-- a number of files is that of a list in memory, or of a text that is there
pub AreLines-files : (rows : Rows) → AreRows rows → AreLines (map file_line rows)
AreLines-files [] h = tt
AreLines-files (r ∷ rows) h = (Lacks-file_line r h.0, AreLines-files rows h.1)

-- the lines of a text that is whole
pub lines_same : (ls ms : List (List ℕ)) → AreLines ls → AreLines ms → text_of_lines ls ≡ text_of_lines ms → ls ≡ ms
lines_same [] [] hl hm e = refl
lines_same [] (m ∷ ms) hl hm e = absurd (lacks_none 10 [] m (text_of_lines ms) tt (e ∙ append_assoc m (10 ∷ []) (text_of_lines ms)))
lines_same (l ∷ ls) [] hl hm e = absurd (lacks_none 10 [] l (text_of_lines ls) tt (sym e ∙ append_assoc l (10 ∷ []) (text_of_lines ls)))
lines_same (l ∷ ls) (m ∷ ms) hl hm e =
    let h = cut_apart 10 l m (text_of_lines ls) (text_of_lines ms) hl.0 hm.0 (sym (append_assoc l (10 ∷ []) (text_of_lines ls)) ∙ e ∙ append_assoc m (10 ∷ []) (text_of_lines ms)) in
    let t = lines_same ls ms hl.1 hm.1 h.1 in
    rw (h.0, t) refl

pub end_no_file : (f : Option Compare) (n : ℕ) (r : PathBytes × Entry) (rest : List (List ℕ)) → end_lines f n ≡ file_line r ∷ rest → ⊥
end_no_file None n r rest e = cc
end_no_file (Some f) n r rest e = let h : end_line n ≡ file_line r = cc in file_no_end r n (sym h)

pub rows_one : (f : Option Compare) (m n : ℕ) (rows others : Rows) → AreRows rows → AreRows others → map file_line rows ++ end_lines f m ≡ map file_line others ++ end_lines f n → rows ≡ others
rows_one f m n [] [] hr ho e = refl
rows_one f m n [] (s ∷ others) hr ho e = absurd (end_no_file f m s _ e)
rows_one f m n (r ∷ rows) [] hr ho e = absurd (end_no_file f n r _ (sym e))
rows_one f m n (r ∷ rows) (s ∷ others) hr ho e =
    let h : file_line r ≡ file_line s = cc in
    let t : map file_line rows ++ end_lines f m ≡ map file_line others ++ end_lines f n = cc in
    let first = file_line_one r s hr.0 ho.0 h in
    let rest = rows_one f m n rows others hr.1 ho.1 t in
    λ i. first i ∷ rest i
