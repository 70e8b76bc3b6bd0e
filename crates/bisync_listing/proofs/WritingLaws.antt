-- Lines that are written piece by piece.
use Rattle.std.proofs.Common.{◌≡◌, ℕ, List, [], ◌∷◌, ◌++◌, codes, sym, ap, ◌∙◌, append_assoc}
use Rattle.std.specs.Fmt.{decimal}
use Rattle.bisync_text.specs.Quote.{quoted}
use Rattle.bisync_text.specs.Time.{time_spelling}
use Rattle.bisync_tree.specs.Rows.{PathBytes}
use Rattle.bisync_tree.specs.declared.entries.Compare.{Compare}
use Rattle.bisync_tree.specs.declared.entries.Entry.{Entry}
use Rattle.bisync_listing.specs.Words.{ended}
use Rattle.bisync_listing.specs.Spelling.{field_names, header_line, file_line, end_line, digest_text}
use Rattle.bisync_listing.specs.declared.headers.Header.{Header}
use Rattle.std.proofs.Common.{Some}

five : (a b c d e : List ℕ) → (((([] ++ a) ++ b) ++ c) ++ d) ++ e ≡ (a ++ (b ++ (c ++ d))) ++ e
five a b c d e = simp append_assoc

three : (a b c : List ℕ) → (([] ++ a) ++ b) ++ c ≡ a ++ (b ++ c)
three a b c = simp append_assoc

nine : (a b c d e f g h i : List ℕ) → (((((((([] ++ a) ++ b) ++ c) ++ d) ++ e) ++ f) ++ g) ++ h) ++ i ≡ (a ++ (b ++ (c ++ (d ++ (e ++ (f ++ (g ++ h))))))) ++ i
nine a b c d e f g h i = simp append_assoc

pub header_written : (stamp : ℕ) (f : Compare) (l0 l1 l2 l3 l4 l5 : List ℕ) → l0 ≡ [] → l1 ≡ l0 ++ codes "# bisync listing v2 stamp " → l2 ≡ l1 ++ decimal stamp → l3 ≡ l2 ++ codes " fields " → l4 ≡ l3 ++ field_names f.size f.time f.hash → l5 ≡ l4 ++ 10 ∷ []
    → let h : Header = record { stamp = stamp; fields = Some f } in l5 ≡ ended (header_line h)
unfolding header_line
header_written stamp f l0 l1 l2 l3 l4 l5 e0 e1 e2 e3 e4 e5 =
    rw (e5, e4, e3, e2, e1, e0) (five (codes "# bisync listing v2 stamp ") (decimal stamp) (codes " fields ") (field_names f.size f.time f.hash) (10 ∷ []))

pub end_written : (count : ℕ) (l0 l1 l2 l3 : List ℕ) → l0 ≡ [] → l1 ≡ l0 ++ codes "# end " → l2 ≡ l1 ++ decimal count → l3 ≡ l2 ++ (codes " files" ++ 10 ∷ []) → l3 ≡ ended (end_line count)
unfolding end_line
end_written count l0 l1 l2 l3 e0 e1 e2 e3 =
    rw (e3, e2, e1, e0) (three (codes "# end ") (decimal count) (codes " files" ++ 10 ∷ []) ∙ sym (append_assoc (codes "# end ") (decimal count ++ codes " files") (10 ∷ []) ∙ ap (λ (x : List ℕ). codes "# end " ++ x) (append_assoc (decimal count) (codes " files") (10 ∷ []))))

pub file_written : (row : PathBytes × Entry) (l0 l1 l2 l3 l4 l5 l6 l7 l8 l9 : List ℕ) → l0 ≡ [] → l1 ≡ l0 ++ codes "- " → l2 ≡ l1 ++ decimal row.1.size → l3 ≡ l2 ++ 32 ∷ [] → l4 ≡ l3 ++ digest_text row.1.hash → l5 ≡ l4 ++ codes " - "
    → l6 ≡ l5 ++ time_spelling row.1.time → l7 ≡ l6 ++ 32 ∷ [] → l8 ≡ l7 ++ quoted row.0 → l9 ≡ l8 ++ 10 ∷ [] → l9 ≡ ended (file_line row)
unfolding file_line
file_written row l0 l1 l2 l3 l4 l5 l6 l7 l8 l9 e0 e1 e2 e3 e4 e5 e6 e7 e8 e9 =
    rw (e9, e8, e7, e6, e5, e4, e3, e2, e1, e0) (nine (codes "- ") (decimal row.1.size) (32 ∷ []) (digest_text row.1.hash) (codes " - ") (time_spelling row.1.time) (32 ∷ []) (quoted row.0) (10 ∷ []))
