-- The lines of a listing: none has a newline in it, none is too long, and no two say the same.
use Rattle.std.proofs.Common.{◌≡◌, ℕ, ◌*◌, ◌<◌, ◌≤◌, ◌^◌, List, [], ◌∷◌, ◌++◌, length, Option, Some, None, IfSome, refl, sym, ap, ◌∙◌, arith, length-append, codes, ℤ, FitsSigned, w64}
use Rattle.bisync_text.specs.Path.{IsPath}
use Rattle.std.specs.Fmt.{decimal}
use Rattle.bisync_text.specs.Quote.{quoted}
use Rattle.bisync_text.specs.Time.{time_spelling}
use Rattle.bisync_text.proofs.DecimalLaws.{own_decimal, decimal_short}
use Rattle.bisync_text.proofs.TimeLaws.{length-spelling}
use Rattle.bisync_text.proofs.Quoting.{quoted-injective, length-quoted}
use Rattle.bisync_tree.specs.Rows.{PathBytes}
use Rattle.bisync_tree.specs.declared.entries.Entry.{Entry}
use Rattle.bisync_tree.specs.declared.entries.Compare.{Compare}
use Rattle.bisync_listing.specs.Words.{Lacks}
use Rattle.bisync_listing.specs.Spelling.{fields_text, header_text, header_line, hex_digits, digest_text, file_line, end_line}
use Rattle.bisync_listing.specs.ListingText.{AreFields, IsDigest, IsHeader, IsListed}
use Rattle.bisync_listing.specs.declared.headers.Header.{Header}
use Rattle.bisync_listing.proofs.LineLaws.{Lacks-append, append_cancel, head_same}
use Rattle.bisync_listing.proofs.FieldLaws.{Lacks-decimal, Lacks-time, Lacks-quoted, Lacks-digest, Lacks-names, length-names, decimal_apart, digest_apart, time_apart, fields_one}

-- ---- no newline

Lacks-v1 : Lacks 10 (codes "# bisync listing v1 stamp ")
Lacks-v1 = grind arith

Lacks-v2 : Lacks 10 (codes "# bisync listing v2 stamp ")
Lacks-v2 = grind arith

Lacks-fields : Lacks 10 (codes " fields ")
Lacks-fields = grind arith

Lacks-mark : Lacks 10 (codes "- ")
Lacks-mark = grind arith

Lacks-dash : Lacks 10 (codes " - ")
Lacks-dash = grind arith

Lacks-end : Lacks 10 (codes "# end ")
Lacks-end = grind arith

Lacks-files : Lacks 10 (codes " files")
Lacks-files = grind arith

Lacks-header_text : (stamp : ℕ) (fields : Option Compare) → stamp < 2 ^ 64 → Lacks 10 (header_text stamp fields)
Lacks-header_text stamp None h = Lacks-append 10 (codes "# bisync listing v1 stamp ") (decimal stamp) Lacks-v1 (Lacks-decimal 10 stamp (omega arith) h)
Lacks-header_text stamp (Some f) h =
    let fields = Lacks-append 10 (codes " fields ") (fields_text f) Lacks-fields (Lacks-names f.size f.time f.hash) in
    let rest = Lacks-append 10 (decimal stamp) (codes " fields " ++ fields_text f) (Lacks-decimal 10 stamp (omega arith) h) fields in
    Lacks-append 10 (codes "# bisync listing v2 stamp ") (decimal stamp ++ (codes " fields " ++ fields_text f)) Lacks-v2 rest

pub Lacks-header_line : (h : Header) → IsHeader h → Lacks 10 (header_line h)
unfolding header_line
Lacks-header_line h is = Lacks-header_text h.stamp h.fields (omega (arith, is.high))

Lacks-space : (rest : List ℕ) → Lacks 10 rest → Lacks 10 (32 ∷ rest)
Lacks-space rest h = (omega arith, h)

pub Lacks-file_line : (row : PathBytes × Entry) → IsListed row → Lacks 10 (file_line row)
unfolding file_line
Lacks-file_line row is =
    let path = Lacks-space (quoted row.0) (Lacks-quoted row.0) in
    let time = Lacks-append 10 (time_spelling row.1.time) (32 ∷ quoted row.0) (Lacks-time 10 row.1.time (omega arith)) path in
    let dash = Lacks-append 10 (codes " - ") (time_spelling row.1.time ++ (32 ∷ quoted row.0)) Lacks-dash time in
    let digest = Lacks-append 10 (digest_text row.1.hash) (codes " - " ++ (time_spelling row.1.time ++ (32 ∷ quoted row.0))) (Lacks-digest 10 row.1.hash (omega arith)) dash in
    let space = Lacks-space (digest_text row.1.hash ++ (codes " - " ++ (time_spelling row.1.time ++ (32 ∷ quoted row.0)))) digest in
    let size = Lacks-append 10 (decimal row.1.size) (32 ∷ (digest_text row.1.hash ++ (codes " - " ++ (time_spelling row.1.time ++ (32 ∷ quoted row.0))))) (Lacks-decimal 10 row.1.size (omega arith) is.size) space in
    Lacks-append 10 (codes "- ") (decimal row.1.size ++ (32 ∷ (digest_text row.1.hash ++ (codes " - " ++ (time_spelling row.1.time ++ (32 ∷ quoted row.0)))))) Lacks-mark size

pub Lacks-end_line : (n : ℕ) → n < 2 ^ 64 → Lacks 10 (end_line n)
unfolding end_line
Lacks-end_line n h =
    let rest = Lacks-append 10 (decimal n) (codes " files") (Lacks-decimal 10 n (omega arith) h) Lacks-files in
    Lacks-append 10 (codes "# end ") (decimal n ++ codes " files") Lacks-end rest

-- ---- no more bytes than a line may have

length-hex_digits : (bytes : List ℕ) → length (hex_digits bytes) ≡ 2 * length bytes
length-hex_digits [] = refl
length-hex_digits (b ∷ bytes) = omega (arith, length-hex_digits bytes)

length-digest : (hash : Option (List ℕ)) → IfSome hash IsDigest → length (digest_text hash) ≤ 36
length-digest None h = omega arith
length-digest (Some bytes) h = omega (arith, length-hex_digits bytes, h.count)

pub length-header_text : (stamp : ℕ) (fields : Option Compare) → stamp < 2 ^ 64 → length (header_text stamp fields) ≤ 16483
length-header_text stamp None h = omega (arith, decimal_short stamp h)
length-header_text stamp (Some f) h = omega (arith, decimal_short stamp h, length-append (decimal stamp) (codes " fields " ++ fields_text f), length-names f.size f.time f.hash)

pub length-header_line : (h : Header) → IsHeader h → length (header_line h) ≤ 16483
unfolding header_line
length-header_line h is = length-header_text h.stamp h.fields (omega (arith, is.high))

pub length-file_line : (row : PathBytes × Entry) → IsListed row → length (file_line row) ≤ 16483
unfolding file_line
length-file_line row is =
    let a = decimal_short row.1.size is.size in
    let b = length-digest row.1.hash is.hash in
    let c = length-spelling row.1.time in
    let d = (length-quoted row.0).1 in
    let e = is.path.short in
    omega (
      arith,
      length-append (decimal row.1.size) (32 ∷ (digest_text row.1.hash ++ (codes " - " ++ (time_spelling row.1.time ++ (32 ∷ quoted row.0))))),
      length-append (digest_text row.1.hash) (codes " - " ++ (time_spelling row.1.time ++ (32 ∷ quoted row.0))),
      length-append (time_spelling row.1.time) (32 ∷ quoted row.0),
    )

pub length-end_line : (n : ℕ) → n < 2 ^ 64 → length (end_line n) ≤ 16483
unfolding end_line
length-end_line n h = omega (arith, decimal_short n h, length-append (decimal n) (codes " files"))

pub some-header_line : (h : Header) → 1 ≤ length (header_line h)
unfolding header_line
some-header_line h = go h.fields
  where
    go : (fields : Option Compare) → 1 ≤ length (header_text h.stamp fields)
    go None = omega arith
    go (Some f) = omega arith

pub some-file_line : (row : PathBytes × Entry) → 1 ≤ length (file_line row)
unfolding file_line
some-file_line row = omega arith

pub some-end_line : (n : ℕ) → 1 ≤ length (end_line n)
unfolding end_line
some-end_line n = omega arith

-- ---- one line, one meaning

v1_cut : (x y : List ℕ) → codes "# bisync listing v1 stamp " ++ x ≡ codes "# bisync listing v1 stamp " ++ y → x ≡ y
v1_cut x y e = append_cancel (codes "# bisync listing v1 stamp ") x y e

v2_cut : (x y : List ℕ) → codes "# bisync listing v2 stamp " ++ x ≡ codes "# bisync listing v2 stamp " ++ y → x ≡ y
v2_cut x y e = append_cancel (codes "# bisync listing v2 stamp ") x y e

fields_cut : (x y : List ℕ) → codes "fields " ++ x ≡ codes "fields " ++ y → x ≡ y
fields_cut x y e = append_cancel (codes "fields ") x y e

pub versions_apart : (x y : List ℕ) → codes "# bisync listing v1 stamp " ++ x ≡ codes "# bisync listing v2 stamp " ++ y → ⊥
versions_apart x y e =
    let h = append_cancel (codes "# bisync listing v") (codes "1 stamp " ++ x) (codes "2 stamp " ++ y) e in
    omega (arith, (head_same 49 50 (codes " stamp " ++ x) (codes " stamp " ++ y) h).0)

header_text_one : (m n : ℕ) (f g : Option Compare) → m < 2 ^ 64 → n < 2 ^ 64 → IfSome f AreFields → IfSome g AreFields → header_text m f ≡ header_text n g → (m ≡ n) × (f ≡ g)
header_text_one m n None None hm hn hf hg e = (own_decimal n hn m hm (v1_cut _ _ e), refl)
header_text_one m n None (Some g) hm hn hf hg e = absurd (versions_apart _ _ e)
header_text_one m n (Some f) None hm hn hf hg e = absurd (versions_apart _ _ (sym e))
header_text_one m n (Some f) (Some g) hm hn hf hg e =
    let d = decimal_apart m n _ _ hm hn (v2_cut _ _ e) in
    (d.0, ap (λ (x : Compare). Some x) (fields_one f g hf hg (fields_cut _ _ d.1)))

pub header_line_one : (g h : Header) → IsHeader g → IsHeader h → header_line g ≡ header_line h → g ≡ h
unfolding header_line
header_line_one g h hg hh e =
    let p = header_text_one g.stamp h.stamp g.fields h.fields (omega (arith, hg.high)) (omega (arith, hh.high)) hg.fields hh.fields e in
    λ i. record { stamp = p.0 i; fields = p.1 i }

mark_cut : (x y : List ℕ) → codes "- " ++ x ≡ codes "- " ++ y → x ≡ y
mark_cut x y e = append_cancel (codes "- ") x y e

-- what a file line says, with its path still quoted
abbrev pub file_text : ℕ → Option (List ℕ) → ℤ → List ℕ → List ℕ
file_text size hash time path = codes "- " ++ (decimal size ++ (32 ∷ (digest_text hash ++ (codes " - " ++ (time_spelling time ++ (32 ∷ path))))))

pub file_text_one : (s z : ℕ) (g h : Option (List ℕ)) (t u : ℤ) (p q : List ℕ) → s < 2 ^ 64 → z < 2 ^ 64 → IfSome g IsDigest → IfSome h IsDigest → FitsSigned w64 t → FitsSigned w64 u
    → file_text s g t p ≡ file_text z h u q → (s ≡ z) × (g ≡ h) × (t ≡ u) × (p ≡ q)
file_text_one s z g h t u p q hs hz hg hh ht hu e =
    let a = decimal_apart s z (digest_text g ++ (codes " - " ++ (time_spelling t ++ (32 ∷ p)))) (digest_text h ++ (codes " - " ++ (time_spelling u ++ (32 ∷ q)))) hs hz (mark_cut _ _ e) in
    let b = digest_apart g h (codes "- " ++ (time_spelling t ++ (32 ∷ p))) (codes "- " ++ (time_spelling u ++ (32 ∷ q))) hg hh a.1 in
    let c = time_apart t u p q ht hu (mark_cut _ _ b.1) in
    (a.0, b.0, c.0, c.1)

pub file_line_one : (r s : PathBytes × Entry) → IsListed r → IsListed s → file_line r ≡ file_line s → r ≡ s
unfolding file_line
file_line_one r s hr hs e =
    let x = file_text_one r.1.size s.1.size r.1.hash s.1.hash r.1.time s.1.time (quoted r.0) (quoted s.0) hr.size hs.size hr.hash hs.hash hr.time hs.time e in
    let d = quoted-injective r.0 s.0 x.3 in
    λ i. (d i, record { size = x.0 i; time = x.2 i; hash = x.1 i })

-- the path of a line that is read as far as its path
pub path_of_line : (line : List ℕ) (s : ℕ) (g : Option (List ℕ)) (t : ℤ) (p : List ℕ) (r : PathBytes × Entry) → s < 2 ^ 64 → IfSome g IsDigest → FitsSigned w64 t → line ≡ file_text s g t p → IsListed r → line ≡ file_line r → p ≡ quoted r.0
unfolding file_line
path_of_line line s g t p r hs hg ht parts hr e = (file_text_one s r.1.size g r.1.hash t r.1.time p (quoted r.0) hs hr.size hg hr.hash ht hr.time (sym parts ∙ e)).3

pub line_of_parts : (line : List ℕ) (s : ℕ) (g : Option (List ℕ)) (t : ℤ) (p path : List ℕ) → s < 2 ^ 64 → IfSome g IsDigest → FitsSigned w64 t → line ≡ file_text s g t p → IsPath path → p ≡ quoted path
    → let r : PathBytes × Entry = (path, record { size = s; time = t; hash = g }) in IsListed r × (line ≡ file_line r)
unfolding file_line
line_of_parts line s g t p path hs hg ht parts is e = (record { path = is; size = hs; time = ht; hash = hg }, parts ∙ ap (λ (x : List ℕ). file_text s g t x) e)

end_cut : (x y : List ℕ) → codes "# end " ++ x ≡ codes "# end " ++ y → x ≡ y
end_cut x y e = append_cancel (codes "# end ") x y e

pub end_line_one : (m n : ℕ) → m < 2 ^ 64 → n < 2 ^ 64 → end_line m ≡ end_line n → m ≡ n
unfolding end_line
end_line_one m n hm hn e = (decimal_apart m n (codes "files") (codes "files") hm hn (end_cut _ _ e)).0

-- the line of a file is no end line
pub file_no_end : (r : PathBytes × Entry) (n : ℕ) → file_line r ≡ end_line n → ⊥
unfolding file_line end_line
file_no_end r n e = cc
