-- What a reader knows of its text, kept by each step.
use Rattle.std.proofs.Common.{◌≡◌, ℕ, ◌+◌, ◌-◌, ◌<◌, ◌≤◌, ◌⊎◌, inl, inr, List, [], ◌∷◌, ◌++◌, length, Option, Some, None, Result, Err, refl, sym, ap, subst, ◌∙◌, append_assoc, arith, length-append, is_some, true}
use Rattle.std.specs.List.{AllByRecursion}
use Rattle.std.proofs.lemmas.List.{append-nil, map-append}
use Rattle.bisync_tree.specs.Rows.{PathBytes, Rows}
use Rattle.bisync_tree.specs.declared.entries.Entry.{Entry}
use Rattle.bisync_tree.proofs.SearchLemmas.{rising_rows_push}
use Rattle.bisync_listing.specs.Words.{Lacks, text_of_lines}
use Rattle.bisync_listing.specs.Spelling.{header_line, file_line, end_line}
use Rattle.bisync_listing.specs.ListingText.{IsHeader, IsListed, HasDigestFor, AreListed}
use Rattle.bisync_listing.specs.declared.headers.Header.{Header}
use Rattle.bisync_listing.specs.declared.faults.ListingFault.{ListingFault}
use Rattle.bisync_listing.specs.declared.faults.ListingFault.TheVariants.{BadLine, OutOfMemory}
use Rattle.bisync_listing.specs.declared.progress.Place.{Place}
use Rattle.bisync_listing.specs.declared.progress.Place.TheVariants.{Start, Open, Closed}
use Rattle.bisync_listing.specs.declared.progress.Progress.{Progress}
use Rattle.bisync_listing.specs.Progress.{lines_at, text_at, IsGoodAt, MayFollow, CanFollow, IsBad, IsReading, IsSound, IsSoundAt, IsCause, Takes, text_so_far}
use Rattle.bisync_listing.proofs.LineLaws.{Lacks-append, text-push}

-- ---- a call that fails

pub sound_failed : (p new : Progress) (e : ListingFault) → new ≡ record p { fault = Some e } → IsSound new
sound_failed p new e same = subst IsSound (sym same) tt

pub takes_failed : (p new : Progress) (e : ListingFault) (piece : List ℕ) (result : Result Unit ListingFault) → new ≡ record p { fault = Some e } → result ≡ Err e → IsCause p.limit e (text_so_far p ++ piece) → Takes p piece result new
takes_failed p new e piece result same is cause =
    subst (λ (x : Result Unit ListingFault). Takes p piece x new) (sym is) (ap (λ (x : Progress). x.fault) same, cause)

-- ---- the three causes

pub bad_long : (p : Progress) (bytes : List ℕ) → IsReading p → Lacks 10 bytes → (16483 < length p.line + length bytes) ⊎ (p.limit < p.used + length bytes) → IsBad p.limit (p.lines + 1) (text_so_far p ++ bytes)
bad_long p bytes s one long =
    let len = length-append (text_at p.place p.header p.rows) p.line in
    record {
      place = p.place;
      header = p.header;
      rows = p.rows;
      before = s.good;
      number = ap (λ (n : ℕ). n + 1) s.number;
      room = p.limit - length (text_at p.place p.header p.rows);
      within = omega (arith, s.used, s.within, len);
      rest = p.line ++ bytes;
      parts = append_assoc (text_at p.place p.header p.rows) p.line bytes;
      bad = inr (inl (record {
        line = p.line ++ bytes;
        more = [];
        one = Lacks-append 10 p.line bytes s.one one;
        parts = sym (append-nil (p.line ++ bytes));
        long = elim long [ inl a ↦ inl (omega (arith, length-append p.line bytes)) | inr b ↦ inr (omega (arith, s.used, s.within, len, length-append p.line bytes)) ];
      }));
    }

pub bad_cut : (p : Progress) → IsReading p → p.used ≡ p.limit → IsBad p.limit (p.lines + 1) (text_so_far p ++ 10 ∷ [])
bad_cut p s full =
    let len = length-append (text_at p.place p.header p.rows) p.line in
    record {
      place = p.place;
      header = p.header;
      rows = p.rows;
      before = s.good;
      number = ap (λ (n : ℕ). n + 1) s.number;
      room = p.limit - length (text_at p.place p.header p.rows);
      within = omega (arith, s.used, s.within, len);
      rest = p.line ++ 10 ∷ [];
      parts = append_assoc (text_at p.place p.header p.rows) p.line (10 ∷ []);
      bad = inr (inr (record { line = p.line; more = []; one = s.one; parts = refl; full = omega (arith, s.used, full, len) }));
    }

pub bad_wrong : (p : Progress) → IsReading p → (CanFollow p.place p.header p.rows p.line → ⊥) → IsBad p.limit (p.lines + 1) (text_so_far p ++ 10 ∷ [])
bad_wrong p s refused =
    let len = length-append (text_at p.place p.header p.rows) p.line in
    record {
      place = p.place;
      header = p.header;
      rows = p.rows;
      before = s.good;
      number = ap (λ (n : ℕ). n + 1) s.number;
      room = p.limit - length (text_at p.place p.header p.rows);
      within = omega (arith, s.used, s.within, len);
      rest = p.line ++ 10 ∷ [];
      parts = append_assoc (text_at p.place p.header p.rows) p.line (10 ∷ []);
      bad = inl (record { line = p.line; more = []; one = s.one; parts = refl; refused = refused });
    }

-- ---- what is bad stays bad, whatever follows

pub IsBad-more : (limit n : ℕ) (text more : List ℕ) → IsBad limit n text → IsBad limit n (text ++ more)
IsBad-more limit n text more b = record {
  place = b.place;
  header = b.header;
  rows = b.rows;
  before = b.before;
  number = b.number;
  room = b.room;
  within = b.within;
  rest = b.rest ++ more;
  parts = ap (λ (t : List ℕ). t ++ more) b.parts ∙ append_assoc (text_at b.place b.header b.rows) b.rest more;
  bad = elim b.bad [
    | inl w ↦ inl (record { line = w.line; more = w.more ++ more; one = w.one; parts = ap (λ (t : List ℕ). t ++ more) w.parts ∙ append_assoc w.line (10 ∷ w.more) more; refused = w.refused })
    | inr o ↦ inr (elim o [
      | inl l ↦ inl (record { line = l.line; more = l.more ++ more; one = l.one; parts = ap (λ (t : List ℕ). t ++ more) l.parts ∙ append_assoc l.line l.more more; long = l.long })
      | inr k ↦ inr (record { line = k.line; more = k.more ++ more; one = k.one; parts = ap (λ (t : List ℕ). t ++ more) k.parts ∙ append_assoc k.line (10 ∷ k.more) more; full = k.full })
    ])
  ];
}

pub cause_more : (limit : ℕ) (e : ListingFault) (text more : List ℕ) → IsCause limit e text → IsCause limit e (text ++ more)
cause_more limit (BadLine n) text more b = IsBad-more limit n text more b
cause_more limit OutOfMemory text more b = tt

-- ---- bytes that join the line

pub reading_added : (p new : Progress) (bytes : List ℕ) → IsReading p → Lacks 10 bytes → length p.line + length bytes ≤ 16483 → p.used + length bytes ≤ p.limit
    → new ≡ record p { line = p.line ++ bytes; used = p.used + length bytes } → IsReading new
reading_added p new bytes s one short room same =
    subst IsReading (sym same) (record {
      good = s.good;
      one = Lacks-append 10 p.line bytes s.one one;
      short = omega (arith, length-append p.line bytes);
      used = omega (arith, s.used, length-append (text_at p.place p.header p.rows) p.line, length-append (text_at p.place p.header p.rows) (p.line ++ bytes), length-append p.line bytes);
      within = room;
      limit = s.limit;
      number = s.number;
      few = s.few;
    })

pub text_added : (p new : Progress) (bytes : List ℕ) → new ≡ record p { line = p.line ++ bytes; used = p.used + length bytes } → text_so_far new ≡ text_so_far p ++ bytes
text_added p new bytes same = ap (λ (x : Progress). text_so_far x) same ∙ sym (append_assoc (text_at p.place p.header p.rows) p.line bytes)

-- ---- a line that is ended

pub sound_on : (new : Progress) → new.fault ≡ None → IsReading new → IsSound new
sound_on new fault s = let P : Option ListingFault → Type 0 = λ o. IsSoundAt o new in subst P (sym fault) s

-- the reader goes on with the next line
pub record Steps (p new : Progress) : Type 0 where
  pub clear : new.fault ≡ None
  pub reading : IsReading new
  pub text : text_so_far new ≡ text_so_far p ++ 10 ∷ []

stepped : (p new : Progress) → IsReading p → p.used < p.limit → 1 ≤ length p.line → IsGoodAt new.place new.header new.rows
    → lines_at new.place new.header new.rows ≡ lines_at p.place p.header p.rows ++ p.line ∷ []
    → new.fault ≡ None → new.line ≡ [] → new.used ≡ p.used + 1 → new.lines ≡ p.lines + 1 → new.limit ≡ p.limit → Steps p new
stepped p new s room some good spelled clear line used number limit =
    let ls = lines_at p.place p.header p.rows in
    let ended_text : text_of_lines (ls ++ p.line ∷ []) ≡ text_so_far p ++ 10 ∷ [] = text-push ls p.line in
    let text_is : text_at new.place new.header new.rows ≡ text_so_far p ++ 10 ∷ [] = ap text_of_lines spelled ∙ ended_text in
    let text : text_so_far new ≡ text_so_far p ++ 10 ∷ [] = ap (λ (l : List ℕ). text_at new.place new.header new.rows ++ l) line ∙ append-nil (text_at new.place new.header new.rows) ∙ text_is in
    let long : length (text_at new.place new.header new.rows) ≡ length (text_so_far p) + 1 = ap length text_is ∙ length-append (text_so_far p) (10 ∷ []) in
    let len = length-append (text_at p.place p.header p.rows) p.line in
    record {
      clear = clear;
      text = text;
      reading = record {
        good = good;
        one = let P : List ℕ → Type 0 = λ l. Lacks 10 l in subst P (sym line) tt;
        short = rw line (omega arith);
        used = used ∙ omega (arith, s.used, ap length text, length-append (text_so_far p) (10 ∷ []));
        within = omega (arith, used, limit);
        limit = omega (arith, limit, s.limit);
        number = number ∙ omega (arith, s.number, ap length spelled, length-append ls (p.line ∷ []));
        few = omega (arith, number, s.few, long, len);
      };
    }

lines_first : (h old : Header) (rows : Rows) (line : List ℕ) → rows ≡ [] → line ≡ header_line h → lines_at Open h rows ≡ lines_at Start old rows ++ line ∷ []
unfolding lines_at
lines_first h old rows line none e = rw (none, e) refl

lines_more : (h : Header) (rows : Rows) (row : PathBytes × Entry) (line : List ℕ) → line ≡ file_line row → lines_at Open h (rows ++ row ∷ []) ≡ lines_at Open h rows ++ line ∷ []
unfolding lines_at
lines_more h rows row line e = rw (map-append file_line rows (row ∷ []), e) refl

lines_last : (h : Header) (rows : Rows) (line : List ℕ) → line ≡ end_line (length rows) → lines_at Closed h rows ≡ lines_at Open h rows ++ line ∷ []
unfolding lines_at
lines_last h rows line e = rw e refl

pub step_first : (p new : Progress) (h : Header) → IsReading p → p.fault ≡ None → p.used < p.limit → p.place ≡ Start → IsHeader h → p.line ≡ header_line h → 1 ≤ length (header_line h)
    → new ≡ record p { header = h; place = Open; line = []; lines = p.lines + 1; used = p.used + 1 } → Steps p new
step_first p new h s clear room at is e some same =
    let P : Place → Type 0 = λ x. IsGoodAt x p.header p.rows in
    let none : p.rows ≡ [] = subst P at s.good in
    let made : Progress = record p { header = h; place = Open; line = []; lines = p.lines + 1; used = p.used + 1 } in
    let listed : AreListed h [] = record { rising = tt; each = tt; digests = tt } in
    let spelled : lines_at Open h p.rows ≡ lines_at p.place p.header p.rows ++ p.line ∷ [] =
    lines_first h p.header p.rows p.line none e ∙ ap (λ (x : Place). lines_at x p.header p.rows ++ p.line ∷ []) (sym at) in
    subst (λ (x : Progress). Steps p x) (sym same)
    (stepped p made s room (omega (arith, ap length e)) (is, subst (λ (rows : Rows). AreListed h rows) (sym none) listed) spelled clear refl refl refl refl)

each_more : (P : PathBytes × Entry → Type 0) (rows : Rows) (row : PathBytes × Entry) → AllByRecursion P rows → P row → AllByRecursion P (rows ++ row ∷ [])
each_more P [] row h is = (is, tt)
each_more P (r ∷ rows) row h is = (h.0, each_more P rows row h.1 is)

listed_more : (h : Header) (rows : Rows) (row : PathBytes × Entry) → AreListed h rows → MayFollow h rows row → AreListed h (rows ++ row ∷ [])
listed_more h rows row a m = record {
  rising = rising_rows_push rows row.0 row.1 a.rising m.above;
  each = each_more IsListed rows row a.each m.listed;
  digests = each_more (λ r. HasDigestFor h.fields r.1) rows row a.digests m.digest;
}

pub step_row : (p new : Progress) (row : PathBytes × Entry) → IsReading p → p.fault ≡ None → p.used < p.limit → p.place ≡ Open → MayFollow p.header p.rows row → p.line ≡ file_line row → 1 ≤ length (file_line row)
    → new ≡ record p { rows = p.rows ++ row ∷ []; line = []; lines = p.lines + 1; used = p.used + 1 } → Steps p new
step_row p new row s clear room at may e some same =
    let P : Place → Type 0 = λ x. IsGoodAt x p.header p.rows in
    let before : IsHeader p.header × AreListed p.header p.rows = subst P at s.good in
    let made : Progress = record p { rows = p.rows ++ row ∷ []; line = []; lines = p.lines + 1; used = p.used + 1 } in
    let good : IsGoodAt p.place p.header (p.rows ++ row ∷ []) = subst (λ (x : Place). IsGoodAt x p.header (p.rows ++ row ∷ [])) (sym at) (before.0, listed_more p.header p.rows row before.1 may) in
    let spelled : lines_at p.place p.header (p.rows ++ row ∷ []) ≡ lines_at p.place p.header p.rows ++ p.line ∷ [] =
    ap (λ (x : Place). lines_at x p.header (p.rows ++ row ∷ [])) at ∙ lines_more p.header p.rows row p.line e ∙ ap (λ (x : Place). lines_at x p.header p.rows ++ p.line ∷ []) (sym at) in
    subst (λ (x : Progress). Steps p x) (sym same) (stepped p made s room (omega (arith, ap length e)) good spelled clear refl refl refl refl)

pub step_last : (p new : Progress) → IsReading p → p.fault ≡ None → p.used < p.limit → p.place ≡ Open → is_some p.header.fields ≡ true → p.line ≡ end_line (length p.rows) → 1 ≤ length (end_line (length p.rows))
    → new ≡ record p { place = Closed; line = []; lines = p.lines + 1; used = p.used + 1 } → Steps p new
step_last p new s clear room at fields e some same =
    let P : Place → Type 0 = λ x. IsGoodAt x p.header p.rows in
    let before : IsHeader p.header × AreListed p.header p.rows = subst P at s.good in
    let made : Progress = record p { place = Closed; line = []; lines = p.lines + 1; used = p.used + 1 } in
    let spelled : lines_at Closed p.header p.rows ≡ lines_at p.place p.header p.rows ++ p.line ∷ [] =
    lines_last p.header p.rows p.line e ∙ ap (λ (x : Place). lines_at x p.header p.rows ++ p.line ∷ []) (sym at) in
    subst (λ (x : Progress). Steps p x) (sym same) (stepped p made s room (omega (arith, ap length e)) (before.0, before.1, fields) spelled clear refl refl refl refl)
