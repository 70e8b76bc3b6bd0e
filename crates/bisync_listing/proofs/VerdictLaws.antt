-- What a reader knows decides the first bad line.
use Rattle.std.proofs.Common.{◌≡◌, ℕ, ◌+◌, ◌<◌, ◌≤◌, ◌^◌, ◌⊎◌, inl, inr, true, List, [], ◌∷◌, ◌++◌, length, map, Option, Some, None, is_some, refl, sym, ap, subst, ◌∙◌, arith, length-append}
use Rattle.std.proofs.lemmas.List.{append-nil}
use Rattle.bisync_tree.specs.Rows.{Rows}
use Rattle.bisync_tree.specs.declared.entries.Compare.{Compare}
use Rattle.bisync_listing.specs.Words.{AreLines, text_of_lines}
use Rattle.bisync_listing.specs.Spelling.{header_line, file_line, end_line, end_lines, listing_lines, listing_text}
use Rattle.bisync_listing.specs.ListingText.{IsHeader, AreListed, IsListingText}
use Rattle.bisync_listing.specs.FirstBadLine.{AreAsRequired, IsFirstBadLine, IsSettled}
use Rattle.bisync_listing.specs.Answers.{IsSettledFault, IsGoodSoFar}
use Rattle.bisync_listing.specs.declared.headers.Header.{Header}
use Rattle.bisync_listing.specs.declared.faults.ListingFault.{ListingFault}
use Rattle.bisync_listing.specs.declared.faults.ListingFault.TheVariants.{BadLine, OutOfMemory}
use Rattle.bisync_listing.specs.declared.progress.Place.{Place}
use Rattle.bisync_listing.specs.declared.progress.Place.TheVariants.{Start, Open, Closed}
use Rattle.bisync_listing.specs.declared.progress.Progress.{Progress}
use Rattle.bisync_listing.specs.Progress.{lines_at, text_at, IsGoodAt, CanFollow, IsWhole, IsBad, IsReading, IsCause, IsUnended, text_so_far}
use Rattle.bisync_listing.proofs.LineLaws.{cut_apart, lacks_none, lines_apart, no_more_lines}
use Rattle.bisync_listing.proofs.FrontLaws.{lines_count, required_cut, required_fewer, no_listing_from}
use Rattle.bisync_listing.proofs.BadLineLaws.{SeesLine, see_line, front_of_line}
use Rattle.bisync_listing.proofs.NextLineLaws.{next_line, good_lines, whole_lines}

some_end : (f : Option Compare) (n : ℕ) → is_some f ≡ true → end_lines f n ≡ end_line n ∷ []
some_end None n e = absurd cc
some_end (Some f) n e = refl

-- a version 1 listing without files
first_header : Header
first_header = record { stamp = 1; fields = None }

first_is : IsHeader first_header
unfolding first_header
first_is = record { low = omega arith; high = omega arith; fields = tt }

first_listed : AreListed first_header []
first_listed = record { rising = tt; each = tt; digests = tt }

-- the lines that a reader has seen are as required
pub seen_required : (limit : ℕ) (place : Place) (h : Header) (rows : Rows) (text rest : List ℕ) → IsGoodAt place h rows → text ≡ text_at place h rows ++ rest → length (text_at place h rows) ≤ limit → AreAsRequired limit text (length (lines_at place h rows))
unfolding lines_at
seen_required limit Start h rows text rest good e within = required_cut limit text 0 first_header [] [] (listing_lines first_header []) rest first_is first_listed refl e within (omega arith)
seen_required limit Open h rows text rest good e within =
    required_cut limit text (length (header_line h ∷ map file_line rows)) h rows (header_line h ∷ map file_line rows) (end_lines h.fields (length rows)) rest good.0 good.1 refl e within (omega arith)
seen_required limit Closed h rows text rest good e within =
    let lines : listing_lines h rows ≡ (header_line h ∷ (map file_line rows ++ end_line (length rows) ∷ [])) ++ [] =
    ap (λ (ls : List (List ℕ)). header_line h ∷ (map file_line rows ++ ls)) (some_end h.fields (length rows) good.2) ∙ sym (append-nil (header_line h ∷ (map file_line rows ++ end_line (length rows) ∷ []))) in
    required_cut limit text (length (header_line h ∷ (map file_line rows ++ end_line (length rows) ∷ []))) h rows (header_line h ∷ (map file_line rows ++ end_line (length rows) ∷ [])) [] rest good.0 good.1 lines e within (omega arith)

-- the line after them that a listing has
can_follow : (limit : ℕ) (place : Place) (h : Header) (rows : Rows) (text rest : List ℕ) (a : AreAsRequired limit text (length (lines_at place h rows) + 1)) → IsGoodAt place h rows → (s : SeesLine limit text (lines_at place h rows) rest a) → CanFollow place h rows s.line
can_follow limit place h rows text rest a good s =
    next_line place h rows good a.header a.rows s.line a.after a.is_header a.are_listed (a.lines ∙ ap (λ (ls : List (List ℕ)). ls ++ a.after) s.front)

few_lines : (limit : ℕ) (place : Place) (h : Header) (rows : Rows) → limit < 2 ^ 64 → length (text_at place h rows) ≤ limit → length (lines_at place h rows) < 2 ^ 64
few_lines limit place h rows small within = let c = lines_count (lines_at place h rows) in omega arith

bad_not_required : (limit n : ℕ) (text : List ℕ) (b : IsBad limit n text) → limit < 2 ^ 64 → AreAsRequired limit text (length (lines_at b.place b.header b.rows) + 1) → ⊥
bad_not_required limit n text b small a =
    let are = good_lines b.place b.header b.rows b.before (few_lines limit b.place b.header b.rows small (omega (arith, b.within))) in
    let s = see_line limit text (lines_at b.place b.header b.rows) b.rest a small are b.parts in
    elim b.bad [
      | inl w ↦ (
          let same = cut_apart 10 s.line w.line a.rest w.more s.is_line.0 w.one (s.there ∙ w.parts) in
          w.refused (subst (λ (l : List ℕ). CanFollow b.place b.header b.rows l) same.0 (can_follow limit b.place b.header b.rows text b.rest a b.before s)))
      | inr o ↦ elim o [
        | inl l ↦ (
            let le = front_of_line l.line l.more s.line a.rest l.one (s.there ∙ l.parts) in
            elim l.long [ inl x ↦ omega (arith, s.is_line.1) | inr x ↦ omega (arith, s.room, b.within) ])
        | inr k ↦ (
            let same = cut_apart 10 s.line k.line a.rest k.more s.is_line.0 k.one (s.there ∙ k.parts) in
            omega (arith, s.room, b.within, k.full, ap length same.0))
      ]
    ]

bad_some : (limit n : ℕ) (text : List ℕ) (b : IsBad limit n text) → b.rest ≡ [] → ⊥
bad_some limit n text b none =
    elim b.bad [
      | inl w ↦ omega (arith, ap length w.parts, ap length none, length-append w.line (10 ∷ w.more))
      | inr o ↦ elim o [
        | inl l ↦ elim l.long [
          | inl x ↦ omega (arith, ap length l.parts, ap length none, length-append l.line l.more)
          | inr x ↦ omega (arith, ap length l.parts, ap length none, length-append l.line l.more)
        ]
        | inr k ↦ omega (arith, ap length k.parts, ap length none, length-append k.line (10 ∷ k.more))
      ]
    ]

pub bad_first : (limit n : ℕ) (text : List ℕ) → IsBad limit n text → limit < 2 ^ 64 → IsFirstBadLine limit text n
bad_first limit n text b small =
    let lines = lines_at b.place b.header b.rows in
    let bad = bad_not_required limit n text b small in
    let are = good_lines b.place b.header b.rows b.before (few_lines limit b.place b.header b.rows small (omega (arith, b.within))) in
    record {
      before = (length lines, b.number, seen_required limit b.place b.header b.rows text b.rest b.before b.parts (omega (arith, b.within)));
      bad = λ a. bad (subst (λ (k : ℕ). AreAsRequired limit text k) b.number a);
      no_listing = no_listing_from limit text lines b.rest small are b.parts bad (λ h rows t same none. bad_some limit n text b none);
    }

pub bad_settled : (limit n : ℕ) (text : List ℕ) → IsBad limit n text → limit < 2 ^ 64 → IsSettled limit text n
bad_settled limit n text b small =
    let lines = lines_at b.place b.header b.rows in
    let are = good_lines b.place b.header b.rows b.before (few_lines limit b.place b.header b.rows small (omega (arith, b.within))) in
    elim b.bad [
      | inl w ↦ record {
        before = lines;
        lines = are;
        number = b.number;
        line = w.line;
        one = w.one;
        more = 10 ∷ w.more;
        parts = b.parts ∙ ap (λ (x : List ℕ). text_of_lines lines ++ x) w.parts;
        how = inl (w.more, refl);
      }
      | inr o ↦ elim o [
        | inl l ↦ record {
          before = lines;
          lines = are;
          number = b.number;
          line = l.line;
          one = l.one;
          more = l.more;
          parts = b.parts ∙ ap (λ (x : List ℕ). text_of_lines lines ++ x) l.parts;
          how = inr (elim l.long [ inl x ↦ inl x | inr x ↦ inr (omega (arith, b.within)) ]);
        }
        | inr k ↦ record {
          before = lines;
          lines = are;
          number = b.number;
          line = k.line;
          one = k.one;
          more = 10 ∷ k.more;
          parts = b.parts ∙ ap (λ (x : List ℕ). text_of_lines lines ++ x) k.parts;
          how = inl (k.more, refl);
        }
      ]
    ]

pub cause_settled : (limit : ℕ) (e : ListingFault) (text : List ℕ) → IsCause limit e text → limit < 2 ^ 64 → IsSettledFault limit text e
cause_settled limit (BadLine n) text b small = (bad_first limit n text b small, bad_settled limit n text b small)
cause_settled limit OutOfMemory text b small = tt

-- ---- a text that ends

read_within : (p : Progress) → IsReading p → length (text_at p.place p.header p.rows) ≤ p.limit
read_within p s = omega (arith, s.used, s.within, length-append (text_at p.place p.header p.rows) p.line)

read_lines : (p : Progress) → IsReading p → AreLines (lines_at p.place p.header p.rows)
read_lines p s = good_lines p.place p.header p.rows s.good (few_lines p.limit p.place p.header p.rows s.limit (read_within p s))

open_not_required : (p : Progress) → IsReading p → AreAsRequired p.limit (text_so_far p) (length (lines_at p.place p.header p.rows) + 1) → ⊥
open_not_required p s a =
    let x = see_line p.limit (text_so_far p) (lines_at p.place p.header p.rows) p.line a s.limit (read_lines p s) refl in
    lacks_none 10 p.line x.line a.rest s.one (sym x.there)

pub unended_first : (p : Progress) (n : ℕ) → IsReading p → n ≡ p.lines + 1 → IsUnended p → IsFirstBadLine p.limit (text_so_far p) n
unended_first p n s number unended =
    let lines = lines_at p.place p.header p.rows in
    let is : n ≡ length lines + 1 = number ∙ ap (λ (k : ℕ). k + 1) s.number in
    let bad = open_not_required p s in
    record {
      before = (length lines, is, seen_required p.limit p.place p.header p.rows (text_so_far p) p.line s.good refl (read_within p s));
      bad = λ a. bad (subst (λ (k : ℕ). AreAsRequired p.limit (text_so_far p) k) is a);
      no_listing = no_listing_from p.limit (text_so_far p) lines p.line s.limit (read_lines p s) refl bad
          (λ h rows t same none. unended (whole_lines p.place p.header p.rows s.good h rows t.is_header t.are_listed same) none);
    }

pub good_so_far : (p : Progress) → IsReading p → IsGoodSoFar p.limit (text_so_far p)
good_so_far p s n first settled =
    let lines = lines_at p.place p.header p.rows in
    let joined : text_of_lines lines ++ p.line ≡ text_of_lines settled.before ++ (settled.line ++ settled.more) = settled.parts in
    elim (order (length settled.before) (length lines)) [
      | inl less ↦ first.bad (required_fewer p.limit (text_so_far p) (length lines) n (omega (arith, settled.number)) (seen_required p.limit p.place p.header p.rows (text_so_far p) p.line s.good refl (read_within p s)))
      | inr o ↦ elim o [
        | inl same ↦ (
            let cut = lines_apart lines settled.before p.line (settled.line ++ settled.more) (read_lines p s) settled.lines (sym same) joined in
            let size : length p.line ≡ length settled.line + length settled.more = ap length cut.1 ∙ length-append settled.line settled.more in
            elim settled.how [
              | inl x ↦ lacks_none 10 p.line settled.line x.0 s.one (cut.1 ∙ ap (λ (y : List ℕ). settled.line ++ y) x.1)
              | inr h ↦ elim h [
                | inl x ↦ omega (arith, s.short)
                | inr x ↦ omega (arith, s.used, s.within, length-append (text_of_lines lines) p.line, ap (λ (ls : List (List ℕ)). length (text_of_lines ls)) cut.0)
              ]
            ])
        | inr more ↦ no_more_lines lines settled.before p.line (settled.line ++ settled.more) (read_lines p s) settled.lines s.one more joined
      ]
    ]
  where
    order : (a b : ℕ) → (a < b) ⊎ ((a ≡ b) ⊎ (b < a))
    order a b = grind arith

-- ---- a text that is whole

pub whole_listing : (limit : ℕ) (place : Place) (h : Header) (rows : Rows) (text : List ℕ) → IsGoodAt place h rows → IsWhole place h → text ≡ text_at place h rows → length text ≤ limit → IsListingText limit h rows text
unfolding lines_at listing_text
whole_listing limit Start h rows text good whole e within = absurd whole
whole_listing limit Open h rows text good whole e within = record {
  is_header = good.0;
  are_listed = good.1;
  spelled = e ∙ ap (λ (ls : List (List ℕ)). text_of_lines (header_line h ∷ ls)) (sym (ap (λ (f : Option Compare). map file_line rows ++ end_lines f (length rows)) whole ∙ append-nil (map file_line rows)));
  within = within;
}
whole_listing limit Closed h rows text good whole e within = record {
  is_header = good.0;
  are_listed = good.1;
  spelled = e ∙ ap (λ (ls : List (List ℕ)). text_of_lines (header_line h ∷ (map file_line rows ++ ls))) (sym (some_end h.fields (length rows) good.2));
  within = within;
}

pub finished : (p : Progress) → IsReading p → IsWhole p.place p.header → p.line ≡ [] → IsListingText p.limit p.header p.rows (text_so_far p)
finished p s whole nil =
    let text : text_so_far p ≡ text_at p.place p.header p.rows = ap (λ (l : List ℕ). text_at p.place p.header p.rows ++ l) nil ∙ append-nil (text_at p.place p.header p.rows) in
    whole_listing p.limit p.place p.header p.rows (text_so_far p) s.good whole text (omega (arith, s.used, s.within))
