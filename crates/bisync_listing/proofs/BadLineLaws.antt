-- The laws of first bad lines.
use Rattle.std.proofs.Common.{◌≡◌, ℕ, ◌+◌, ◌<◌, ◌≤◌, ◌^◌, ◌⊎◌, inl, inr, List, [], ◌∷◌, ◌++◌, length, refl, sym, ap, subst, ◌∙◌, append_assoc, arith}
use Rattle.bisync_tree.specs.Rows.{Rows}
use Rattle.bisync_listing.specs.Words.{Lacks, AreLines, text_of_lines}
use Rattle.bisync_listing.specs.Spelling.{listing_lines, listing_text}
use Rattle.bisync_listing.specs.ListingText.{IsListingText}
use Rattle.bisync_listing.specs.FirstBadLine.{AreAsRequired, IsFirstBadLine, IsSettled}
use Rattle.bisync_listing.specs.declared.headers.Header.{Header}
use Rattle.bisync_listing.proofs.LineLaws.{lines_apart, cut_apart}
use Rattle.bisync_listing.proofs.FrontLaws.{IsLine, AreShortLines, lines_of_short, last_short, front_short, required_short, last_of, text_last, length-text_last, required_fewer, required_more, no_listing_from}

lines_order : (m n : ℕ) → (m < n) ⊎ ((m ≡ n) ⊎ (n < m))
lines_order m n = grind arith

not_later : (limit m n : ℕ) (text : List ℕ) → IsFirstBadLine limit text m → IsFirstBadLine limit text n → m < n → ⊥
not_later limit m n text a b lt = let before = b.before in a.bad (required_fewer limit text before.0 m (omega (arith, before.1)) before.2)

-- a text has one first bad line
pub bad_lines_one : (limit m n : ℕ) (text : List ℕ) → IsFirstBadLine limit text m → IsFirstBadLine limit text n → m ≡ n
bad_lines_one limit m n text a b =
    elim (lines_order m n) [
      | inl lt ↦ absurd (not_later limit m n text a b lt)
      | inr o ↦ elim o [ inl e ↦ e | inr gt ↦ absurd (not_later limit n m text b a gt) ]
    ]

-- bytes without a newline at the front of a line are no more than the line
pub front_of_line : (part more line rest : List ℕ) → Lacks 10 part → line ++ 10 ∷ rest ≡ part ++ more → length part ≤ length line
front_of_line [] more line rest h e = omega arith
front_of_line (b ∷ part) more [] rest h e = let is : 10 ≡ b = cc in absurd (h.0 (sym is))
front_of_line (b ∷ part) more (c ∷ line) rest h e = let t : line ++ 10 ∷ rest ≡ part ++ more = cc in let le = front_of_line part more line rest h.1 t in omega arith

-- the line at the end of so many lines that are as required, beside a text that is cut after the lines before it
pub record SeesLine (limit : ℕ) (text : List ℕ) (before : List (List ℕ)) (rest : List ℕ) (a : AreAsRequired limit text (length before + 1)) : Type 0 where
  pub line : List ℕ
  pub is_line : IsLine line
  pub front : a.front ≡ before ++ line ∷ []
  pub there : line ++ 10 ∷ a.rest ≡ rest
  pub room : length (text_of_lines before) + length line + 1 ≤ limit

pub see_line : (limit : ℕ) (text : List ℕ) (before : List (List ℕ)) (rest : List ℕ) (a : AreAsRequired limit text (length before + 1)) → limit < 2 ^ 64 → AreLines before → text ≡ text_of_lines before ++ rest → SeesLine limit text before rest a
see_line limit text before rest a small are parts =
    let l = last_of a.front (length before) a.count in
    let short = required_short limit text (length before + 1) a small in
    let split : AreShortLines (l.before ++ l.last ∷ []) = subst AreShortLines l.parts short in
    let joined : text_of_lines l.before ++ (l.last ++ 10 ∷ a.rest) ≡ text_of_lines before ++ rest = sym (text_last a.front l.before l.last a.rest l.parts) ∙ sym a.begins ∙ parts in
    let same = lines_apart l.before before (l.last ++ 10 ∷ a.rest) rest (lines_of_short l.before (front_short l.before (l.last ∷ []) split)) are l.number joined in
    record {
      line = l.last;
      is_line = last_short l.before l.last split;
      front = l.parts ∙ ap (λ (x : List (List ℕ)). x ++ l.last ∷ []) same.0;
      there = same.1;
      room = omega (arith, a.within, length-text_last a.front l.before l.last l.parts, ap (λ (x : List (List ℕ)). length (text_of_lines x)) same.0);
    }

-- ---- what is settled stays

long_ends : (limit : ℕ) (text : List ℕ) (before : List (List ℕ)) (rest line more : List ℕ) (a : AreAsRequired limit text (length before + 1)) → SeesLine limit text before rest a → Lacks 10 line → rest ≡ line ++ more
    → (16483 < length line) ⊎ (limit < length (text_of_lines before) + length line) → ⊥
long_ends limit text before rest line more a s one parts long =
    let le = front_of_line line more s.line a.rest one (s.there ∙ parts) in
    elim long [ inl x ↦ omega (arith, s.is_line.1) | inr x ↦ omega (arith, s.room) ]

parts_more : (limit n : ℕ) (text more : List ℕ) (s : IsSettled limit text n) → text ++ more ≡ text_of_lines s.before ++ (s.line ++ (s.more ++ more))
parts_more limit n text more s =
    ap (λ (x : List ℕ). x ++ more) s.parts ∙ append_assoc (text_of_lines s.before) (s.line ++ s.more) more ∙ ap (λ (x : List ℕ). text_of_lines s.before ++ x) (append_assoc s.line s.more more)

pub settled_more : (limit n : ℕ) (text more : List ℕ) → IsSettled limit text n → IsSettled limit (text ++ more) n
settled_more limit n text more s = record {
  before = s.before;
  lines = s.lines;
  number = s.number;
  line = s.line;
  one = s.one;
  more = s.more ++ more;
  parts = parts_more limit n text more s;
  how = elim s.how [
    | inl x ↦ inl (x.0 ++ more, ap (λ (y : List ℕ). y ++ more) x.1)
    | inr o ↦ inr o
  ];
}

-- a line that is not as required and is settled is not as required in any longer text
pub settled_bad : (limit n : ℕ) (text more : List ℕ) → limit < 2 ^ 64 → (AreAsRequired limit text n → ⊥) → IsSettled limit text n → AreAsRequired limit (text ++ more) n → ⊥
settled_bad limit n text more small bad s a =
    let parts = parts_more limit n text more s in
    let b : AreAsRequired limit (text ++ more) (length s.before + 1) = subst (λ (k : ℕ). AreAsRequired limit (text ++ more) k) s.number a in
    let l = see_line limit (text ++ more) s.before (s.line ++ (s.more ++ more)) b small s.lines parts in
    elim s.how [
      | inl x ↦ (
          let joined : l.line ++ 10 ∷ b.rest ≡ s.line ++ 10 ∷ (x.0 ++ more) = l.there ∙ ap (λ (y : List ℕ). s.line ++ (y ++ more)) x.1 in
          let same = cut_apart 10 l.line s.line b.rest (x.0 ++ more) l.is_line.0 s.one joined in
          let front : b.front ≡ s.before ++ s.line ∷ [] = l.front ∙ ap (λ (y : List ℕ). s.before ++ y ∷ []) same.0 in
          let here : text ≡ text_of_lines b.front ++ x.0 = s.parts ∙ ap (λ (y : List ℕ). text_of_lines s.before ++ (s.line ++ y)) x.1 ∙ sym (text_last b.front s.before s.line x.0 front) in
          let c : AreAsRequired limit text (length s.before + 1) = record {
            header = b.header;
            rows = b.rows;
            is_header = b.is_header;
            are_listed = b.are_listed;
            front = b.front;
            after = b.after;
            lines = b.lines;
            count = b.count;
            rest = x.0;
            begins = here;
            within = b.within;
          } in
          bad (subst (λ (k : ℕ). AreAsRequired limit text k) (sym s.number) c))
      | inr long ↦ long_ends limit (text ++ more) s.before (s.line ++ (s.more ++ more)) s.line (s.more ++ more) b l s.one refl long
    ]

nil_parts : (xs ys : List ℕ) → xs ++ ys ≡ [] → (xs ≡ []) × (ys ≡ [])
nil_parts [] ys e = (refl, e)
nil_parts (x ∷ xs) ys e = cc

settled_some : (limit n : ℕ) (text more : List ℕ) (s : IsSettled limit text n) → (h : Header) (rows : Rows) → IsListingText limit h rows (text ++ more) → listing_lines h rows ≡ s.before → s.line ++ (s.more ++ more) ≡ [] → ⊥
unfolding listing_text
settled_some limit n text more s h rows t lines none =
    let p = nil_parts s.line (s.more ++ more) none in
    let q = nil_parts s.more more p.1 in
    let size : length s.line ≡ 0 = ap length p.0 in
    elim s.how [
      | inl x ↦ (let bad : 10 ∷ x.0 ≡ [] = sym x.1 ∙ q.0 in absurd cc)
      | inr o ↦ elim o [
        | inl x ↦ omega arith
        | inr x ↦ omega (arith, t.within, ap length t.spelled, ap (λ (y : List (List ℕ)). length (text_of_lines y)) lines)
      ]
    ]

pub settled_stays : (limit n : ℕ) (text more : List ℕ) → limit < 2 ^ 64 → IsFirstBadLine limit text n → IsSettled limit text n → IsFirstBadLine limit (text ++ more) n
settled_stays limit n text more small first s =
    let bad = settled_bad limit n text more small first.bad s in
    let parts = parts_more limit n text more s in
    let before = first.before in
    record {
      before = (before.0, before.1, required_more limit text more before.0 before.2);
      bad = bad;
      no_listing = no_listing_from limit (text ++ more) s.before (s.line ++ (s.more ++ more)) small s.lines parts
          (λ a. bad (subst (λ (k : ℕ). AreAsRequired limit (text ++ more) k) (sym s.number) a))
          (settled_some limit n text more s);
    }
