-- A text that is longer than the limit is seen to be bad, and a bad text stays so.
use Rattle.std.proofs.Common.{◌≡◌, ◌⊎◌, ◌<◌, ◌^◌, ℕ, List, [], ◌∷◌, ◌++◌, length, refl, sym, ◌∙◌, ap, subst, inl, inr, arith, length-append}
use Rattle.bisync_listing.specs.Words.{Lacks, text_of_lines}
use Rattle.bisync_listing.specs.FirstBadLine.{AreAsRequired, IsFirstBadLine, IsSettled}
use Rattle.bisync_listing.specs.Answers.{IsFault, IsSettledFault, IsGoodSoFar}
use Rattle.bisync_listing.specs.declared.faults.ListingFault.{ListingFault}
use Rattle.bisync_listing.specs.declared.faults.ListingFault.TheVariants.{BadLine, OutOfMemory}
use Rattle.bisync_listing.proofs.FrontLaws.{lines_of_short, required_short}
use Rattle.bisync_listing.proofs.BadLineLaws.{settled_stays}
use Rattle.bisync_work.specs.Standing.{IsReadFault, read_fault}

-- a text up to its first newline
record Cut (text : List ℕ) : Type 0 where
  line : List ℕ
  more : List ℕ
  one : Lacks 10 line
  parts : text ≡ line ++ more
  how : ((next : List ℕ) × (more ≡ 10 ∷ next)) ⊎ (more ≡ [])

same_or_not : (m n : ℕ) → (m ≡ n) ⊎ (m ≡ n → ⊥)
same_or_not m n = grind arith

cut : (text : List ℕ) → Cut text
cut [] = record { line = []; more = []; one = tt; parts = refl; how = inr refl }
cut (b ∷ text) = elim (same_or_not b 10) [
  | inl is ↦ record { line = []; more = b ∷ text; one = tt; parts = refl; how = inl (text, ap (λ (x : ℕ). x ∷ text) is) }
  | inr not ↦ (let c = cut text in record { line = b ∷ c.line; more = c.more; one = (not, c.one); parts = ap (λ (x : List ℕ). b ∷ x) c.parts; how = c.how })
]

-- the first bad line of a text past the limit is seen to be bad
long_settled : (limit n : ℕ) (text : List ℕ) → limit < 2 ^ 64 → limit < length text → IsFirstBadLine limit text n → IsSettled limit text n
long_settled limit n text small long first =
    let a : AreAsRequired limit text first.before.0 = first.before.2 in
    let c = cut a.rest in
    record {
      before = a.front;
      lines = lines_of_short a.front (required_short limit text first.before.0 a small);
      number = omega (arith, first.before.1, a.count);
      line = c.line;
      one = c.one;
      more = c.more;
      parts = a.begins ∙ ap (λ (x : List ℕ). text_of_lines a.front ++ x) c.parts;
      how = elim c.how [
        | inl ended ↦ inl ended
        | inr none ↦ inr (inr (omega (arith, long, ap length a.begins, length-append (text_of_lines a.front) a.rest, ap length c.parts, length-append c.line c.more, ap length none)))
      ];
    }

pub not_long : (limit n : ℕ) (text : List ℕ) → limit < 2 ^ 64 → limit < length text → IsGoodSoFar limit text → IsFirstBadLine limit text n → ⊥
not_long limit n text small long good first = good n first (long_settled limit n text small long first)

-- a fault that is settled is that of every longer text
pub fault_stays : (limit : ℕ) (text whole more : List ℕ) (fault : ListingFault) → limit < 2 ^ 64 → IsSettledFault limit text fault → whole ≡ text ++ more → IsReadFault limit whole (read_fault fault)
fault_stays limit text whole more (BadLine n) small settled e = subst (λ (t : List ℕ). IsFirstBadLine limit t n) (sym e) (settled_stays limit n text more small settled.0 settled.1)
fault_stays limit text whole more OutOfMemory small settled e = tt

-- the fault at the end is that of the whole text, or the text so far would have been refused before
pub end_fault : (limit : ℕ) (text whole : List ℕ) (fault : ListingFault) → limit < 2 ^ 64 → IsGoodSoFar limit text → (whole ≡ text) ⊎ (limit < length text) → IsFault limit text fault → IsReadFault limit whole (read_fault fault)
end_fault limit text whole OutOfMemory small good how is = tt
end_fault limit text whole (BadLine n) small good (inl same) is = subst (λ (t : List ℕ). IsFirstBadLine limit t n) (sym same) is
end_fault limit text whole (BadLine n) small good (inr long) is = absurd (not_long limit n text small long good is)
