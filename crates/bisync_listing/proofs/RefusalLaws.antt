-- Why a line may not come next, and what a piece leaves that is not taken.
use Rattle.std.proofs.Common.{◌≡◌, ℕ, ◌<◌, ◌^◌, inl, inr, List, ◌++◌, length, Option, Some, None, Err, IfSome, IfNone, refl, sym, ap, subst, ◌∙◌, append_assoc, true, false, is_some, not, eqb, eq-eqb}
use Rattle.std.specs.Option.{option_eq}
use Rattle.std.proofs.lemmas.Bool.{eqb-true}
use Rattle.bisync_tree.specs.Rows.{PathBytes, Rows}
use Rattle.bisync_tree.specs.declared.entries.Entry.{Entry}
use Rattle.bisync_listing.specs.Spelling.{header_line, file_line, end_line}
use Rattle.bisync_listing.specs.ListingText.{IsHeader, IsListed}
use Rattle.bisync_listing.specs.declared.headers.Header.{Header}
use Rattle.bisync_listing.specs.declared.faults.ListingFault.{ListingFault}
use Rattle.bisync_listing.specs.declared.progress.Place.{Place}
use Rattle.bisync_listing.specs.declared.progress.Place.TheVariants.{Start, Open, Closed}
use Rattle.bisync_listing.specs.declared.progress.Progress.{Progress}
use Rattle.bisync_listing.specs.Progress.{MayFollow, CanFollow, IsCause, Takes, text_so_far}
use Rattle.bisync_listing.proofs.SpellingLaws.{file_line_one, end_line_one, file_no_end}
use Rattle.bisync_listing.proofs.ProgressLaws.{cause_more}

pub refused_first : (place : Place) (h : Header) (rows : Rows) (line bytes : List ℕ) → place ≡ Start → bytes ≡ line → ((n : Header) → IsHeader n → bytes ≡ header_line n → ⊥) → CanFollow place h rows line → ⊥
refused_first place h rows line bytes at e none can =
    let f : CanFollow Start h rows line = subst (λ (x : Place). CanFollow x h rows line) at can in none f.0 f.1 (e ∙ f.2)

pub refused_closed : (place : Place) (h : Header) (rows : Rows) (line : List ℕ) → place ≡ Closed → CanFollow place h rows line → ⊥
refused_closed place h rows line at can = subst (λ (x : Place). CanFollow x h rows line) at can

pub refused_row : (place : Place) (h : Header) (rows : Rows) (line : List ℕ) (row : PathBytes × Entry) → place ≡ Open → IsListed row → line ≡ file_line row → (MayFollow h rows row → ⊥) → CanFollow place h rows line → ⊥
refused_row place h rows line row at is e never can =
    let c : CanFollow Open h rows line = subst (λ (x : Place). CanFollow x h rows line) at can in
    elim c [
      | inl x ↦ let same : x.0 ≡ row = file_line_one x.0 row x.1.listed is (sym x.2 ∙ e) in never (subst (λ (y : PathBytes × Entry). MayFollow h rows y) same x.1)
      | inr y ↦ file_no_end row (length rows) (sym e ∙ y.1)
    ]

pub refused_last : (place : Place) (h : Header) (rows : Rows) (line : List ℕ) → place ≡ Open → ((row : PathBytes × Entry) → IsListed row → line ≡ file_line row → ⊥) → (is_some h.fields ≡ true → line ≡ end_line (length rows) → ⊥) → CanFollow place h rows line → ⊥
refused_last place h rows line at no_file no_end can =
    let c : CanFollow Open h rows line = subst (λ (x : Place). CanFollow x h rows line) at can in
    elim c [ inl x ↦ no_file x.0 x.1.listed x.2 | inr y ↦ no_end y.0 y.1 ]

-- ---- the number of an end line

pub no_end : (r : Option ℕ) (bytes line : List ℕ) (len count : ℕ) → len < 2 ^ 64 → len ≡ count → true ≡ not (option_eq eqb r (Some len))
    → IfSome r (λ n. (n < 2 ^ 64) × (bytes ≡ end_line n)) → IfNone r ((n : ℕ) → n < 2 ^ 64 → bytes ≡ end_line n → ⊥) → bytes ≡ line → line ≡ end_line count → ⊥
no_end None bytes line len count lt le ne found none e1 e2 = none len lt (e1 ∙ e2 ∙ ap end_line (sym le))
no_end (Some n) bytes line len count lt le ne found none e1 e2 =
    let same : n ≡ len = end_line_one n len found.0 lt (sym found.1 ∙ e1 ∙ e2 ∙ ap end_line (sym le)) in
    let yes : eqb n len ≡ true = rw same (eq-eqb len len refl) in
    let bad : true ≡ false = ne ∙ ap not yes in
    absurd cc

pub yes_end : (r : Option ℕ) (bytes line : List ℕ) (len count : ℕ) → len ≡ count → false ≡ not (option_eq eqb r (Some len))
    → IfSome r (λ n. (n < 2 ^ 64) × (bytes ≡ end_line n)) → bytes ≡ line → line ≡ end_line count
yes_end None bytes line len count le eq found e1 = absurd cc
yes_end (Some n) bytes line len count le eq found e1 =
    elim (eqb n len) as (λ b. eqb n len ≡ b → line ≡ end_line count) [
      | true ↦ λ t. (sym e1 ∙ found.1 ∙ ap end_line (eqb-true n len t ∙ le))
      | false ↦ λ t. (let bad : false ≡ true = eq ∙ ap not t in absurd cc)
    ] refl

-- ---- a piece that a reader does not take, or takes in part

pub takes_err : (p mid new : Progress) (rest bytes more piece : List ℕ) (e : ListingFault) → Takes mid bytes (Err e) new → mid.limit ≡ p.limit → text_so_far mid ++ rest ≡ text_so_far p ++ piece → rest ≡ bytes ++ more → Takes p piece (Err e) new
takes_err p mid new rest bytes more piece e t limit so_far parts =
    let whole : (text_so_far mid ++ bytes) ++ more ≡ text_so_far p ++ piece = append_assoc (text_so_far mid) bytes more ∙ ap (λ (x : List ℕ). text_so_far mid ++ x) (sym parts) ∙ so_far in
    (t.0, subst (λ (x : List ℕ). IsCause p.limit e x) whole (subst (λ (n : ℕ). IsCause n e ((text_so_far mid ++ bytes) ++ more)) limit (cause_more mid.limit e (text_so_far mid ++ bytes) more t.1)))

pub piece_on : (mid before bytes more rest p piece : List ℕ) → mid ≡ before ++ bytes → rest ≡ bytes ++ more → before ++ rest ≡ p ++ piece → mid ++ more ≡ p ++ piece
piece_on mid before bytes more rest p piece e1 e2 e3 = ap (λ (x : List ℕ). x ++ more) e1 ∙ append_assoc before bytes more ∙ ap (λ (x : List ℕ). before ++ x) (sym e2) ∙ e3
