-- What a first line and a quoted path are, by how they begin.
use Rattle.std.proofs.Common.{◌≡◌, ℕ, ◌≤◌, List, ◌++◌, Option, Some, None, IfSome, IfOk, MatchOption, Result, Ok, Err, sym, ap, subst, ◌∙◌, codes}
use Rattle.std.specs.Fmt.{decimal}
use Rattle.bisync_text.specs.Path.{IsPath}
use Rattle.bisync_text.specs.Quote.{quoted}
use Rattle.bisync_text.specs.declared.memory.OutOfMemory.{OutOfMemory}
use Rattle.bisync_text.proofs.Quoting.{quoted-injective}
use Rattle.bisync_tree.specs.declared.entries.Compare.{Compare}
use Rattle.bisync_listing.specs.Spelling.{fields_text, header_text, header_line}
use Rattle.bisync_listing.specs.ListingText.{AreFields, IsHeader}
use Rattle.bisync_listing.specs.declared.headers.Header.{Header}
use Rattle.bisync_listing.proofs.LineLaws.{append_cancel}
use Rattle.bisync_listing.proofs.SpellingLaws.{versions_apart}

header_text_v1 : (stamp : ℕ) (fields : Option Compare) (rest : List ℕ) → codes "# bisync listing v1 stamp " ++ rest ≡ header_text stamp fields → rest ≡ decimal stamp
header_text_v1 stamp None rest e = append_cancel (codes "# bisync listing v1 stamp ") rest (decimal stamp) e
header_text_v1 stamp (Some f) rest e = absurd (versions_apart rest (decimal stamp ++ (codes " fields " ++ fields_text f)) e)

-- a first line that begins as in version 1
pub header_v1 : (line rest : List ℕ) (h : Header) → line ≡ codes "# bisync listing v1 stamp " ++ rest → line ≡ header_line h → rest ≡ decimal h.stamp
unfolding header_line
header_v1 line rest h parts e = header_text_v1 h.stamp h.fields rest (sym parts ∙ e)

header_text_v2 : (stamp : ℕ) (fields : Option Compare) (line : List ℕ) → IfSome fields AreFields → ((rest : List ℕ) → line ≡ codes "# bisync listing v1 stamp " ++ rest → ⊥) → line ≡ header_text stamp fields
    → (f : Compare) × AreFields f × (line ≡ codes "# bisync listing v2 stamp " ++ (decimal stamp ++ (codes " fields " ++ fields_text f)))
header_text_v2 stamp None line are none e = absurd (none (decimal stamp) e)
header_text_v2 stamp (Some f) line are none e = (f, are, e)

-- a first line that does not begin so
pub header_v2 : (line : List ℕ) (h : Header) → IsHeader h → ((rest : List ℕ) → line ≡ codes "# bisync listing v1 stamp " ++ rest → ⊥) → line ≡ header_line h
    → (f : Compare) × AreFields f × (line ≡ codes "# bisync listing v2 stamp " ++ (decimal h.stamp ++ (codes " fields " ++ fields_text f)))
unfolding header_line
header_v2 line h is none e = header_text_v2 h.stamp h.fields line is.fields none e

pub first_line : (stamp : ℕ) (line rest : List ℕ) → 1 ≤ stamp → stamp ≤ 999_999_999_999_999_999 → line ≡ codes "# bisync listing v1 stamp " ++ rest → rest ≡ decimal stamp
    → let h : Header = record { stamp = stamp; fields = None } in IsHeader h × (line ≡ header_line h)
unfolding header_line
first_line stamp line rest low high parts e = (record { low = low; high = high; fields = tt }, parts ∙ ap (λ (x : List ℕ). codes "# bisync listing v1 stamp " ++ x) e)

pub second_line : (stamp : ℕ) (f : Compare) (line rest : List ℕ) → 1 ≤ stamp → stamp ≤ 999_999_999_999_999_999 → AreFields f → line ≡ codes "# bisync listing v2 stamp " ++ rest → rest ≡ decimal stamp ++ (codes " fields " ++ fields_text f)
    → let h : Header = record { stamp = stamp; fields = Some f } in IsHeader h × (line ≡ header_line h)
unfolding header_line
second_line stamp f line rest low high are parts e = (record { low = low; high = high; fields = are }, parts ∙ ap (λ (x : List ℕ). codes "# bisync listing v2 stamp " ++ x) e)

-- a text that quotes these bytes quotes a path where they are one
pub path_quoted : (text bytes : List ℕ) (r : Result (Option (List ℕ)) OutOfMemory) → text ≡ quoted bytes
    → IfOk r (λ found. MatchOption found (IsPath bytes → ⊥) (λ path. (path ≡ bytes) × IsPath bytes))
    → IfOk r (λ found. MatchOption found ((path : List ℕ) → IsPath path → text ≡ quoted path → ⊥) (λ path. IsPath path × (text ≡ quoted path)))
path_quoted text bytes (Err e) is h = tt
path_quoted text bytes (Ok None) is h = λ path p e. h (subst IsPath (quoted-injective path bytes (sym e ∙ is)) p)
path_quoted text bytes (Ok (Some path)) is h = (subst IsPath (sym h.0) h.1, is ∙ ap quoted (sym h.0))
