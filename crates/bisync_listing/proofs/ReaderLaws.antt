-- What a reader answers, by how far it has come.
use Rattle.std.proofs.Common.{◌≡◌, ℕ, ◌+◌, ◌<◌, ◌^◌, List, [], ◌++◌, length, Option, Some, None, Result, Ok, Err, IfErr, OnOk, refl, sym, ap, subst, ◌∙◌, arith}
use Rattle.bisync_tree.specs.Rows.{Rows}
use Rattle.bisync_listing.specs.Words.{Lacks}
use Rattle.bisync_listing.specs.Answers.{Reading, IsFault, IsSettledFault, IsGoodSoFar}
use Rattle.bisync_listing.specs.declared.headers.Header.{Header}
use Rattle.bisync_listing.specs.declared.faults.ListingFault.{ListingFault}
use Rattle.bisync_listing.specs.declared.faults.ListingFault.TheVariants.{BadLine}
use Rattle.bisync_listing.specs.declared.progress.Place.{Place}
use Rattle.bisync_listing.specs.declared.progress.Place.TheVariants.{Start}
use Rattle.bisync_listing.specs.declared.progress.Progress.{Progress}
use Rattle.bisync_listing.specs.Progress.{lines_at, IsGoodAt, IsReading, IsSound, IsSoundAt, IsUnended, Takes, reading_of, text_so_far}
use Rattle.bisync_listing.proofs.VerdictLaws.{unended_first, cause_settled, good_so_far}

pub reads : (p : Progress) → IsSound p → p.fault ≡ None → IsReading p
reads p sound clear = subst (λ (o : Option ListingFault). IsSoundAt o p) clear sound

pub end_err : (p : Progress) (reading : Reading) (r : Result (Header × Rows) ListingFault) → reading_of p ≡ reading → IsReading p → IfErr r (λ fault. (fault ≡ BadLine (p.lines + 1)) × IsUnended p)
    → IfErr r (λ fault. reading.fault ≡ None → IsFault reading.limit reading.text fault)
end_err p reading (Ok x) view s h = tt
end_err p reading (Err fault) view s h = λ clear.
    let bad : IsFault p.limit (text_so_far p) fault = subst (λ (f : ListingFault). IsFault p.limit (text_so_far p) f) (sym h.0) (unended_first p (p.lines + 1) s refl h.1) in
    subst (λ (x : Reading). IsFault x.limit x.text fault) view bad

-- what a piece does to a reader without a fault
pub took_ok : (p new : Progress) (piece : List ℕ) (r : Result Unit ListingFault) → IsSound new → new.limit ≡ p.limit → Takes p piece r new
    → OnOk r ((new.fault ≡ None) × (text_so_far new ≡ text_so_far p ++ piece) × IsGoodSoFar p.limit (text_so_far p ++ piece))
took_ok p new piece (Ok u) sound limit t =
    let good = good_so_far new (reads new sound t.0) in
    (t.0, t.1, subst (λ (x : List ℕ). IsGoodSoFar p.limit x) t.1 (subst (λ (n : ℕ). IsGoodSoFar n (text_so_far new)) limit good))
took_ok p new piece (Err fault) sound limit t = tt

pub took_err : (p new : Progress) (piece : List ℕ) (r : Result Unit ListingFault) → IsReading p → Takes p piece r new
    → IfErr r (λ fault. (new.fault ≡ Some fault) × IsSettledFault p.limit (text_so_far p ++ piece) fault)
took_err p new piece (Ok u) s t = tt
took_err p new piece (Err fault) s t = (t.0, cause_settled p.limit fault (text_so_far p ++ piece) t.1 s.limit)

pub new_reads : (p : Progress) → p.place ≡ Start → p.rows ≡ [] → p.line ≡ [] → p.used ≡ 0 → p.lines ≡ 0 → p.limit < 2 ^ 64 → IsReading p × (text_so_far p ≡ [])
unfolding lines_at
new_reads p at rows line used lines limit =
    let empty : lines_at p.place p.header p.rows ≡ [] = ap (λ (x : Place). lines_at x p.header p.rows) at in
    let text : text_so_far p ≡ [] = rw (empty, line) refl in (
      record {
        good = subst (λ (x : Place). IsGoodAt x p.header p.rows) (sym at) rows;
        one = subst (λ (l : List ℕ). Lacks 10 l) (sym line) tt;
        short = rw line (omega arith);
        used = used ∙ sym (ap length text);
        within = omega (arith, used);
        limit = limit;
        number = lines ∙ sym (ap length empty);
        few = omega (arith, lines);
      },
      text,
    )

pub feed_ok : (p new : Progress) (reading : Reading) (piece : List ℕ) (r : Result Unit ListingFault) → reading_of p ≡ reading → p.fault ≡ None → IsSound new → new.limit ≡ p.limit → Takes p piece r new
    → OnOk r ((reading.fault ≡ None) × (new.fault ≡ None) × (text_so_far new ≡ reading.text ++ piece) × IsGoodSoFar reading.limit (reading.text ++ piece))
feed_ok p new reading piece (Ok u) view clear sound limit t =
    let x = took_ok p new piece (Ok u) sound limit t in
    subst (λ (y : Reading). (y.fault ≡ None) × (new.fault ≡ None) × (text_so_far new ≡ y.text ++ piece) × IsGoodSoFar y.limit (y.text ++ piece)) view (clear, x.0, x.1, x.2)
feed_ok p new reading piece (Err fault) view clear sound limit t = tt

pub feed_err : (p new : Progress) (reading : Reading) (piece : List ℕ) (r : Result Unit ListingFault) → reading_of p ≡ reading → IsReading p → Takes p piece r new
    → IfErr r (λ fault. reading.fault ≡ None → IsSettledFault reading.limit (reading.text ++ piece) fault)
feed_err p new reading piece (Ok u) view s t = tt
feed_err p new reading piece (Err fault) view s t = λ clear.
    subst (λ (y : Reading). IsSettledFault y.limit (y.text ++ piece) fault) view (took_err p new piece (Err fault) s t).1
