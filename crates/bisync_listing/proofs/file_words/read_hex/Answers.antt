use Rattle.std.proofs.Common.{◌≢◌, ℕ, ◌<◌, ◌+◌, ◌*◌, List, length, arith, ap, ◌∙◌, get_or, get_or-set_other, get_or-set_same, below_more}
use Rattle.std.proofs.Math.ListN.{length-set}
use Rattle.bisync_listing.proofs.HexLaws.{ShowsByte, length-hex, shows-hex, hex_from_shows, each_byte}
use Rattle.bisync_listing.proofs.file_words.read_hex.Goals as goal

pub returns-then-text-ne32-clause-none : goal.returns-then-text-ne32-clause-none
returns-then-text-ne32-clause-none c = λ bytes is e. c.if-text-ne32.true (omega (arith, ap length e, length-hex bytes, is.count))

pub loop-i-preserved : goal.loop-i-preserved
loop-i-preserved c =
    let lt : c.loop-i.i < length c.loop-i.bytes = omega arith in
    let found = c.in_ok-bytes.ensures.found in
    record {
      long = c.loop-i.invariant.long;
      short = length-set c.loop-i.bytes c.loop-i.i c.in_ok-bytes.field-0 ∙ c.loop-i.invariant.short;
      shown = below_more _ _
          (λ k h. let ne : k ≢ c.loop-i.i = omega arith in rw get_or-set_other (c.loop-i.invariant.shown k h))
          (rw get_or-set_same found);
    }

pub returns-in_err-bytes-clause-none : goal.returns-in_err-bytes-clause-none
returns-in_err-bytes-clause-none c = rw c.from_residual.ensures (λ bytes is e.
    let lt : c.loop-i.i < length bytes = omega (arith, is.count) in
    let s = shows-hex bytes c.loop-i.i is.each lt in
    c.in_err-bytes.ensures.none (get_or bytes c.loop-i.i 0) s.0 (ap (λ (text : List ℕ). get_or text (2 * c.loop-i.i) 0) e ∙ s.1) (ap (λ (text : List ℕ). get_or text (2 * c.loop-i.i + 1) 0) e ∙ s.2))

pub returns-clause-found : goal.returns-clause-found
returns-clause-found c =
    let inv = c.loop-i.invariant in
    let whole : (k : ℕ) → k < length c.loop-i.bytes → ShowsByte c.args.text.now c.loop-i.bytes k = λ k h. inv.shown k (omega arith) in (
      record { count = inv.short; each = each_byte c.loop-i.bytes (λ k h. (whole k h).0) },
      hex_from_shows c.args.text.now c.loop-i.bytes (omega (arith, inv.long, inv.short)) whole,
    )
