use Rattle.std.proofs.Common.{◌≡◌, ◌+◌, ℕ, length, take, arith, ap, ◌∙◌, length-append}
use Rattle.std.proofs.lemmas.List.{length-take-le}
use Rattle.bisync_listing.proofs.texts.text_len.Goals as goal

pub pieces-preserved : goal.pieces-preserved
pieces-preserved c =
    let parts : length c.pieces.writer ≡ c.fill-count.result + length c.fill-count.new.self =
    ap length c.fill-count.ensures.given ∙ length-append (take c.fill-count.result c.fill-count.new.buffer) c.fill-count.new.self
    ∙ ap (λ (n : ℕ). n + length c.fill-count.new.self) (length-take-le c.fill-count.result c.fill-count.new.buffer (omega (arith, c.fill-count.ensures.within, c.fill-count.auto.buffer))) in
    let inv = c.pieces.invariant in
    record { within = omega (arith, inv.within, parts); counted = omega (arith, inv.within, inv.counted, parts, c.saturating_add-len.ensures) }
