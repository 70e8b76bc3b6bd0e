use Rattle.std.proofs.Common.{◌≡◌, ◌+◌, length, arith, inl, inr, true, false, sym, ◌∙◌}
use Rattle.bisync_glob.specs.Matching.{Glob}
use Rattle.bisync_glob.specs.Deciding.{IsBlank}
use Rattle.bisync_glob.proofs.Whole.{matches_from, from_matches}
use Rattle.bisync_glob.proofs.rooms.is_matched.Goals as goal

pub returns-then-table : goal.returns-then-table
returns-then-table c =
    let glob : Glob = record { anchored = c.args.anchored; parts = c.args.parts.now } in
    (λ h. matches_from glob c.args.text.now c.put_parts.new.table c.put_parts.ensures.table (inl h), λ m. c.if-table.true)

pub returns-then-not-anchored : goal.returns-then-not-anchored
returns-then-not-anchored c =
    let glob : Glob = record { anchored = c.args.anchored; parts = c.args.parts.now } in (
      λ h. matches_from glob c.args.text.now c.put_parts.new.table c.put_parts.ensures.table (inr (c.if-not-anchored.true, c.has_after_slash.ensures.0 h)),
      λ m. elim (from_matches glob c.args.text.now c.put_parts.new.table c.put_parts.ensures.table m) [
        | inl h ↦ absurd (let f : true ≡ false = sym h ∙ c.if-table.false in cc)
        | inr w ↦ c.has_after_slash.ensures.1 w.1
      ],
    )

pub returns-else-not-anchored : goal.returns-else-not-anchored
returns-else-not-anchored c =
    let glob : Glob = record { anchored = c.args.anchored; parts = c.args.parts.now } in (
      λ h. absurd (let f : false ≡ true = rw c.if-not-anchored.false at h in cc),
      λ m. elim (from_matches glob c.args.text.now c.put_parts.new.table c.put_parts.ensures.table m) [
        | inl h ↦ absurd (let f : true ≡ false = sym h ∙ c.if-table.false in cc)
        | inr w ↦ absurd (let f : true ≡ false = sym c.if-not-anchored.false ∙ w.0 in cc)
      ],
    )

pub returns-then-not-put_parts : goal.returns-then-not-put_parts
returns-then-not-put_parts c =
    let glob : Glob = record { anchored = c.args.anchored; parts = c.args.parts.now } in
    let blank : IsBlank c.put_parts.new.table (length c.args.text.now + 1) = c.put_parts.ensures.none c.if-not-put_parts.true in (
      λ h. absurd (let f : false ≡ true = h in cc),
      λ m. elim (from_matches glob c.args.text.now c.put_parts.new.table c.put_parts.ensures.table m) [
        | inl h ↦ absurd (let f : true ≡ false = sym h ∙ blank 0 (omega arith) in cc)
        | inr (a, (k, below, slash, set)) ↦ absurd (let f : true ≡ false = sym set ∙ blank (k + 1) (omega arith) in cc)
      ],
    )
