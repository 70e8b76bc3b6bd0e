use Rattle.std.proofs.Common.{◌≡◌, ◌∙◌, ◌==◌, true, sym}
use Rattle.std.specs.List.{list_all, slice_split}
use Rattle.bisync_opts.specs.Conversions.{is_field}
use Rattle.bisync_opts.proofs.FieldLemmas.{fields_some}
use Rattle.bisync_opts.proofs.conversions.fields.Goals as goal

pub returns-clause-some : goal.returns-clause-some
returns-clause-some c =
    let alone : list_all is_field (slice_split (λ b. b == 44) c.as_bytes-text.result.now) ≡ true = sym c.has_fields_alone.ensures ∙ c.if-not-has_fields_alone.false in
    rw (c.has_field.ensures, c.has_field-2.ensures, c.has_field-3.ensures) (fields_some c.as_bytes-text.result.now alone)
