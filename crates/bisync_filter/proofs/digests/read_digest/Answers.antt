use Rattle.std.proofs.Common.{◌≡◌, true, false, sym, ◌∙◌, ap, refl, is_err, Some, None}
use Rattle.hex.specs.Hex.{encode_lower}
use Rattle.bisync_filter.proofs.DigestLaws.{digits_of-spelled, spelled-digits_of, decoded, decoded_digest}
use Rattle.bisync_filter.proofs.DigitLaws.{digest_of-form, form-SpellsDigest}
use Rattle.bisync_filter.specs.Digests.{IsDigest}
use Rattle.bisync_filter.proofs.digests.read_digest.Goals as goal

pub returns-then-is_err-clause-exact : goal.returns-then-is_err-clause-exact
returns-then-is_err-clause-exact c digest d s =
    let digits : c.without_newline-digits.result.now ≡ encode_lower digest = c.without_newline-digits.ensures ∙ digits_of-spelled digest c.args.text.now d s in
    let both = decoded c.without_newline-digits.result.now digest c.decode_to_slice.new.out c.decode_to_slice.result d digits c.decode_to_slice.ensures.value in
    let never : true ≡ false = sym c.if-is_err.true ∙ c.is_err.ensures.value ∙ ap is_err both.0 in
    absurd (cc)

pub returns-then-not-is_written_as-clause-exact : goal.returns-then-not-is_written_as-clause-exact
returns-then-not-is_written_as-clause-exact c digest d s =
    let digits : c.without_newline-digits.result.now ≡ encode_lower digest = c.without_newline-digits.ensures ∙ digits_of-spelled digest c.args.text.now d s in
    let both = decoded c.without_newline-digits.result.now digest c.decode_to_slice.new.out c.decode_to_slice.result d digits c.decode_to_slice.ensures.value in
    let never : true ≡ false = sym (c.is_written_as.ensures.1 (digits ∙ ap encode_lower (sym both.1))) ∙ c.if-not-is_written_as.true in
    absurd (cc)

pub returns-clause-found : goal.returns-clause-found
returns-clause-found c =
    let equal : c.without_newline-digits.result.now ≡ encode_lower c.decode_to_slice.new.out = c.is_written_as.ensures.0 c.if-not-is_written_as.false in
    spelled-digits_of c.decode_to_slice.new.out c.args.text.now (sym c.without_newline-digits.ensures ∙ equal)

pub returns-clause-exact : goal.returns-clause-exact
returns-clause-exact c digest d s =
    let digits : c.without_newline-digits.result.now ≡ encode_lower digest = c.without_newline-digits.ensures ∙ digits_of-spelled digest c.args.text.now d s in
    let both = decoded c.without_newline-digits.result.now digest c.decode_to_slice.new.out c.decode_to_slice.result d digits c.decode_to_slice.ensures.value in
    ap Some both.1

pub returns-then-is_err-clause-form : goal.returns-then-is_err-clause-form
returns-then-is_err-clause-form c = (
  λ h. absurd (cc),
  λ form.
      let found = digest_of-form c.args.text.now form in
      let never : None ≡ Some found.0 = returns-then-is_err-clause-exact c found.0 found.1 found.2 in
      absurd (cc),
)

pub returns-then-not-is_written_as-clause-form : goal.returns-then-not-is_written_as-clause-form
returns-then-not-is_written_as-clause-form c = (
  λ h. absurd (cc),
  λ form.
      let found = digest_of-form c.args.text.now form in
      let never : None ≡ Some found.0 = returns-then-not-is_written_as-clause-exact c found.0 found.1 found.2 in
      absurd (cc),
)

pub returns-clause-form : goal.returns-clause-form
returns-clause-form c =
    let digest : IsDigest c.decode_to_slice.new.out = decoded_digest c.without_newline-digits.result.now c.decode_to_slice.new.out c.decode_to_slice.result (sym c.is_err.ensures.value ∙ c.if-is_err.false) c.decode_to_slice.ensures.value in
    (λ h. form-SpellsDigest c.decode_to_slice.new.out c.args.text.now digest (returns-clause-found c), λ form. refl)
