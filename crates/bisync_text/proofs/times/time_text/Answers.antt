use Rattle.std.proofs.Common.{refl, ◌∙◌, w64}
use Rattle.std.proofs.lemmas.Int.{to_z-of_z}
use Rattle.bisync_text.specs.Digits.{padded}
use Rattle.bisync_text.specs.Time.{civil_text}
use Rattle.bisync_text.proofs.TimeLaws.{text_is_spelling}
use Rattle.bisync_text.proofs.times.time_text.Goals as goal

pub returns : goal.returns
unfolding civil_text padded
returns c = text_is_spelling _ _ c.ranges.ns (record {
  civil = c.civil_of-civil.result;
  is_civil = c.civil_of-civil.ensures.civil;
  moment = c.civil_of-civil.ensures.moment ∙ to_z-of_z w64 c.args.ns c.ranges.ns;
  spelled = rw (c.four_digits.ensures, c.two_digits.ensures, c.two_digits-2.ensures, c.two_digits-3.ensures, c.two_digits-4.ensures, c.two_digits-5.ensures, c.nine_digits.ensures) refl;
})
