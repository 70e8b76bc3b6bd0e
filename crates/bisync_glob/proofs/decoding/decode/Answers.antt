use Rattle.std.proofs.Common.{◌≡◌, ◌≤◌, length, ◌+◌, arith, length-append, ◌++◌}
use Rattle.std.specs.Str.Iter.{chars_rest}
use Rattle.std.proofs.Math.Utf8.{encode}
use Rattle.std.proofs.lemmas.List.{length-set}
use Rattle.std.proofs.lemmas.Str.{IsUtf8-past_char, length-encode, len_utf8_bounds}
use Rattle.bisync_glob.proofs.DecodingLaws.{decode_step, decode_end}
use Rattle.bisync_glob.proofs.decoding.decode.Goals as goal

pub loop-c-preserved : goal.loop-c-preserved
loop-c-preserved c =
    let begins : chars_rest c.loop-c.c-iterator ≡ encode c.in-Some.c ++ chars_rest c.next.new.self = c.in-Some.ensures.steps.0 in
    let some : 1 ≤ length (encode c.in-Some.c) = omega (arith, length-encode c.in-Some.c, len_utf8_bounds c.in-Some.c) in
    let lens : length (chars_rest c.loop-c.c-iterator) ≡ length (encode c.in-Some.c) + length (chars_rest c.next.new.self) = rw begins (length-append (encode c.in-Some.c) (chars_rest c.next.new.self)) in
    let room : c.loop-c.len + length (chars_rest c.loop-c.c-iterator) ≤ length c.loop-c.room = c.loop-c.invariant.room in
    record {
      text = decode_step c.args.text.now (chars_rest c.loop-c.c-iterator) (chars_rest c.next.new.self) c.loop-c.room c.loop-c.len c.in-Some.c c.loop-c.invariant.text (omega arith) c.loop-c.invariant.utf8 begins;
      room = omega (arith, length-set c.loop-c.room c.loop-c.len c.in-Some.c);
      utf8 = IsUtf8-past_char (chars_rest c.loop-c.c-iterator) (chars_rest c.next.new.self) c.in-Some.c c.loop-c.invariant.utf8 begins;
    }

pub returns-clause-front : goal.returns-clause-front
returns-clause-front c = decode_end c.args.text.now (chars_rest c.loop-c.c-iterator) c.loop-c.room c.loop-c.len c.loop-c.invariant.text c.in-None.ensures.steps.0.0
