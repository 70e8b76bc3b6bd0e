use Rattle.std.proofs.Common.{◌≡◌, ◌+◌, ◌-◌, List, ℕ, Bool, true, length, take, drop, sym, ◌∙◌}
use Rattle.std.proofs.lemmas.List.{take_rest}
use Rattle.bisync_glob.specs.Spelling.{begins}
use Rattle.bisync_glob.specs.Reading.{CharRead, NoChar}
use Rattle.bisync_glob.proofs.ClassLaws.{range_read, no_item_from_char, no_item_from_second, no_item_from_order}
use Rattle.bisync_glob.proofs.class_reader.read_item.Goals as goal

from_rest : (text : List ℕ) (n : ℕ) (b : Bool) → b ≡ begins 45 (take (length text - n) (drop n text)) → b ≡ true → begins 45 (drop n text) ≡ true
from_rest text n b e h = sym (rw (take_rest text n) at e) ∙ h

pub returns-in_default : goal.returns-in_default
returns-in_default c = no_item_from_char c.args.text.now (c.in_default.ensures)

pub returns-in_default-read_char : goal.returns-in_default-read_char
returns-in_default-read_char c =
    let dash : begins 45 (drop c.in-Some.len c.args.text.now) ≡ true = from_rest c.args.text.now c.in-Some.len c.begins.result c.begins.ensures c.if-not-begins.false in
    let none : NoChar (drop (c.in-Some.len + 1) c.args.text.now) = rw (take_rest c.args.text.now (c.in-Some.len + 1)) at (c.in_default-read_char.ensures) in
    no_item_from_second c.in-Some.low c.in-Some.len c.args.text.now (c.in-Some.ensures) dash none

pub returns-then-high-low : goal.returns-then-high-low
returns-then-high-low c =
    let dash : begins 45 (drop c.in-Some.len c.args.text.now) ≡ true = from_rest c.args.text.now c.in-Some.len c.begins.result c.begins.ensures c.if-not-begins.false in
    let second : CharRead c.in-Some-read_char.high c.in-Some-read_char.high_len (drop (c.in-Some.len + 1) c.args.text.now) = rw (take_rest c.args.text.now (c.in-Some.len + 1)) at (c.in-Some-read_char.ensures) in
    no_item_from_order c.in-Some.low c.in-Some.len c.in-Some-read_char.high c.in-Some-read_char.high_len c.args.text.now (c.in-Some.ensures) dash second c.if-high-low.true

pub returns : goal.returns
returns c =
    let dash : begins 45 (drop c.in-Some.len c.args.text.now) ≡ true = from_rest c.args.text.now c.in-Some.len c.begins.result c.begins.ensures c.if-not-begins.false in
    let second : CharRead c.in-Some-read_char.high c.in-Some-read_char.high_len (drop (c.in-Some.len + 1) c.args.text.now) = rw (take_rest c.args.text.now (c.in-Some.len + 1)) at (c.in-Some-read_char.ensures) in
    range_read c.in-Some.low c.in-Some.len c.in-Some-read_char.high c.in-Some-read_char.high_len c.args.text.now (c.in-Some.ensures) dash second c.if-high-low.false
