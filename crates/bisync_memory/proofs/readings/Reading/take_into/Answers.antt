use Rattle.std.proofs.Common.{◌≡◌, ℕ, ◌+◌, ◌-◌, List, ◌++◌, length, take, drop, sym, ap, ◌∙◌, subst, arith}
use Rattle.std.proofs.Math.Seq.{take-append_seam}
use Rattle.std.proofs.lemmas.List.{take-append-drop, drop-drop}
use Rattle.std.proofs.lemmas.Grind.{common_steps}
use Rattle.bisync_memory.proofs.readings.Reading.take_into.Goals as goal

taken : (bytes rest x : List ℕ) (at count : ℕ) → length x ≡ count → x ≡ take count (drop at bytes) → drop at bytes ≡ take count (x ++ rest) ++ drop (at + count) bytes
taken bytes rest x at count long is =
    let left : take count (drop at bytes) ≡ take count (x ++ rest) = sym is ∙ sym (subst (λ n. take n (x ++ rest) ≡ x) long (take-append_seam x rest)) in
    sym (take-append-drop count (drop at bytes)) ∙ (λ i. left i ++ drop-drop count at bytes i)

tail_all : (xs : List ℕ) (at : ℕ) → take (length xs - at) (drop at xs) ≡ drop at xs
tail_all xs at = grind (arith, common_steps)

pub returns-clause-bytes : goal.returns-clause-bytes
returns-clause-bytes c =
    let count = c.min-count.result in
    let rest = tail_all c.deref.result.now c.self.inside.at ∙ ap (drop c.self.inside.at) c.deref.ensures.value in
    let is = c.copy_from_slice.ensures.after ∙ ap (take count) rest in
    let long : length c.copy_from_slice.new.self ≡ count = grind (arith, common_steps) in
    sym c.self.view_is ∙ taken c.self.inside.bytes.items _ _ c.self.inside.at count long is
