use Rattle.std.proofs.Common.{◌≡◌, ◌≢◌, ℕ, ◌+◌, ◌-◌, ◌<◌, ◌≤◌, inl, inr, List, ◌∷◌, ◌++◌, length, get_or, take, drop, refl, sym, ap, ◌∙◌, arith, length-drop}
use Rattle.std.specs.Prelude.{All}
use Rattle.std.proofs.lemmas.List.{drop_more, get_or-drop, take_rest, take-append-drop}
use Rattle.std.proofs.lemmas.List.Elements.{All-from_get_or}
use Rattle.bisync_text.specs.Path.{IsLastPart}
use Rattle.bisync_text.proofs.path.after_last_slash.Goals as goal
use Rattle.bisync_text.proofs.path.after_last_slash.Goals.{then-loop-start-test+else-text-start-ne47, else-loop-start-test}

abbrev LacksSlashFrom : List ℕ → ℕ → Type 0
LacksSlashFrom text start = (k : ℕ) → start ≤ k → k < length text → get_or text k 0 ≡ 47 → ⊥

clear_rest : (text : List ℕ) (start : ℕ) → LacksSlashFrom text start → All (λ b. b ≢ 47) (drop start text)
clear_rest text start clear =
    All-from_get_or (λ b. b ≢ 47) (drop start text) 0
    (λ k inside slash. clear (start + k) (omega arith) (omega (arith, length-drop start text)) (sym (get_or-drop start text k 0) ∙ slash))

whole_at : (text : List ℕ) (start : ℕ) → start ≡ 0 → LacksSlashFrom text start → IsLastPart text (drop start text)
whole_at text start first clear = record { ends = inl (rw first refl); no_slash = clear_rest text start clear }

after_slash : (text : List ℕ) (start : ℕ) → 0 < start → start ≤ length text → get_or text (start - 1) 0 ≡ 47 → LacksSlashFrom text start → IsLastPart text (drop start text)
after_slash text start some within slash clear =
    let back : start - 1 + 1 ≡ start = omega arith in
    let cut : drop (start - 1) text ≡ 47 ∷ drop start text = drop_more text (start - 1) 0 (omega arith) ∙ rw (slash, back) refl in
    record {
      ends = inr (take (start - 1) text, sym (take-append-drop (start - 1) text) ∙ ap (λ (l : List ℕ). take (start - 1) text ++ l) cut);
      no_slash = clear_rest text start clear;
    }

pub returns : goal.returns
returns c =
    let text = c.args.text.now in
    let start = c.loop-start.start in
    rw (take_rest text start) (elim c.loop-start-test.branch [
      | then-loop-start-test+else-text-start-ne47 w ↦ after_slash text start (omega arith) (omega arith) w.if-text-start-ne47.false c.loop-start.invariant.no_slash
      | else-loop-start-test w ↦ whole_at text start (omega arith) c.loop-start.invariant.no_slash
    ])
