-- The last name of a path is what stands after its last slash.
use Rattle.std.proofs.Common.{◌≡◌, ◌≢◌, ◌⊎◌, ℕ, ◌+◌, ◌-◌, ◌<◌, ◌≤◌, Bool, true, false, inl, inr, List, [], ◌∷◌, ◌++◌, length, get_or, drop, refl, sym, ◌∙◌, ap, subst, suc, arith, append_assoc, length-append}
use Rattle.std.specs.Prelude.{All, bytes_eq, not, ◌==◌}
use Rattle.std.specs.List.{after_last, suffix_len}
use Rattle.std.proofs.Math.Dec.{eqb}
use Rattle.std.proofs.lemmas.Bool.Decides.{nat_tests}
use Rattle.std.proofs.lemmas.List.{drop_at, get_or_at, get_or-append_right}
use Rattle.std.proofs.lemmas.List.Sums.{suffix_len_is}
use Rattle.std.proofs.lemmas.List.Elements.{All-cons, All-get_or}
use Rattle.bisync_text.specs.Path.{IsLastPart}
use Rattle.bisync_tree.proofs.PathOrder.{path_is_itself, same_path}
use Rattle.bisync_guard.specs.CheckFiles.{is_check_file}

abbrev LacksSlash : List ℕ → Type 0
LacksSlash part = All (λ b. b ≢ 47) part

no_slash_test : (b : ℕ) → b ≢ 47 → not (b == 47) ≡ true
no_slash_test b ne = grind (arith, nat_tests)

slash_test : (b : ℕ) → b ≡ 47 → not (b == 47) ≡ false
slash_test b is = grind (arith, nat_tests)

slash_is : (b : ℕ) → eqb b 47 ≡ true → b ≡ 47
slash_is b e = grind (arith, nat_tests)

no_slash_is : (b : ℕ) → eqb b 47 ≡ false → b ≢ 47
no_slash_is b e = grind (arith, nat_tests)

-- where a part without a slash stands behind nothing, or behind a slash
after_from : (text part : List ℕ) (n : ℕ) → n ≤ length text → drop n text ≡ part → LacksSlash part
    → ((k : ℕ) → n ≤ k → k < length text → get_or text k 0 ≢ 47) → (0 < n → get_or text (n - 1) 0 ≡ 47)
    → after_last (λ b. b == 47) text ≡ part
after_from text part n within is clear above before =
    let len : suffix_len (λ b. not (b == 47)) text ≡ length text - n
    = suffix_len_is (λ b. not (b == 47)) text n 0 within (λ k from under. no_slash_test _ (above k from under)) (λ some. slash_test _ (before some)) in
    let at : length text - (length text - n) ≡ n = omega arith in
    ap (λ k. drop (length text - k) text) len ∙ ap (λ k. drop k text) at ∙ is

pub after_last-is : (text part : List ℕ) → IsLastPart text part → after_last (λ b. b == 47) text ≡ part
after_last-is text part h = by h.ends
  where
    clear_at : (k : ℕ) → k < length part → get_or part k 0 ≢ 47
    clear_at k under = All-get_or (λ b. b ≢ 47) part k 0 under h.no_slash

    by : (text ≡ part) ⊎ ((before : List ℕ) × (text ≡ before ++ 47 ∷ part)) → after_last (λ b. b == 47) text ≡ part
    by (inl e) = subst (λ t. after_last (λ b. b == 47) t ≡ part) (sym e)
        (after_from part part 0 (omega arith) refl h.no_slash (λ k from under. clear_at k under) (λ some. absurd (omega arith)))
    by (inr (before, e)) = subst (λ t. after_last (λ b. b == 47) t ≡ part) (sym e) (behind before)
      where
        behind : (before : List ℕ) → after_last (λ b. b == 47) (before ++ 47 ∷ part) ≡ part
        behind before = after_from (before ++ 47 ∷ part) part (length before + 1) within cut h.no_slash above slash
          where
            len : length (before ++ 47 ∷ part) ≡ length before + suc (length part)
            len = length-append before (47 ∷ part)

            regrouped : before ++ 47 ∷ part ≡ (before ++ 47 ∷ []) ++ part
            regrouped = sym (append_assoc before (47 ∷ []) part)

            front : length (before ++ 47 ∷ []) ≡ length before + 1
            front = length-append before (47 ∷ [])

            within : length before + 1 ≤ length (before ++ 47 ∷ part)
            within = omega (arith, len)

            cut : drop (length before + 1) (before ++ 47 ∷ part) ≡ part
            cut = ap (drop (length before + 1)) regrouped ∙ drop_at (before ++ 47 ∷ []) part (length before + 1) front

            above : (k : ℕ) → length before + 1 ≤ k → k < length (before ++ 47 ∷ part) → get_or (before ++ 47 ∷ part) k 0 ≢ 47
            above k from under e =
                clear_at (k - (length before + 1)) (omega (arith, len))
                (sym (ap (λ t. get_or t k 0) regrouped ∙ get_or-append_right (before ++ 47 ∷ []) part (length before + 1) k 0 front from) ∙ e)

            slash : 0 < length before + 1 → get_or (before ++ 47 ∷ part) (length before + 1 - 1) 0 ≡ 47
            slash some = get_or_at before 47 part 0 (length before + 1 - 1) (omega arith)

-- each text has a last part
extended : (b : ℕ) (bs : List ℕ) → (part : List ℕ) × IsLastPart bs part → (part : List ℕ) × IsLastPart (b ∷ bs) part
extended b bs (part, h) = by (eqb b 47) refl h.ends
  where
    by : (e : Bool) → eqb b 47 ≡ e → (bs ≡ part) ⊎ ((before : List ℕ) × (bs ≡ before ++ 47 ∷ part)) → (part : List ℕ) × IsLastPart (b ∷ bs) part
    by e test (inr (before, cut)) = (part, record { ends = inr (b ∷ before, ap (λ (t : List ℕ). b ∷ t) cut); no_slash = h.no_slash })
    by true test (inl is) = (bs, record { ends = inr ([], ap (λ x. x ∷ bs) (slash_is b test)); no_slash = subst LacksSlash (sym is) h.no_slash })
    by false test (inl is) = (b ∷ bs, record { ends = inl refl; no_slash = All-cons (λ c. c ≢ 47) b bs (no_slash_is b test) (subst LacksSlash (sym is) h.no_slash) })

pub some_last_part : (text : List ℕ) → (part : List ℕ) × IsLastPart text part
some_last_part [] = ([], record { ends = inl refl; no_slash = λ k d under. absurd (omega arith) })
some_last_part (b ∷ bs) = extended b bs (some_last_part bs)

pub check_file_is : (name p part : List ℕ) → IsLastPart p part → is_check_file name p ≡ bytes_eq part name
check_file_is name p part h = ap (λ l. bytes_eq l name) (after_last-is p part h)

pub named : (name p : List ℕ) → is_check_file name p ≡ true → IsLastPart p name
named name p e =
    let some = some_last_part p in
    let is : some.0 ≡ name = same_path some.0 name (sym (check_file_is name p some.0 some.1) ∙ e) in
    subst (IsLastPart p) is some.1

pub has_name : (name p : List ℕ) → IsLastPart p name → is_check_file name p ≡ true
has_name name p h = check_file_is name p name h ∙ path_is_itself name
