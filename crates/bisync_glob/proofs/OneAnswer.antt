-- A text is one pattern, or has one first fault.
use Rattle.std.proofs.Common.{◌≡◌, ◌⊎◌, inl, inr, ℕ, ◌+◌, ◌<◌, ◌≤◌, List, [], length, chars, IsUtf8, if◌then◌else◌, Bool, refl, sym, ◌∙◌, ap, subst, arith}
use Rattle.bisync_glob.specs.declared.parts.Part.{Part}
use Rattle.bisync_glob.specs.declared.tokens.Piece.TheVariants.{Open, Close, Bad}
use Rattle.bisync_glob.specs.declared.tokens.Token.{Token}
use Rattle.bisync_glob.specs.declared.faults.FaultKind.{FaultKind}
use Rattle.bisync_glob.specs.declared.faults.FaultKind.TheVariants.{Stars, Class, Brace, Backslash, Long, NotUtf8, Empty}
use Rattle.bisync_glob.specs.declared.faults.PatternFault.{PatternFault}
use Rattle.bisync_glob.specs.declared.faults.PatternFault.TheVariants.{At, OutOfMemory}
use Rattle.bisync_glob.specs.Matching.{Glob}
use Rattle.bisync_glob.specs.Spelling.{begins}
use Rattle.bisync_glob.specs.Faults.{pieces, IsFault, NoFaultBelow, IsLeftmostFault, place_of}
use Rattle.bisync_glob.specs.Parsing.{AreAllParts}
use Rattle.bisync_glob.specs.Refusals.{unanchored, SpellsParts, IsPatternText, IsLeftmostAt, HasLeftmostFault, IsReadable, IsFirstFaultAt, IsFirstFault, IsOnlyPattern, IsOnlyFault}
use Rattle.bisync_glob.proofs.OneReading.{tokens_one}
use Rattle.bisync_glob.proofs.OneParsing.{all_parts_one}

-- ONE LEFTMOST FAULT

below_same : (i j : ℕ) → (i < j → ⊥) → (j < i → ⊥) → i ≡ j
below_same i j p q = elim (three i j) [ inl h ↦ absurd (p h) | inr (inl h) ↦ absurd (q h) | inr (inr h) ↦ h ]
  where
    three : (i j : ℕ) → (i < j) ⊎ ((j < i) ⊎ (i ≡ j))
    three i j = grind arith

kind_one : (tokens : List Token) (k : ℕ) (kind other : FaultKind) → IsFault tokens k kind → IsFault tokens k other → kind ≡ other
kind_one tokens k kind other (inl is) (inl is') = (let e : Bad kind ≡ Bad other = sym is ∙ is' in cc)
kind_one tokens k kind other (inl is) (inr (brace, inl (opened, why))) = absurd (let e : Bad kind ≡ Open = sym is ∙ opened in cc)
kind_one tokens k kind other (inl is) (inr (brace, inr (closed, why))) = absurd (let e : Bad kind ≡ Close = sym is ∙ closed in cc)
kind_one tokens k kind other (inr (brace, inl (opened, why))) (inl is) = absurd (let e : Bad other ≡ Open = sym is ∙ opened in cc)
kind_one tokens k kind other (inr (brace, inr (closed, why))) (inl is) = absurd (let e : Bad other ≡ Close = sym is ∙ closed in cc)
kind_one tokens k kind other (inr (brace, why)) (inr (brace', why')) = brace ∙ sym brace'

leftmost_token : (tokens : List Token) (k j : ℕ) (kind other : FaultKind) → IsLeftmostFault tokens k kind → IsLeftmostFault tokens j other → k ≡ j
leftmost_token tokens k j kind other (below, fault, none) (below', fault', none') =
    below_same k j (λ h. none' k kind h fault) (λ h. none j other h fault')

leftmost_one : (place other : ℕ) (kind other_kind : FaultKind) (text : List ℕ) → IsLeftmostAt place kind text → IsLeftmostAt other other_kind text → (place ≡ other) × (kind ≡ other_kind)
leftmost_one place other kind other_kind text (tokens, are, k, left, is) (others, are', j, left', is') =
    let same : tokens ≡ others = tokens_one tokens others text are are' in
    let moved : IsLeftmostFault tokens j other_kind = subst (λ (t : List Token). IsLeftmostFault t j other_kind) (sym same) left' in
    let here : k ≡ j = leftmost_token tokens k j kind other_kind left moved in (
      is ∙ ap (λ (t : List Token). place_of t text k) same ∙ ap (λ (n : ℕ). place_of others text n) here ∙ sym is',
      kind_one tokens j kind other_kind (subst (λ (n : ℕ). IsFault tokens n kind) here left.1) moved.1,
    )

-- THE STAGES OF READING

-- the first fault by the stage that finds it
abbrev Stages : ℕ → FaultKind → List ℕ → Type 0
Stages place kind bytes =
    ((kind ≡ Long) × (place ≡ 1024) × (1024 < length bytes))
    ⊎ (((kind ≡ NotUtf8) × (place ≡ 0) × (length bytes ≤ 1024) × (¬ (IsUtf8 bytes)))
    ⊎ (((kind ≡ Empty) × (place ≡ 0) × IsReadable bytes × (unanchored (chars bytes) ≡ []))
    ⊎ (IsReadable bytes × HasLeftmostFault place kind (chars bytes))))

stages : (place : ℕ) (kind : FaultKind) (bytes : List ℕ) → IsFirstFaultAt place kind bytes → Stages place kind bytes
stages place Long bytes (long, is) = inl (refl, is, long)
stages place NotUtf8 bytes (short, none, is) = inr (inl (refl, is, short, none))
stages place Empty bytes (readable, none, is) = inr (inr (inl (refl, is, readable, none)))
stages place Stars bytes h = inr (inr (inr h))
stages place Class bytes h = inr (inr (inr h))
stages place Brace bytes h = inr (inr (inr h))
stages place Backslash bytes h = inr (inr (inr h))

too_long : (bytes : List ℕ) → 1024 < length bytes → length bytes ≤ 1024 → ⊥
too_long bytes long short = omega arith

same_fault : (place other : ℕ) (kind other_kind : FaultKind) (bytes : List ℕ) → Stages place kind bytes → Stages other other_kind bytes → (other ≡ place) × (other_kind ≡ kind)
same_fault place other kind other_kind bytes (inl (is, at, long)) (inl (is', at', long')) = (at' ∙ sym at, is' ∙ sym is)
same_fault place other kind other_kind bytes (inl (is, at, long)) (inr (inl (is', at', short, none))) = absurd (too_long bytes long short)
same_fault place other kind other_kind bytes (inl (is, at, long)) (inr (inr (inl (is', at', readable, none)))) = absurd (too_long bytes long readable.0)
same_fault place other kind other_kind bytes (inl (is, at, long)) (inr (inr (inr (readable, fault)))) = absurd (too_long bytes long readable.0)
same_fault place other kind other_kind bytes (inr (inl (is, at, short, none))) (inl (is', at', long)) = absurd (too_long bytes long short)
same_fault place other kind other_kind bytes (inr (inl (is, at, short, none))) (inr (inl (is', at', short', none'))) = (at' ∙ sym at, is' ∙ sym is)
same_fault place other kind other_kind bytes (inr (inl (is, at, short, none))) (inr (inr (inl (is', at', readable, empty)))) = absurd (none readable.1)
same_fault place other kind other_kind bytes (inr (inl (is, at, short, none))) (inr (inr (inr (readable, fault)))) = absurd (none readable.1)
same_fault place other kind other_kind bytes (inr (inr (inl (is, at, readable, empty)))) (inl (is', at', long)) = absurd (too_long bytes long readable.0)
same_fault place other kind other_kind bytes (inr (inr (inl (is, at, readable, empty)))) (inr (inl (is', at', short, none))) = absurd (none readable.1)
same_fault place other kind other_kind bytes (inr (inr (inl (is, at, readable, empty)))) (inr (inr (inl (is', at', readable', empty')))) = (at' ∙ sym at, is' ∙ sym is)
same_fault place other kind other_kind bytes (inr (inr (inl (is, at, readable, empty)))) (inr (inr (inr (readable', (some, from, left, at'))))) = absurd (some empty)
same_fault place other kind other_kind bytes (inr (inr (inr (readable, fault)))) (inl (is', at', long)) = absurd (too_long bytes long readable.0)
same_fault place other kind other_kind bytes (inr (inr (inr (readable, fault)))) (inr (inl (is', at', short, none))) = absurd (none readable.1)
same_fault place other kind other_kind bytes (inr (inr (inr (readable, (some, from, left, at))))) (inr (inr (inl (is', at', readable', empty)))) = absurd (some empty)
same_fault place other kind other_kind bytes (inr (inr (inr (readable, (some, from, left, at))))) (inr (inr (inr (readable', (some', from', left', at'))))) =
    let both : (from' ≡ from) × (other_kind ≡ kind) = leftmost_one from' from other_kind kind (unanchored (chars bytes)) left' left in
    (at' ∙ ap (λ n. (if begins 47 (chars bytes) then 1 else 0) + n) both.0 ∙ sym at, both.1)

-- A PATTERN HAS NO FAULT

parts_apart : (place : ℕ) (kind : FaultKind) (parts : List Part) (text : List ℕ) → SpellsParts parts text → IsLeftmostAt place kind text → ⊥
parts_apart place kind parts text (tokens, are, none, all) (others, are', k, (below, fault, before), is) =
    let same : tokens ≡ others = tokens_one tokens others text are are' in
    let moved : NoFaultBelow others (length others) = subst (λ (t : List Token). NoFaultBelow t (length t)) same none in
    moved k kind below fault

apart : (place : ℕ) (kind : FaultKind) (glob : Glob) (bytes : List ℕ) → IsPatternText glob bytes → Stages place kind bytes → ⊥
apart place kind glob bytes text (inl (is, at, long)) = too_long bytes long text.short
apart place kind glob bytes text (inr (inl (is, at, short, none))) = none text.utf8
apart place kind glob bytes text (inr (inr (inl (is, at, readable, empty)))) = text.spelled.1 empty
apart place kind glob bytes text (inr (inr (inr (readable, (some, from, left, at))))) = parts_apart from kind glob.parts (unanchored (chars bytes)) text.spelled.2 left

-- ONE PATTERN

glob_same : (a b : Glob) → a.anchored ≡ b.anchored → a.parts ≡ b.parts → a ≡ b
glob_same a b p q =
    let make : Bool → List Part → Glob = λ anchored parts. record { anchored = anchored; parts = parts } in
    ap (λ x. make x a.parts) p ∙ ap (λ x. make b.anchored x) q

parts_same : (ps qs : List Part) (text : List ℕ) → SpellsParts ps text → SpellsParts qs text → ps ≡ qs
parts_same ps qs text (tokens, are, none, all) (others, are', none', all') =
    let same : tokens ≡ others = tokens_one tokens others text are are' in
    all_parts_one ps qs (pieces tokens) all (subst (λ (t : List Token). AreAllParts qs (pieces t)) (sym same) all')

pattern_one : (glob other : Glob) (bytes : List ℕ) → IsPatternText glob bytes → IsPatternText other bytes → other ≡ glob
pattern_one glob other bytes text text' =
    glob_same other glob (text'.spelled.0 ∙ sym text.spelled.0) (parts_same other.parts glob.parts (unanchored (chars bytes)) text'.spelled.2 text.spelled.2)

-- THE CLAUSES OF A READER

pub only_pattern : (glob : Glob) (bytes : List ℕ) → IsPatternText glob bytes → IsOnlyPattern glob bytes
only_pattern glob bytes text = (λ other text'. pattern_one glob other bytes text text', λ place kind fault. apart place kind glob bytes text (stages place kind bytes fault))

pub only_fault : (fault : PatternFault) (bytes : List ℕ) → IsFirstFault fault bytes → IsOnlyFault fault bytes
only_fault (At place kind) bytes is = (λ glob text. apart place kind glob bytes text (stages place kind bytes is), λ other other_kind is'. same_fault place other kind other_kind bytes (stages place kind bytes is) (stages other other_kind bytes is'))
only_fault OutOfMemory bytes is = tt
