-- A text is a path by the test exactly where reading it as a path gives one.
use Rattle.std.proofs.Common.{◌≡◌, ◌≢◌, ℕ, Bool, true, false, not, List, length, ◌&&◌, inl, inr, rules, refl, leb, IsUtf8, IfOk, Result, Ok, Err, ◌∙◌, sym}
use Rattle.std.proofs.lemmas.Bool.{and_left, and_right}
use Rattle.std.proofs.lemmas.Str.{is_utf8-from_IsUtf8, IsUtf8-from_is_utf8}
use Rattle.std.proofs.lemmas.Slice.Eq.{bytes_eq-Decides}
use Rattle.std.specs.List.{list_all}
use Rattle.std.specs.Str.{bytes_eq, is_utf8}
use borrow.Author.Tests.{tests}
use Rattle.bisync_text.specs.Path.{IsPath, is_name, names, partial_name}
use Rattle.bisync_text.specs.PathFault.{IsFirstFault}
use Rattle.bisync_text.specs.declared.path.PathFault.{PathFault}
use Rattle.bisync_text.specs.declared.path.PathFault.TheVariants.{Empty, TooLong, NotUtf8, BadPart, OutOfMemory}
use Rattle.bisync_opts.specs.Texts.{is_path}

pub is_path-from_IsPath : (text : List ℕ) → IsPath text → is_path text ≡ true
is_path-from_IsPath text path =
    let utf8 : is_utf8 text ≡ true = is_utf8-from_IsUtf8 text path.utf8 in
    let short : leb (length text) 4096 ≡ true = search (rules, tests, path.short) in
    let other : bytes_eq text partial_name ≡ false = search (rules, tests, bytes_eq-Decides, path.not_partial) in
    rw (path.names, utf8, short, other) refl

-- one test that fails
no_names : (text : List ℕ) → list_all is_name (names text) ≡ false → is_path text ≡ false
no_names text bad = rw bad refl

not_utf8 : (text : List ℕ) → is_utf8 text ≡ false → is_path text ≡ false
not_utf8 text bad = and_left _ _ (and_left _ _ (and_right (list_all is_name (names text)) (is_utf8 text) bad))

too_long : (text : List ℕ) → leb (length text) 4096 ≡ false → is_path text ≡ false
too_long text bad = and_left _ _ (and_right (list_all is_name (names text) && is_utf8 text) (leb (length text) 4096) bad)

partial : (text : List ℕ) → text ≡ partial_name → is_path text ≡ false
partial text is =
    let same : not (bytes_eq text partial_name) ≡ false = rw is refl in
    and_right (list_all is_name (names text) && is_utf8 text && leb (length text) 4096) _ same

pub is_utf8-from_not : (text : List ℕ) → ¬ (IsUtf8 text) → is_utf8 text ≡ false
is_utf8-from_not text bad = go (is_utf8 text) refl
  where
    go : (is : Bool) → is_utf8 text ≡ is → is ≡ false
    go false e = refl
    go true e = absurd (bad (IsUtf8-from_is_utf8 text e))

pub is_path-from_fault : (fault : PathFault) (text : List ℕ) → fault ≢ OutOfMemory → IsFirstFault fault text → is_path text ≡ false
is_path-from_fault Empty text other is = rw is refl
is_path-from_fault TooLong text other is = too_long text (search (rules, tests, is))
is_path-from_fault NotUtf8 text other is = not_utf8 text (is_utf8-from_not text is.2)
is_path-from_fault BadPart text other is = elim is.3 [ inl e ↦ partial text e | inr bad ↦ no_names text bad ]
is_path-from_fault OutOfMemory text other is = absurd (other refl)

pub refused_path : {E : Type 0} (answer : Result Bool E) (fault : PathFault) (text : List ℕ)
    → IfOk answer (λ is. (is ≡ false) × (fault ≢ OutOfMemory)) → IsFirstFault fault text → IfOk answer (λ is. is ≡ is_path text)
refused_path (Ok is) fault text refused first = refused.0 ∙ sym (is_path-from_fault fault text refused.1 first)
refused_path (Err e) fault text refused first = tt
