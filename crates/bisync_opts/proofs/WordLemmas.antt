-- What clap makes of words, as a step in reading them.
use Rattle.std.proofs.Common.{◌≡◌, ◌⊎◌, ◌∙◌, ◌+◌, ◌<◌, ◌++◌, ℕ, true, false, List, [], ◌∷◌, Result, Ok, Err, Bor, IsUtf8, get_or, inl, inr, length, map, refl, sym, take}
use Rattle.std.proofs.lemmas.Bool.{and_parts}
use Rattle.std.proofs.lemmas.List.{map-append, take_more}
use Rattle.std.proofs.lemmas.List.Folds.{list_all_at, list_all_more}
use Rattle.std.proofs.lemmas.Str.{is_utf8-from_IsUtf8}
use Rattle.std.specs.List.{list_all}
use Rattle.std.specs.Result.{IsErrAnd}
use Rattle.std.specs.Str.{is_utf8}
use Rattle.clap.specs.Faults.{fault_of, is_simple_and_free, is_free_app}
use Rattle.clap.specs.Kinds.{Kinds, HasKind, IsAmong}
use Rattle.clap.specs.Simple.{App, built, is_simple, matches_of}
use Rattle.clap.specs.Values.{kind_of}
use Rattle.clap.specs.Walk.{Row, Text}
use Rattle.clap.specs.declared.error.Error.{Error}
use Rattle.clap.specs.declared.error.kind.ErrorKind.{ErrorKind}
use Rattle.clap.specs.declared.error.kind.ErrorKind.TheVariants as kind
use Rattle.bisync_opts.proofs.PathLemmas.{is_utf8-from_not}
use Rattle.bisync_opts.proofs.Steps.{goes_on_at, leaves_at}
use Rattle.bisync_opts.specs.Faults.{fault_by}
use Rattle.bisync_opts.specs.Reading.{◌>>=◌, IsReadAs, IsRefusal, taken, taken_by, utf8_words}
use Rattle.bisync_opts.specs.declared.faults.OptFault.{OptFault}
use Rattle.bisync_opts.specs.declared.faults.UsageKind.{UsageKind}
use Rattle.bisync_opts.specs.declared.faults.UsageKind.TheVariants.{Words}

pub is_simple-from : (app : App) → is_simple_and_free app ≡ true → is_simple app ≡ true
is_simple-from app both = (and_parts (is_simple app) (is_free_app (built app)) both).0

pub taken_ok : (app : App) (words : List Text) (rows : List Row) → fault_of app words ≡ [] → rows ≡ matches_of app words → taken app words ≡ Ok rows
taken_ok app words rows none is = rw (none, is) refl

-- each kind but want of memory refuses the words
words_refused : (k : ErrorKind) → IsRefusal {A = List Row} (Err Words) (fault_by k)
words_refused kind.OutOfMemory = tt
words_refused _ = refl

by_kinds : (kinds : Kinds) (rows : List Row) (k : ErrorKind) → (k ≡ kind.OutOfMemory) ⊎ IsAmong k kinds → IsRefusal (taken_by kinds rows) (fault_by k)
by_kinds kinds rows k (inl memory) = rw memory tt
by_kinds [] rows k (inr among) = absurd among
by_kinds (first ∷ more) rows k (inr among) = words_refused k

pub taken_refused : (app : App) (words : List Text) (e : Error) → HasKind (fault_of app words) e → IsRefusal (taken app words) (fault_by (kind_of e))
taken_refused app words e has = by_kinds (fault_of app words) (matches_of app words) (kind_of e) has

-- one more word is UTF-8
pub more_texts : (texts : List (Bor Text)) (words : List Text) (i : ℕ) (text : Bor Text) (word : Text) → i < length words
    → map (λ t. t.now) texts ≡ take i words → list_all is_utf8 (take i words) ≡ true → word ≡ get_or words i word → text.now ≡ word → IsUtf8 word
    → (map (λ t. t.now) (texts ++ text ∷ []) ≡ take (i + 1) words) × (list_all is_utf8 (take (i + 1) words) ≡ true)
more_texts texts words i text word before is_texts are_utf8 item same utf8 = (
  (let at : text.now ≡ get_or words i word = same ∙ item in
      map-append (λ (t : Bor Text). t.now) texts (text ∷ []) ∙ (rw (is_texts, at) (sym (take_more words i word before)))),
  (let here : is_utf8 (get_or words i word) ≡ true = rw (← item) (is_utf8-from_IsUtf8 word utf8) in
      rw (list_all_more is_utf8 words i word before, are_utf8, here) refl),
)

-- one word is not UTF-8
pub refused_word : (words : List Text) (i : ℕ) (word : Text) → i < length words → word ≡ get_or words i word → ¬ (IsUtf8 word)
    → utf8_words words ≡ Err Words
refused_word words i word before item bad =
    let here : is_utf8 (get_or words i word) ≡ false = rw (← item) (is_utf8-from_not word bad) in
    let some : list_all is_utf8 words ≡ false = list_all_at is_utf8 words i word before here in
    rw some refl

-- the words that were taken give what is read of their matches
pub read_from : {A : Type 0} (read : List Row → Result A UsageKind) (app made : App) (words : List Text) (texts slice : List (Bor Text)) (rows : List Row)
    (answer : Result A OptFault) → utf8_words words ≡ Ok (map (λ t. t.now) texts) → made ≡ app → slice ≡ texts
    → taken made (map (λ t. t.now) slice) ≡ Ok rows → IsReadAs (read rows) answer
    → IsReadAs (utf8_words words >>= λ words. taken app words >>= read) answer
read_from read app made words texts slice rows answer utf8 is_app is_texts took known =
    let took_words : taken app (map (λ t. t.now) texts) ≡ Ok rows = rw (is_app, is_texts) at took in
    goes_on_at _ _ _ _ utf8 (goes_on_at _ read _ _ took_words known)

pub refused_from : {A : Type 0} (read : List Row → Result A UsageKind) (app made : App) (words : List Text) (texts slice : List (Bor Text)) (fault : OptFault)
    (answer : Result A OptFault) → utf8_words words ≡ Ok (map (λ t. t.now) texts) → made ≡ app → slice ≡ texts
    → IsRefusal (taken made (map (λ t. t.now) slice)) fault → IsErrAnd answer (λ e. e ≡ fault)
    → IsReadAs (utf8_words words >>= λ words. taken app words >>= read) answer
refused_from read app made words texts slice fault answer utf8 is_app is_texts refused is =
    let refused_words : IsRefusal (taken app (map (λ t. t.now) texts)) fault = rw (is_app, is_texts) at refused in
    goes_on_at _ _ _ _ utf8 (leaves_at _ read _ _ is refused_words)
