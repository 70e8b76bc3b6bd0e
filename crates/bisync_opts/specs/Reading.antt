-- Steps in the reading of words: each gives a value, or the reason for which the words are refused.
use Rattle.std.specs.Prelude.{◌≡◌, ⊤, Bool, List, [], ◌∷◌, Option, Some, None, Result, Ok, Err, IfOk, IfErr, codes, unwrap_or, if◌then◌else◌}
use Rattle.std.specs.List.{list_all}
use Rattle.std.specs.Str.{bytes_eq, is_utf8}
use Rattle.clap.specs.Faults.{fault_of}
use Rattle.clap.specs.Kinds.{Kinds}
use Rattle.clap.specs.Simple.{App, matches_of}
use Rattle.clap.specs.Matches.{found_of}
use Rattle.clap.specs.Walk.{Row, first_of, rows_of}
use Rattle.clap.specs.declared.parser.matches.ArgMatches.{ArgMatches}
use Rattle.bisync_opts.specs.Conversions.{filled}
use Rattle.bisync_opts.specs.Texts.{Text}
use Rattle.bisync_opts.specs.declared.faults.OptFault.{OptFault}
use Rattle.bisync_opts.specs.declared.faults.OptFault.TheVariants.{Usage, OutOfMemory}
use Rattle.bisync_opts.specs.declared.faults.OptName.{OptName}
use Rattle.bisync_opts.specs.declared.faults.UsageKind.{UsageKind}
use Rattle.bisync_opts.specs.declared.faults.UsageKind.TheVariants.{Words, Value}

-- the next step is made with the value, and the first refusal stays
infixl 10 ◌>>=◌
unfoldable pub ◌>>=◌ : {A B : Type 0} → Result A UsageKind → (A → Result B UsageKind) → Result B UsageKind
(Ok x) >>= next = next x
(Err kind) >>= next = Err kind

-- the reason is the one for which nothing is read, or memory was refused
abbrev pub IsRefusal : {A : Type 0} → Result A UsageKind → OptFault → Type 0
IsRefusal read (Usage kind) = read ≡ Err kind
IsRefusal read OutOfMemory = ⊤

-- the answer is what is read, or memory was refused
pub record IsReadAs {A : Type 0} (read : Result A UsageKind) (answer : Result A OptFault) : Type 0 where
  pub ok : IfOk answer (λ value. read ≡ Ok value)
  pub refused : IfErr answer (IsRefusal read)

-- the words, where each is UTF-8
abbrev pub utf8_words : List Text → Result (List Text) UsageKind
utf8_words words = if list_all is_utf8 words then Ok words else Err Words

abbrev pub taken_by : Kinds → List Row → Result (List Row) UsageKind
taken_by [] matches = Ok matches
taken_by (kind ∷ kinds) matches = Err Words

-- clap's matches of the words, where it finds no fault with them
abbrev pub taken : App → List Text → Result (List Row) UsageKind
taken app words = taken_by (fault_of app words) (matches_of app words)

-- what clap's matches hold of the command itself
abbrev pub rows_in : ArgMatches → List Row
rows_in matches = rows_of (found_of matches)

-- the text that was given under a name, or its default
abbrev pub text_of : List Row → Text → Text → Text
text_of matches name default = unwrap_or (first_of name matches) default

-- clap keeps `true` or `false` for a flag
abbrev pub is_set : List Row → Text → Bool
is_set matches name = bytes_eq (text_of matches name (codes "false")) (codes "true")

-- the value of an option's text, or the refusal of the option
abbrev pub value : {A : Type 0} → OptName → Option A → Result A UsageKind
value name None = Err (Value name)
value name (Some x) = Ok x

-- the text that was given, which isn't empty, or that none was given
abbrev pub if_given : OptName → Option Text → Result (Option Text) UsageKind
if_given name None = Ok None
if_given name (Some text) = value name (filled text) >>= λ filled. Ok (Some filled)
