-- What a text has that cannot be unquoted. Want of memory may be told of each text.
use Rattle.std.specs.Prelude.{⊤, ℕ, List}
use Rattle.bisync_text.specs.Quote.{IsBadQuote}
use Rattle.bisync_text.specs.declared.unquotes.QuoteFault.{QuoteFault}
use Rattle.bisync_text.specs.declared.unquotes.QuoteFault.TheVariants.{Bad, OutOfMemory}

abbrev pub IsQuoteFault : QuoteFault → List ℕ → Type 0
IsQuoteFault (Bad n) text = IsBadQuote text n
IsQuoteFault OutOfMemory text = ⊤
