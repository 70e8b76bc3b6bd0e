-- The bytes of a lock's text in the program.
use Rattle.std.specs.Prelude.{List, ℕ, None}
use Rattle.bisync_work.specs.declared.lock_texts.LockText.{LockText}
use Rattle.bisync_work.specs.declared.lock_texts.LockText.TheVariants.{Never, At}
use Rattle.bisync_work.specs.LockTexts.{lock_text}

abbrev pub lock_bytes : LockText → List ℕ
lock_bytes Never = lock_text None
lock_bytes (At text) = text
