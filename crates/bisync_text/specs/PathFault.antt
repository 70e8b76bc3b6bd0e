-- Which fault a text has. A text that is no path has exactly one of the first four, since each of them
-- excludes those before it. Want of memory is told of a path alone.
use Rattle.std.specs.Prelude.{◌≡◌, ◌≤◌, ◌<◌, ◌⊎◌, ℕ, false, List, [], length, IsUtf8}
use Rattle.std.specs.List.{list_all}
use Rattle.bisync_text.specs.Path.{IsPath, is_name, names, partial_name}
use Rattle.bisync_text.specs.declared.path.PathFault.{PathFault}
use Rattle.bisync_text.specs.declared.path.PathFault.TheVariants.{Empty, TooLong, NotUtf8, BadPart, OutOfMemory}

abbrev pub IsFirstFault : PathFault → List ℕ → Type 0
IsFirstFault Empty text = text ≡ []
IsFirstFault TooLong text = 4096 < length text
IsFirstFault NotUtf8 text = (0 < length text) × (length text ≤ 4096) × (¬ (IsUtf8 text))
IsFirstFault BadPart text = (0 < length text) × (length text ≤ 4096) × IsUtf8 text × ((text ≡ partial_name) ⊎ (list_all is_name (names text) ≡ false))
IsFirstFault OutOfMemory text = IsPath text
