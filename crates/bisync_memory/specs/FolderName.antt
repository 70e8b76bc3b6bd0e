-- What the name of a folder is.
use Rattle.std.specs.Prelude.{◌≡◌, ◌⊎◌, ℕ, List}
use Rattle.bisync_text.specs.Path.{IsPath, partial_name}

-- a path, or the name of the partial file, which is no path but may stand above one
abbrev pub IsFolderName : List ℕ → Type 0
IsFolderName text = IsPath text ⊎ (text ≡ partial_name)
