-- The options whose text is one of a few words.
use Rattle.std.specs.Prelude.{ℕ, List, [], ◌∷◌, Option, Some, None, codes, if◌then◌else◌}
use Rattle.std.specs.Str.{bytes_eq}
use Rattle.bisync_tree.specs.declared.options.Prefer.{Prefer}
use Rattle.bisync_tree.specs.declared.options.Prefer.TheVariants.{Nobody, Path1, Path2, Newer, Older, Larger, Smaller}
use Rattle.bisync_tree.specs.declared.options.Loser.{Loser}
use Rattle.bisync_tree.specs.declared.options.Loser.TheVariants.{Num, Pathname, Delete}
use Rattle.bisync_tree.specs.declared.windows.Window.{Window}
use Rattle.bisync_tree.specs.declared.windows.Window.TheVariants.{Ns1, Ns100, Us1, Ms1, S1, S2}
use Rattle.bisync_opts.specs.declared.options.CheckSync.{CheckSync}
use Rattle.bisync_opts.specs.declared.options.CheckSync.TheVariants.{Always, Never, Only}

-- the value that stands beside the text
abbrev pub chosen : {A : Type 0} → List (List ℕ × A) → List ℕ → Option A
chosen [] text = None
chosen (choice ∷ choices) text = if bytes_eq text choice.0 then Some choice.1 else chosen choices text

abbrev pub preference : List ℕ → Option Prefer
preference = chosen
    ((codes "none", Nobody)
    ∷ (codes "path1", Path1)
    ∷ (codes "path2", Path2)
    ∷ (codes "newer", Newer)
    ∷ (codes "older", Older)
    ∷ (codes "larger", Larger)
    ∷ (codes "smaller", Smaller)
    ∷ [])

abbrev pub loser : List ℕ → Option Loser
loser = chosen
    ((codes "num", Num)
    ∷ (codes "pathname", Pathname)
    ∷ (codes "delete", Delete)
    ∷ [])

abbrev pub window : List ℕ → Option Window
window = chosen
    ((codes "1ns", Ns1)
    ∷ (codes "100ns", Ns100)
    ∷ (codes "1us", Us1)
    ∷ (codes "1ms", Ms1)
    ∷ (codes "1s", S1)
    ∷ (codes "2s", S2)
    ∷ [])

abbrev pub check_sync : List ℕ → Option CheckSync
check_sync = chosen
    ((codes "true", Always)
    ∷ (codes "false", Never)
    ∷ (codes "only", Only)
    ∷ [])
