-- Times compared and kept in whole windows.
use Rattle.std.specs.Prelude.{◌*ℤ◌, ℕ, ℤ, pos, int_div, nat_lt, if◌then◌else◌}
use Rattle.bisync_tree.specs.declared.windows.Window.{Window}
use Rattle.bisync_tree.specs.declared.windows.Window.TheVariants.{Ns1, Ns100, Us1, Ms1, S1, S2}

abbrev pub window_ns : Window → ℕ
window_ns Ns1 = 1
window_ns Ns100 = 100
window_ns Us1 = 1_000
window_ns Ms1 = 1_000_000
window_ns S1 = 1_000_000_000
window_ns S2 = 2_000_000_000

-- the number of the window in which a time lies, rounded towards zero
unfoldable pub window_number : Window → ℤ → ℤ
window_number w time = int_div time (pos (window_ns w))

-- the time that a remote of this window keeps
unfoldable pub brought_time : Window → ℤ → ℤ
brought_time w time = window_number w time *ℤ pos (window_ns w)

-- the greater of two windows
abbrev pub coarser : Window → Window → Window
coarser w v = if nat_lt (window_ns w) (window_ns v) then v else w
