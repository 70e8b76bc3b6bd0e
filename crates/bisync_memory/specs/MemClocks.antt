-- The moments of the clocks in memory.
use Rattle.std.specs.Prelude.{ℤ}
use Rattle.bisync_memory.specs.declared.clocks.MemClock.{MemClock}
use Rattle.bisync_memory.specs.declared.clocks.FixedClock.{FixedClock}

abbrev pub mem_moment : MemClock → ℤ
mem_moment clock = clock.moment

abbrev pub fixed_moment : FixedClock → ℤ
fixed_moment clock = clock.moment
