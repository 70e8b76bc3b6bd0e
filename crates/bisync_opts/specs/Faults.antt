-- What an error of clap's comes to.
use Rattle.clap.specs.declared.error.kind.ErrorKind.{ErrorKind}
use Rattle.clap.specs.declared.error.kind.ErrorKind.TheVariants as kind
use Rattle.bisync_opts.specs.declared.faults.OptFault.{OptFault}
use Rattle.bisync_opts.specs.declared.faults.OptFault.TheVariants.{Usage, OutOfMemory}
use Rattle.bisync_opts.specs.declared.faults.UsageKind.TheVariants.{Words}

-- memory was refused, or clap refused the words
abbrev pub fault_by : ErrorKind → OptFault
fault_by kind.OutOfMemory = OutOfMemory
fault_by _ = Usage Words
