-- A list that was refused added nothing.
use Rattle.std.proofs.Common.{rules, []}
use Rattle.bisync_local.proofs.remotes.LocalRemoteRemote.list.Goals as goal

pub returns-in-Ok-clause-items : goal.returns-in-Ok-clause-items
returns-in-Ok-clause-items g c = record { more = []; added = search rules; items = search rules; paths = search rules }

pub returns-clause-items : goal.returns-clause-items
returns-clause-items g c = record { more = []; added = search rules; items = search rules; paths = search rules }
