-- A list that was refused added nothing.
use Rattle.std.proofs.Common.{rules, []}
use Rattle.bisync_local.proofs.folder_calls.LocalRemoteFolders.list_folders.Goals as goal

pub returns-in-Ok-clause-texts : goal.returns-in-Ok-clause-texts
returns-in-Ok-clause-texts g c = record { more = []; added = search rules; texts = search rules; paths = search rules }

pub returns-clause-texts : goal.returns-clause-texts
returns-clause-texts g c = record { more = []; added = search rules; texts = search rules; paths = search rules }
