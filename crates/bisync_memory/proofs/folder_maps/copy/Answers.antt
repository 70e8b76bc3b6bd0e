use Rattle.std.proofs.Common.{◌∙◌, ap, ◌||◌}
use Rattle.std.specs.Str.{bytes_eq}
use Rattle.std.specs.Map.Iter.{deref}
use Rattle.std.proofs.lemmas.Map.Iter.{rest_more}
use Rattle.bisync_device.specs.FolderSet.{has_folder}
use Rattle.bisync_memory.specs.Store.{folder_set}
use Rattle.bisync_memory.proofs.FolderLemmas.{copied_none, copied_more, has-insert}
use Rattle.bisync_memory.proofs.folder_maps.copy.Goals as goal

pub loop-name-init : goal.loop-name-init
loop-name-init c =
    copied_none c.args.folders.now.entries c.new-copy.result.entries c.into_iter-name-iterator.result c.new-copy.ensures.empty
    (c.into_iter-name-iterator.ensures.into_iter_gives ∙ c.keys-name-items.ensures.rest)

pub loop-name-preserved : goal.loop-name-preserved
loop-name-preserved c =
    copied_more c.args.folders.now.entries c.loop-name.copy.entries c.insert.new.self.entries c.loop-name.name-iterator c.next.new.self c.in-Some.name.now
    (rest_more deref _ _ _ c.in-Some.name c.in-Some.is c.next.ensures.steps)
    c.loop-name.invariant
    (λ q. has-insert c.loop-name.copy.entries c.insert.new.self.entries c.in_ok-copy.field-0 tt c.in_ok-insert.ensures.updates.0 q
    ∙ ap (λ k. has_folder (folder_set c.loop-name.copy.entries) q || bytes_eq q k) c.in_ok-copy.ensures)
