use Rattle.std.proofs.Common.{◌∙◌, ap, ◌||◌}
use Rattle.std.specs.Str.{bytes_eq}
use Rattle.bisync_device.specs.FolderSet.{is_below}
use Rattle.bisync_memory.proofs.FolderLemmas.{has-insert}
use Rattle.bisync_memory.proofs.folder_maps.with_folder.Goals as goal

pub returns : goal.returns
returns c = λ q.
    has-insert _ c.insert.new.self.entries c.in_ok-at.field-0 tt c.in_ok-insert.ensures.updates.0 q
    ∙ (λ i. (c.in_ok-add_above.ensures q ∙ ap (λ b. b || is_below q c.args.path.now) (c.in_ok-made.ensures q)) i || bytes_eq q (c.in_ok-at.ensures i))
