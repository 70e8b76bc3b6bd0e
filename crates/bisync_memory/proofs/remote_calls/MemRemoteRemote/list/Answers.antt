use Rattle.std.proofs.Common.{refl, sym, ap, ◌∙◌, map, subst}
use Rattle.std.specs.List.Sorted.{IsPermutation}
use Rattle.std.proofs.lemmas.List.Sorted.{IsPermutation-refl}
use Rattle.bisync_tree.specs.Rows.{item_of}
use Rattle.bisync_memory.proofs.MapLemmas.{entries-map_of}
use Rattle.bisync_memory.proofs.remote_calls.MemRemoteRemote.list.Goals as goal

pub returns-in-Ok-list_files-clause-items : goal.returns-in-Ok-list_files-clause-items
returns-in-Ok-list_files-clause-items c =
    let adds = c.in-Ok-list_files.ensures.items in
    record {
      more = adds.more;
      added = adds.added;
      items = λ ok tells. subst (IsPermutation adds.more) (adds.all refl ∙ ap (map item_of) (sym (entries-map_of c.args.self.now.store.files.entries c.in-Ok-list_files.ensures.ordered))) (IsPermutation-refl adds.more);
      paths = λ ok tells. adds.paths;
    }
