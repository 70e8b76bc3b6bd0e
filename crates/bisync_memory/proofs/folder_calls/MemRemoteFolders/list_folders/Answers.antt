use Rattle.std.proofs.Common.{refl, sym, ap, ◌∙◌, subst, not}
use Rattle.std.specs.Str.{bytes_eq}
use Rattle.std.specs.List.{filter}
use Rattle.std.specs.Map.{keys_of}
use Rattle.std.specs.List.Sorted.{IsPermutation}
use Rattle.std.proofs.lemmas.List.Sorted.{IsPermutation-refl}
use Rattle.bisync_text.specs.Path.{partial_name}
use Rattle.bisync_memory.proofs.MapLemmas.{entries-map_of}
use Rattle.bisync_memory.proofs.folder_calls.MemRemoteFolders.list_folders.Goals as goal

pub returns-in-Ok-list_folders-clause-texts : goal.returns-in-Ok-list_folders-clause-texts
returns-in-Ok-list_folders-clause-texts c =
    let adds = c.in-Ok-list_folders.ensures.texts in
    record {
      more = adds.more;
      added = adds.added;
      texts = λ ok tells. subst (IsPermutation adds.more) (adds.all refl ∙ ap (λ es. filter (λ q. not (bytes_eq q partial_name)) (keys_of es)) (sym (entries-map_of c.args.self.now.store.folders.entries c.in-Ok-list_folders.ensures.ordered))) (IsPermutation-refl adds.more);
      paths = λ ok tells. adds.paths;
    }
