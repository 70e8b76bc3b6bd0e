use Rattle.std.proofs.Common.{◌∙◌, sym, ap, rules, tests}
use Rattle.std.specs.List.{list_any}
use Rattle.std.proofs.lemmas.Iterator.Search.{any_from_yields_List}
use Rattle.std.proofs.lemmas.Iterator.Consumers.{YieldsList-from_rest}
use Rattle.bisync_device.specs.FolderSet.{is_below}
use Rattle.bisync_memory.proofs.FolderLemmas.{any-keys}
use Rattle.bisync_memory.proofs.MapLemmas.{entries-map_of}
use Rattle.bisync_memory.proofs.files.has_file_above.Goals as goal

pub returns : goal.returns
returns c =
    any_from_yields_List (λ p. is_below p c.args.path.now) _ _ _ c.any.ensures.ran (YieldsList-from_rest _ c.keys.ensures.rest) (λ x b q k. search (rules, tests))
    ∙ any-keys (λ p. is_below p c.args.path.now) c.args.files.now.entries
    ∙ ap (list_any (λ e. is_below e.0 c.args.path.now)) (sym (entries-map_of c.args.files.now.entries c.keys.ensures.ordered))
