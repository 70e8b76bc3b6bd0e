use Rattle.std.proofs.Common.{◌≡◌, sym, ap, ◌∙◌, Some, option_copied}
use Rattle.bisync_tree.specs.Tree.{file_at, put, without}
use Rattle.bisync_device.specs.Remote.{renamed}
use Rattle.bisync_memory.specs.Store.{store_tree}
use Rattle.bisync_memory.proofs.RenameLemmas.{moves_itself, moves_file, same_path, other_path}
use Rattle.bisync_memory.proofs.stores.Store.rename.Goals as goal

pub returns-then-eq : goal.returns-then-eq
returns-then-eq c =
    let tree = store_tree c.args.self.now in
    let same = same_path c.args.from.now c.args.to.now _ c.eq.ensures c.if-eq.true in
    let there : file_at tree c.args.from.now ≡ Some c.in_ok-file.file = sym c.file.ensures ∙ ap option_copied c.unwrap-file.ensures ∙ ap Some (sym c.in_ok-file.ensures) in
    record {
      ok = record {
        tree = c.in_ok-put_over.ensures.ok.tree ∙ ap (λ p. put tree p c.in_ok-file.file) (sym same) ∙ moves_itself tree c.args.from.now c.in_ok-file.file there ∙ ap (renamed tree c.args.from.now) same;
        folders = c.in_ok-put_over.ensures.ok.folders;
      };
      err = tt;
    }

pub returns : goal.returns
returns c =
    let tree = store_tree c.args.self.now in
    let other = other_path c.args.from.now c.args.to.now _ c.eq.ensures c.if-eq.false in
    let there : file_at tree c.args.from.now ≡ Some c.in_ok-file.file = sym c.file.ensures ∙ ap option_copied c.unwrap-file.ensures ∙ ap Some (sym c.in_ok-file.ensures) in
    record {
      ok = record {
        tree = c.remove_file.ensures ∙ ap (λ t. without t c.args.from.now) c.in_ok-put_over.ensures.ok.tree ∙ moves_file tree c.args.from.now c.args.to.now c.in_ok-file.file other there;
        folders = c.in_ok-put_over.ensures.ok.folders;
      };
      err = tt;
    }
