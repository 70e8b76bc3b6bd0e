use Rattle.std.proofs.Common.{◌∙◌, sym}
use Rattle.bisync_memory.specs.Store.{store_tree, store_folders}
use Rattle.bisync_memory.proofs.FolderLemmas.{made_way, kept_all}
use Rattle.bisync_memory.proofs.stores.Store.put_over.Goals as goal

pub returns-then-not-makes_way : goal.returns-then-not-makes_way
returns-then-not-makes_way c = record {
  ok = record {
    tree = c.in_ok-put.ensures.ok.tree;
    folders = λ q. kept_all (store_folders c.args.self.now) (store_tree c.args.self.now) c.args.path.now q _ (sym c.if-not-makes_way.ensures) (c.in_ok-put.ensures.ok.folders q);
  };
  err = tt;
}

pub returns : goal.returns
returns c = record {
  ok = record {
    tree = c.in_ok-put.ensures.ok.tree;
    folders = λ q.
        c.clear.ensures q
        ∙ made_way (store_folders c.args.self.now) (store_tree c.args.self.now) c.args.path.now q _ (sym c.if-not-makes_way.ensures) (c.in_ok-put.ensures.ok.folders q);
  };
  err = tt;
}
