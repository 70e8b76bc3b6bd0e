-- A name that is written in pieces and synced.
use Rattle.std.proofs.Common.{◌≡◌, ◌++◌, List, ℕ, ◌∙◌, ap}
use Rattle.bisync_device.specs.declared.works.WorkName.{WorkName}
use Rattle.bisync_device.specs.WorkFolder.{Held, Kept, Loose, WorkFolder, at, with_held, appended, synced}
use Rattle.bisync_device.proofs.WorkFolderLaws.{with_held-twice, at-with_held}

module _ (n : WorkName) (text : List ℕ) (first f g : WorkFolder) (loose : f ≡ with_held n (Loose text) first) where
  loose_at : at f n ≡ Loose text
  loose_at = ap (λ (x : WorkFolder). at x n) loose ∙ at-with_held n (Loose text) first

  pub loose_more : (piece : List ℕ) → g ≡ with_held n (appended piece (at f n)) f → g ≡ with_held n (Loose (text ++ piece)) first
  loose_more piece did =
      did ∙ ap (λ (h : Held). with_held n (appended piece h) f) loose_at ∙ ap (with_held n (Loose (text ++ piece))) loose ∙ with_held-twice n (Loose (text ++ piece)) (Loose text) first

  pub loose_synced : g ≡ with_held n (synced (at f n)) f → g ≡ with_held n (Kept text) first
  loose_synced did =
      did ∙ ap (λ (h : Held). with_held n (synced h) f) loose_at ∙ ap (with_held n (Kept text)) loose ∙ with_held-twice n (Kept text) (Loose text) first
